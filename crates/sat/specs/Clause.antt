-- Assignments, clauses, and what satisfies them.
use Rattle.std.specs.Prelude.{◌%◌, ◌/◌, ℕ, eqb, Bool, ◌&&◌, ◌||◌, cond, false, not, true, List, [], ◌∷◌}

abbrev pub Assignment : Type 0
Assignment = ℕ → Bool

-- a literal that holds
unfoldable pub holds : Assignment → ℕ → Bool
holds α l = cond (eqb (l % 2) 0) (α (l / 2)) (not (α (l / 2)))

abbrev pub bit : Assignment → ℕ → ℕ
bit α l = cond (holds α l) 1 0

-- a clause: some literal holds
abbrev pub clause_sat : Assignment → List ℕ → Bool
clause_sat α [] = false
clause_sat α (l ∷ ls) = holds α l || clause_sat α ls

-- a list of clauses: each has a literal that holds
abbrev pub sat : Assignment → List (List ℕ) → Bool
sat α [] = true
sat α (c ∷ cs) = clause_sat α c && sat α cs

abbrev pub Clauses : Type 0
Clauses = List (List ℕ)
