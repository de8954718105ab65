-- Assignments as bytes (document 01: 0 or 1 for each variable): literal 2v holds where byte v is 1, 2v + 1 where it is 0, and neither
-- where v is out of range or the byte is another.
use Rattle.std.specs.Prelude.{◌<◌, ℕ, eqb, get_or, length, Bool, ◌&&◌, ◌||◌, cond, false, true, List, [], ◌∷◌, ◌≡◌}
use Rattle.sat.specs.Clause.{Clauses}
use Rattle.sat.specs.Lit.{is_negated, var}

abbrev pub Bits : List ℕ → Type 0
Bits [] = Unit
Bits (b ∷ bs) = (b < 2) × Bits bs

-- an assignment of n variables
pub record IsAssignment (n : ℕ) (bytes : List ℕ) : Type 0 where
  pub long : length bytes ≡ n
  pub bits : Bits bytes

unfoldable pub lit_holds : List ℕ → ℕ → Bool
lit_holds bytes l = eqb (get_or bytes (var l) 2) (cond (is_negated l) 0 1)

abbrev pub clause_holds : List ℕ → List ℕ → Bool
clause_holds bytes [] = false
clause_holds bytes (l ∷ ls) = lit_holds bytes l || clause_holds bytes ls

-- every clause has a literal that holds
abbrev pub all_hold : List ℕ → Clauses → Bool
all_hold bytes [] = true
all_hold bytes (c ∷ cs) = clause_holds bytes c && all_hold bytes cs
