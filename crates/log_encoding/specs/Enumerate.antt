-- The clauses of one inequality, after `encode_sub` of mixed.rs: they say that what the terms lack of their greatest values, added
-- up, is at most the slack. `Order` has the same in integers, as the Rust writes it, and proofs/Order that the two are equal.
use Rattle.std.specs.Prelude.{◌*◌, ◌-◌, ◌/◌, suc, ℕ, leb, get_or, length, cond, List, [], ◌++◌, ◌∷◌}
use Rattle.sat.specs.Clause.{Clauses}
use Rattle.log_encoding.specs.Terms.{Term}

-- The threshold l is missed, at a cost: where the slack allows that, `more` goes on with what is left of it; else the clause, with l
-- at its end, says that it may not.
abbrev pub missed : (ℕ → List ℕ → Clauses) → ℕ → ℕ → ℕ → List ℕ → Clauses
missed more cost l slack prefix =
    cond (leb cost slack) (more (slack - cost) (prefix ++ (l ∷ []))) ((prefix ++ (l ∷ [])) ∷ [])

-- a term that is not the last: a threshold that is missed costs the weight for itself and for each threshold after it
abbrev pub branch : (ℕ → List ℕ → Clauses) → ℕ → List ℕ → ℕ → List ℕ → Clauses
branch more w [] slack prefix = more slack prefix
branch more w (l ∷ ls) slack prefix = missed more (w * suc (length ls)) l slack prefix ++ branch more w ls slack prefix

-- the last term: it has to reach the first threshold that the slack allows
abbrev pub final : ℕ → List ℕ → ℕ → List ℕ → Clauses
final w ls slack prefix =
    cond (leb (w * length ls) slack) [] ((prefix ++ (get_or ls (length ls - slack / w - 1) 0 ∷ [])) ∷ [])

-- going down through the terms left, with the clause begun
unfoldable pub enumerate : List Term → ℕ → List ℕ → Clauses
enumerate [] slack prefix = []
enumerate (t ∷ []) slack prefix = final t.weight t.lits slack prefix
enumerate (t ∷ u ∷ ts) slack prefix = branch (enumerate (u ∷ ts)) t.weight t.lits slack prefix

-- the clauses of an inequality whose slack is a - b; below 0, no choice will do
unfoldable pub bounded : List Term → ℕ → ℕ → Clauses
bounded ts a b = cond (leb b a) (enumerate ts (a - b) []) ([] ∷ [])
