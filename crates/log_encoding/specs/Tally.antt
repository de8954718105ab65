-- The size of one inequality's clauses, from weights, numbers of thresholds and the slack alone.
use Rattle.std.specs.Prelude.{◌*◌, ◌+◌, ◌-◌, suc, zero, ℕ, leb, length, cond, List, [], ◌∷◌}
use Rattle.log_encoding.specs.Terms.{Term}

-- a term's weight and how many thresholds it has
pub record Shape : Type 0 where
  pub weight : ℕ
  pub size : ℕ

abbrev pub shapes : List Term → List Shape
shapes [] = []
shapes (t ∷ ts) = record { weight = t.weight; size = length t.lits } ∷ shapes ts

-- What `weight-of weigh` gives, in one walk. The clause begun has d literals.
module _ (weigh : ℕ → ℕ) where
  abbrev pub tally_branch : (ℕ → ℕ → ℕ) → ℕ → ℕ → ℕ → ℕ → ℕ
  tally_branch more w zero slack d = more slack d
  tally_branch more w (suc n) slack d =
      cond (leb (w * suc n) slack) (more (slack - w * suc n) (d + 1)) (weigh (d + 1)) + tally_branch more w n slack d

  abbrev pub tally : List Shape → ℕ → ℕ → ℕ
  tally [] slack d = 0
  tally (t ∷ []) slack d = cond (leb (t.weight * t.size) slack) 0 (weigh (d + 1))
  tally (t ∷ u ∷ ts) slack d = tally_branch (tally (u ∷ ts)) t.weight t.size slack d
