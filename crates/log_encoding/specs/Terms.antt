-- The terms of one inequality, without negative numbers: what each lacks of its greatest value.
use Rattle.std.specs.Prelude.{◌*◌, ◌+◌, ◌-◌, ◌<◌, ℕ, length, List, [], ◌++◌, ◌∷◌}
use Rattle.sat.specs.Clause.{Assignment}
use Rattle.sat.specs.Count.{Monotone, lead}
use Rattle.sat.specs.Lit.{neg}

-- The literals are the term's thresholds, rising: literal j says that the term is at least its (j + 1)-th value above the least.
-- Values next to each other differ by the weight.
pub record Term : Type 0 where
  pub weight : ℕ
  pub lits : List ℕ

abbrev pub term : ℕ → List ℕ → Term
term w ls = record { weight = w; lits = ls }

-- the thresholds of minus a number, from those of the number: negated, from the last
abbrev pub flip : List ℕ → List ℕ
flip [] = []
flip (l ∷ ls) = flip ls ++ (neg l ∷ [])

-- literals that count 1 each
abbrev pub singles : List ℕ → List Term
singles [] = []
singles (l ∷ ls) = term 1 (l ∷ []) ∷ singles ls

-- what a term lacks of its greatest value
abbrev pub loss : Assignment → Term → ℕ
loss α t = t.weight * (length t.lits - lead α t.lits)

abbrev pub losses : Assignment → List Term → ℕ
losses α [] = 0
losses α (t ∷ ts) = loss α t + losses α ts

-- what the last term asks: only one of its thresholds is looked at, so its literals have to be ordered
abbrev pub LastMonotone : Assignment → List Term → Type 0
LastMonotone α [] = Unit
LastMonotone α (t ∷ []) = (0 < t.weight) × Monotone α t.lits
LastMonotone α (t ∷ u ∷ ts) = LastMonotone α (u ∷ ts)
