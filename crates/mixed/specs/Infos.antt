-- The terms of an inequality as the code holds them.
use Rattle.std.specs.Prelude.{◌*◌, ◌+◌, ◌-◌, ◌<◌, ◌^◌, ◌≤◌, suc, zero, ℕ, get_or, cond, false, not, List, [], ◌++◌, ◌∷◌, map}
use Rattle.sat.specs.Clause.{Clauses}
use Rattle.sat.specs.Lit.{neg}
use Rattle.log_encoding.specs.Enumerate.{bounded}
use Rattle.log_encoding.specs.Terms.{Term}
use Rattle.mixed.specs.declared.LinearInfo.{LinearInfo}

-- the literal of threshold i, from 0: that of variable i, or, falling, the negations from the last variable down
unfoldable pub info_lit : LinearInfo → ℕ → ℕ
info_lit t i = cond t.falling (neg (t.first.0 + 2 * (t.count - 1 - i))) (t.first.0 + 2 * i)

-- the last k thresholds
abbrev pub thresholds : LinearInfo → ℕ → List ℕ
thresholds t zero = []
thresholds t (suc k) = info_lit t (t.count - suc k) ∷ thresholds t k

abbrev pub info_term : LinearInfo → Term
info_term t = record { weight = t.weight; lits = thresholds t t.count }

-- a term whose literals are numbers of a u32
pub record Small (t : LinearInfo) : Type 0 where
  pub top : t.first.0 + 2 * t.count < 2 ^ 32

-- the empty term, which stands in spare places
abbrev pub no_info : LinearInfo
no_info = record { weight = 0; falling = false; first = record { 0 = 0 }; count = 0 }

abbrev pub AllSmall : List LinearInfo → Type 0
AllSmall ts = (k : ℕ) → Small (get_or ts k no_info)

-- thresholds before the last term
unfoldable pub thresholds_before : List LinearInfo → ℕ
thresholds_before [] = 0
thresholds_before (t ∷ []) = 0
thresholds_before (t ∷ u ∷ us) = t.count + thresholds_before (u ∷ us)

-- what the last term can lose
unfoldable pub last_loss : List LinearInfo → ℕ
last_loss [] = 0
last_loss (t ∷ []) = t.weight * t.count
last_loss (t ∷ u ∷ us) = last_loss (u ∷ us)

-- what all terms can lose
unfoldable pub loss : List LinearInfo → ℕ
loss [] = 0
loss (t ∷ ts) = t.weight * t.count + loss ts

-- terms that fit into a table (mixed_table, specs/Table)
pub record InTable (ts : List LinearInfo) : Type 0 where
  pub few : thresholds_before ts < 24
  pub last : last_loss ts ≤ 24
  pub all : loss ts < 2 ^ 32

-- the term of minus the number
abbrev pub negated_info : LinearInfo → LinearInfo
negated_info t = record { weight = t.weight; falling = not t.falling; first = t.first; count = t.count }

-- both inequalities of an equation, the second over the negated terms; the terms can lose `total`
abbrev pub equated : List LinearInfo → ℕ → ℕ → ℕ → Clauses
equated ts above below total =
    bounded (map info_term ts) above below ++ bounded (map info_term (map negated_info ts)) (below + total) above
