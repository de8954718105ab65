-- One column of Eq: its ordering clauses and its two inequalities.
use Prim.Native.Nat.{◌*◌, ◌+◌, ◌≤◌, suc, ℕ}
use lib.ListN.{length, length-map}
use mathlib.Core.Bool.{Bool, So, ◌&&◌, ◌||◌, cond, false, not, true}
use mathlib.Core.List.{List, [], ◌∷◌, map}
use mathlib.Core.Logic.Iff
use mathlib.Core.Logic.{◌↔◌}
use mathlib.Core.Path.{◌≡◌, refl}
use native.Mathlib.Omega.{arith}
use Rattle.arithmetic.proofs.Tests.{never}
use Rattle.sat.specs.Clause.{Assignment, holds, sat}
use Rattle.sat.specs.Count.{Monotone, count, lead}
use Rattle.sat.specs.Lit.{neg}
use Rattle.sat.proofs.Clauses.{sat_both}
use Rattle.sat.proofs.Counts.{count_le, count_neg, monotone_one}
use Rattle.sat.proofs.Lits.{holds_neg}
use Rattle.log_encoding.specs.Terms.{flip, term}
use Rattle.log_encoding.proofs.Enumerate.{bounded_sat}
use Rattle.log_encoding.proofs.Flip.{count_flip, length_flip, monotone_flip}
use Rattle.log_encoding.specs.Adder2.{eq_column, eq_column_ge, eq_column_le, ordering}

-- two literals next to each other, and the rest
pair : (s t r : Bool) (L C : ℕ) → So r ↔ (cond t (suc L) 0 ≡ cond t 1 0 + C)
    → So ((s || (not t || false)) && r) ↔ (cond s (suc (cond t (suc L) 0)) 0 ≡ cond s 1 0 + (cond t 1 0 + C))
pair true t r L C e = (λ h. omega (arith, e.0 h), λ h. e.1 (omega arith))
pair false true r L C e = (never, λ h. absurd (omega arith))
pair false false r L C e = (λ h. omega (arith, e.0 h), λ h. e.1 (omega arith))

pub ordering_sat : (α : Assignment) (ls : List ℕ) → So (sat α (ordering ls)) ↔ Monotone α ls
ordering_sat α [] = (λ h. refl, λ h. refl)
ordering_sat α (a ∷ []) = (λ h. monotone_one α a, λ h. refl)
ordering_sat α (a ∷ b ∷ ls) =
    rw holds_neg (pair (holds α a) (holds α b) (sat α (ordering (b ∷ ls))) (lead α ls) (count α ls) (ordering_sat α (b ∷ ls)))

module _ (α : Assignment) (own carry next : List ℕ) (x y : ℕ) (falls : Monotone α carry) (falls' : Monotone α next) where
  pub eq_column_sat : So (sat α (eq_column own carry x next y)) ↔ (x + count α own + count α carry ≡ 2 * count α next + y)
  unfolding eq_column
  eq_column_sat =
      Iff.trans
      (sat_both α (eq_column_ge own carry x next y) (eq_column_le own carry x next y)) (
        λ h. let a = up.0 h.0 in let b = down.0 h.1 in omega arith,
        λ h. (up.1 (omega arith), down.1 (omega arith)),
      )
    where
      up : So (sat α (eq_column_ge own carry x next y)) ↔ (2 * count α next + y ≤ x + count α own + count α carry)
      up =
          Iff.trans
          (bounded_sat α own (term 1 carry) (term 2 (flip next) ∷ []) (omega arith, monotone_flip α next falls') (x + length own + length carry) y)
          (omega (
            arith,
            count_le α own,
            count_le α carry,
            length_flip next,
            monotone_flip α next falls',
            count_flip α next,
          ))

      down : So (sat α (eq_column_le own carry x next y)) ↔ (x + count α own + count α carry ≤ 2 * count α next + y)
      down =
          Iff.trans
          (bounded_sat α (map neg own) (term 1 (flip carry)) (term 2 next ∷ []) (omega arith, falls') (y + 2 * length next) x)
          (omega (
            arith,
            count_neg α own,
            length-map own neg,
            count_le α next,
            length_flip carry,
            monotone_flip α carry falls,
            count_flip α carry,
          ))
