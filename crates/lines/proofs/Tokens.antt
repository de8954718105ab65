-- A token read byte after byte is the integer that its bytes say.
use Rattle.std.proofs.Common.{Some, None}
use Prim.Native.Nat.{ℕ, zero, suc, ◌+◌, ◌-◌, ◌*◌, ◌≤◌, ◌<◌, min}
use native.Mathlib.Omega.{arith}
use mathlib.Core.Path.{◌≡◌, refl}
use mathlib.Core.Bool.{Bool, true, false, ◌&&◌, cond}
use mathlib.Core.List.{List, [], ◌∷◌}
use lib.Dec.{leb, eqb}
use lib.IntN.{pos, neg_ℤ}
use borrow.Author.Tests.{lt-leb, le-leb, leb-true, leb-false, eqb-true, eqb-false}
use Rattle.text.specs.Decimal.{digits_value}
use Rattle.lines.specs.Integers.{all_digits, in_range, integer_value, is_digit, is_integer, some_digits}
use Rattle.lines.specs.declared.Numeral.{Numeral}
use Rattle.lines.specs.declared.Numeral.TheVariants.{Empty, Minus, Positive, Negative, Other}
use Rattle.lines.specs.Numerals.{grown, numeral_from, numeral_integer, numeral_more, token_integer, with_digit, with_other}
use Rattle.lines.proofs.Steps.{more_digit, more_none, more_other}

abbrev most : ℕ
most = 4294967296

from_other : (bs : List ℕ) → numeral_from Other bs ≡ Other
unfolding numeral_from
from_other [] = refl
from_other (b ∷ bs) = by (is_digit b) refl (from_other bs)
  where
    by : (t : Bool) → is_digit b ≡ t → numeral_from Other bs ≡ Other → numeral_from (numeral_more Other b) bs ≡ Other
    by true e r = rw (more_digit Other b e) r
    by false e r = rw (more_other Other b e) r

-- what has been cut to the bound grows as if it had not
grown_cut : (n b : ℕ) → grown (min n most) b ≡ min (10 * n + (b - 48)) most
grown_cut n b = omega arith

-- digits behind digits that say n, in a numeral of either sign
module _ (side : ℕ → Numeral) (same : (v b : ℕ) → with_digit (side v) b ≡ side (grown v b)) (none : (v b : ℕ) → with_other (side v) b ≡ Other) where
  from_digits : (n : ℕ) (bs : List ℕ) → numeral_from (side (min n most)) bs ≡ cond (all_digits bs) (side (min (digits_value n bs) most)) Other
  unfolding numeral_from all_digits digits_value
  from_digits n [] = refl
  from_digits n (b ∷ bs) = by (is_digit b) refl (from_digits (10 * n + (b - 48)) bs)
    where
      by : (t : Bool) → is_digit b ≡ t
          → numeral_from (side (min (10 * n + (b - 48)) most)) bs ≡ cond (all_digits bs) (side (min (digits_value (10 * n + (b - 48)) bs) most)) Other
          → numeral_from (numeral_more (side (min n most)) b) bs ≡ cond (is_digit b && all_digits bs) (side (min (digits_value (10 * n + (b - 48)) bs) most)) Other
      by true e r = rw (more_digit (side (min n most)) b e, same (min n most) b, grown_cut n b, e) r
      by false e r = rw (more_other (side (min n most)) b e, none (min n most) b, e) (from_other bs)

positive_digits : (n : ℕ) (bs : List ℕ) → numeral_from (Positive (min n most)) bs ≡ cond (all_digits bs) (Positive (min (digits_value n bs) most)) Other
positive_digits = from_digits Positive (λ v b. refl) (λ v b. refl)

negative_digits : (n : ℕ) (bs : List ℕ) → numeral_from (Negative (min n most)) bs ≡ cond (all_digits bs) (Negative (min (digits_value n bs) most)) Other
negative_digits = from_digits Negative (λ v b. refl) (λ v b. refl)

-- the integer of a numeral that was cut to the bound
positive_integer : (n : ℕ) → numeral_integer (Positive (min n most)) ≡ cond (in_range (pos n)) (Some (pos n)) None
unfolding numeral_integer
positive_integer n = by (leb n 4294967295) refl
  where
    by : (t : Bool) → leb n 4294967295 ≡ t
        → cond (leb (min n most) 4294967295) (Some (pos (min n most))) None ≡ cond (leb n 4294967295) (Some (pos n)) None
    by true e =
        let h : n ≤ 4294967295 = leb-true n 4294967295 e in
        let m : min n most ≡ n = omega arith in
        rw (m, e)
    by false e =
        let h : 4294967295 < n = leb-false n 4294967295 e in
        rw (lt-leb (min n most) 4294967295 (omega arith), e)

negative_range : (n : ℕ) → in_range (neg_ℤ (pos n)) ≡ leb n 2147483648
negative_range zero = refl
negative_range (suc n) = by (leb n 2147483647) refl
  where
    by : (t : Bool) → leb n 2147483647 ≡ t → leb n 2147483647 ≡ leb (suc n) 2147483648
    by true e =
        let h : n ≤ 2147483647 = leb-true n 2147483647 e in
        rw (e, le-leb (suc n) 2147483648 (omega arith))
    by false e =
        let h : 2147483647 < n = leb-false n 2147483647 e in
        rw (e, lt-leb (suc n) 2147483648 (omega arith))

negative_integer : (n : ℕ) → numeral_integer (Negative (min n most)) ≡ cond (in_range (neg_ℤ (pos n))) (Some (neg_ℤ (pos n))) None
unfolding numeral_integer
negative_integer n = rw (negative_range n) (by (leb n 2147483648) refl)
  where
    by : (t : Bool) → leb n 2147483648 ≡ t
        → cond (leb (min n most) 2147483648) (Some (neg_ℤ (pos (min n most)))) None ≡ cond (leb n 2147483648) (Some (neg_ℤ (pos n))) None
    by true e =
        let h : n ≤ 2147483648 = leb-true n 2147483648 e in
        let m : min n most ≡ n = omega arith in
        rw (m, e)
    by false e =
        let h : 2147483648 < n = leb-false n 2147483648 e in
        rw (lt-leb (min n most) 2147483648 (omega arith), e)

-- digits, one at least, with no minus and behind one
positive_reads : (bs : List ℕ) (n : ℕ)
    → numeral_integer (cond (all_digits bs) (Positive (min n most)) Other) ≡ cond (all_digits bs && in_range (pos n)) (Some (pos n)) None
unfolding numeral_integer
positive_reads bs n = by (all_digits bs)
  where
    by : (t : Bool) → numeral_integer (cond t (Positive (min n most)) Other) ≡ cond (t && in_range (pos n)) (Some (pos n)) None
    by true = positive_integer n
    by false = refl

negative_reads : (bs : List ℕ) (n : ℕ)
    → numeral_integer (cond (all_digits bs) (Negative (min n most)) Other)
    ≡ cond (all_digits bs && in_range (neg_ℤ (pos n))) (Some (neg_ℤ (pos n))) None
unfolding numeral_integer
negative_reads bs n = by (all_digits bs)
  where
    by : (t : Bool) → numeral_integer (cond t (Negative (min n most)) Other) ≡ cond (t && in_range (neg_ℤ (pos n))) (Some (neg_ℤ (pos n))) None
    by true = negative_integer n
    by false = refl

-- behind a minus
minus_reads : (bs : List ℕ)
    → numeral_integer (numeral_from Minus bs)
    ≡ cond (some_digits bs && in_range (neg_ℤ (pos (digits_value 0 bs)))) (Some (neg_ℤ (pos (digits_value 0 bs)))) None
unfolding numeral_from numeral_integer all_digits digits_value
minus_reads [] = refl
minus_reads (b ∷ bs) = by (is_digit b) refl
  where
    by : (t : Bool) → is_digit b ≡ t
        → numeral_integer (numeral_from (numeral_more Minus b) bs)
        ≡ cond (all_digits (b ∷ bs) && in_range (neg_ℤ (pos (digits_value 0 (b ∷ bs))))) (Some (neg_ℤ (pos (digits_value 0 (b ∷ bs))))) None
    by true e = rw (more_digit Minus b e, e, negative_digits (10 * 0 + (b - 48)) bs) (negative_reads bs (digits_value (10 * 0 + (b - 48)) bs))
    by false e = rw (more_other Minus b e, e, from_other bs)

-- THE THEOREM on tokens: the integer of a token read byte after byte is what its bytes say
pub token_reads : (bs : List ℕ) → numeral_integer (numeral_from Empty bs) ≡ token_integer bs
unfolding numeral_from numeral_integer token_integer is_integer integer_value all_digits digits_value
token_reads [] = refl
token_reads (b ∷ bs) = by (eqb b 45) refl (is_digit b) refl
  where
    by : (s : Bool) → eqb b 45 ≡ s → (t : Bool) → is_digit b ≡ t
        → numeral_integer (numeral_from (numeral_more Empty b) bs)
        ≡ cond (is_integer (b ∷ bs) && in_range (integer_value (b ∷ bs))) (Some (integer_value (b ∷ bs))) None
    by true p t e =
        let q : b ≡ 45 = eqb-true b 45 p in
        rw (more_other Empty b (rw q), p) (minus_reads bs)
    by false p true e = rw (more_digit Empty b e, p, e, positive_digits (10 * 0 + (b - 48)) bs) (positive_reads bs (digits_value (10 * 0 + (b - 48)) bs))
    by false p false e = rw (← more_none Empty b e (eqb-false b 45 p), p, e, from_other bs)
