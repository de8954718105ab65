-- Laws of the number that a piece is.
use Prim.Native.Nat.{◌*◌, ◌+◌, ◌-◌, ◌<◌, ◌≤◌, min, ℕ}
use borrow.Author.Tests.{eq-eqb, ne_eqb}
use lib.Dec.{eqb}
use lib.ListN.{drop, drop_of_length-le, get_or, length}
use lib.Seq.{drop-cons}
use mathlib.Core.Bool.{Bool, ◌&&◌, cond, false, not, true}
use mathlib.Core.List.{List, [], ◌∷◌}
use mathlib.Core.Path.{◌∙◌, ◌≡◌, ap, refl, sym}
use native.Mathlib.Numerals.{add-one}
use native.Mathlib.Omega.{arith}
use Rattle.std.specs.Prelude.{Option, Some, None}
use Rattle.lines.specs.Integers.{all_digits, is_digit}
use Rattle.text.specs.Decimal.{digits_value}
use Rattle.solver_answer.specs.Lines.{is_number, is_positive, number, same}
use Rattle.solver_lines.specs.Scans.{number_read, positive_read}
use Rattle.solver_lines.specs.declared.Number.{Number}
use Rattle.solver_lines.proofs.Words.{same_no}

-- digits -------------------------------------------------------------------------------------------------------------

pub positive_empty : (l : List ℕ) → length l ≡ 0 → None ≡ positive_read l
unfolding positive_read is_positive
positive_empty [] h = refl
positive_empty (b ∷ bs) h = absurd (omega (arith, h))

pub positive_zero : (l : List ℕ) → 0 < length l → get_or l 0 0 ≡ 48 → None ≡ positive_read l
unfolding positive_read is_positive
positive_zero [] h e = refl
positive_zero (b ∷ bs) h e = rw (eq-eqb b 48 e) refl

-- behind a first digit that is not 0, all digits make a number
positive_digits : (l : List ℕ) → 0 < length l → (get_or l 0 0 ≡ 48 → ⊥) → is_positive l ≡ all_digits l
unfolding is_positive
positive_digits [] h e = absurd (omega arith)
positive_digits (b ∷ bs) h e = rw (ne_eqb b 48 e) refl

-- numbers that are the same up to 65536 stay so
same_capped : (ds : List ℕ) (a b : ℕ) → min a 65536 ≡ min b 65536 → min (digits_value a ds) 65536 ≡ min (digits_value b ds) 65536
unfolding digits_value
same_capped [] a b e = e
same_capped (d ∷ ds) a b e = same_capped ds (10 * a + (d - 48)) (10 * b + (d - 48)) (omega arith)

-- what is left of the digits from a place on, where those before it say `size`
pub record Left (l : List ℕ) (i size : ℕ) : Type 0 where
  pub few : size ≤ 65536
  pub digits : all_digits (drop i l) ≡ all_digits l
  pub value : min (digits_value size (drop i l)) 65536 ≡ min (digits_value 0 l) 65536

module _ (l : List ℕ) (i size : ℕ) (at : Left l i size) where
  pub left_more : {w : ℕ} → i < length l → is_digit (get_or l i 0) ≡ true → w ≡ min (10 * size + (get_or l i 0 - 48)) 65536 → Left l (i + 1) w
  unfolding all_digits digits_value
  left_more {w} h d e =
      record {
        few = omega arith;
        digits = sym (rw (add-one, drop-cons l i 0 h, d) refl) ∙ at.digits;
        value = same_capped (drop (i + 1) l) w (10 * size + (get_or l i 0 - 48)) (omega arith) ∙ sym (rw (add-one, drop-cons l i 0 h) refl) ∙ at.value;
      }

  pub left_none : i < length l → is_digit (get_or l i 0) ≡ false → (get_or l 0 0 ≡ 48 → ⊥) → None ≡ positive_read l
  unfolding positive_read all_digits
  left_none h d z =
      let e : all_digits l ≡ false = sym at.digits ∙ rw (drop-cons l i 0 h, d) refl in
      rw (positive_digits l (omega arith) z, e) refl

  pub left_all : length l ≤ i → 0 < length l → (get_or l 0 0 ≡ 48 → ⊥) → Some size ≡ positive_read l
  unfolding positive_read all_digits digits_value
  left_all h s z =
      let e : all_digits l ≡ true = sym at.digits ∙ rw (drop_of_length-le l h) refl in
      let v : min size 65536 ≡ min (digits_value 0 l) 65536 = sym (rw (drop_of_length-le l h) refl) ∙ at.value in
      rw (positive_digits l s z, e) (ap Some (omega (arith, v, at.few)))

-- a piece ------------------------------------------------------------------------------------------------------------

abbrev pub with_sign : Bool → Option ℕ → Option Number
with_sign negative None = None
with_sign negative (Some size) = Some (record { negative = negative; size = size })

pub number_zero : (t : List ℕ) → t ≡ 48 ∷ [] → Some (record { negative = false; size = 0 }) ≡ number_read t
unfolding number_read is_number number is_positive same digits_value
number_zero t e = rw e

pub number_minus : (t digits : List ℕ) → t ≡ 45 ∷ digits → with_sign true (positive_read digits) ≡ number_read t
unfolding number_read is_number number positive_read
number_minus t digits e = rw e (by (is_positive digits))
  where
    by : (b : Bool) → with_sign true (cond b (Some (min (digits_value 0 digits) 65536)) None) ≡ cond b (Some (record { negative = true; size = min (digits_value 0 digits) 65536 })) None
    by true = refl
    by false = refl

pub number_plain : (t : List ℕ) → (t ≡ 48 ∷ [] → ⊥) → ((digits : List ℕ) → t ≡ 45 ∷ digits → ⊥) → with_sign false (positive_read t) ≡ number_read t
unfolding number_read is_number number positive_read is_positive
number_plain [] z m = refl
number_plain (b ∷ bs) z m =
    rw (same_no (b ∷ bs) (48 ∷ []) z, ne_eqb b 45 (λ e. m bs (rw e))) (by (not (eqb b 48) && all_digits (b ∷ bs)))
  where
    by : (p : Bool) → with_sign false (cond p (Some (min (digits_value 0 (b ∷ bs)) 65536)) None) ≡ cond p (Some (record { negative = false; size = min (digits_value 0 (b ∷ bs)) 65536 })) None
    by true = refl
    by false = refl
