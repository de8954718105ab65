-- What `text` writes of a number, this crate reads back.
use Prim.Native.Nat.{ℕ, zero, suc, ◌+◌, ◌/◌, ◌%◌, ◌<◌, ◌≤◌}
use native.Mathlib.Omega.{arith}
use native.Mathlib.Numerals.{add-one}
use mathlib.Core.Path.{◌≡◌, refl, sym, ap, ◌∙◌}
use mathlib.Core.Bool.{Bool, true, false, ◌&&◌, true≢false}
use mathlib.Core.List.{List, [], ◌∷◌, ◌++◌}
use lib.Dec.{ltb}
use lib.IntN.{ℤ, pos, negsuc}
use borrow.Author.Tests.{ltb-true, ltb-false, le-leb, ne_eqb}
use Rattle.text.specs.Decimal.{decimal, digits_value, integer}
use Rattle.text.proofs.Numerals.{decimal_digit, decimal_more, decimal_value}
use Rattle.lines.specs.Integers.{is_digit, all_digits, some_digits, is_integer, integer_value}
use Rattle.lines.proofs.Steps.{and_left, and_right, digit_from}

pub and_both : (a b : Bool) → a ≡ true → b ≡ true → (a && b) ≡ true
and_both true true p q = refl
and_both false b p q = p
and_both true false p q = q

pub is_digit_in : (b : ℕ) → 48 ≤ b → b ≤ 57 → is_digit b ≡ true
is_digit_in b h k = and_both _ _ (le-leb 48 b h) (le-leb b 57 k)

pub all_digits_last : (l : List ℕ) (b : ℕ) → all_digits l ≡ true → is_digit b ≡ true → all_digits (l ++ (b ∷ [])) ≡ true
unfolding all_digits
all_digits_last [] b p q = and_both _ _ q refl
all_digits_last (c ∷ l) b p q = and_both (is_digit c) _ (and_left (is_digit c) _ p) (all_digits_last l b (and_right (is_digit c) _ p) q)

-- digits with no minus are an integer
digits_integer : (l : List ℕ) → some_digits l ≡ true → (is_integer l ≡ true) × (integer_value l ≡ pos (digits_value 0 l))
unfolding is_integer integer_value all_digits
digits_integer [] d = absurd (true≢false (sym d))
digits_integer (b ∷ bs) d =
    let l = digit_from b (and_left (is_digit b) _ d) in
    let n = ne_eqb b 45 (λ q. omega (arith, q, l)) in
    (rw n d, rw n)

some_digits_last : (l : List ℕ) (b : ℕ) → some_digits l ≡ true → is_digit b ≡ true → some_digits (l ++ (b ∷ [])) ≡ true
some_digits_last [] b p q = absurd (true≢false (sym p))
some_digits_last (c ∷ l) b p q = all_digits_last (c ∷ l) b p q

decimal_below : (k n : ℕ) → n < k → some_digits (decimal n) ≡ true
unfolding all_digits
decimal_below zero n h = absurd (omega arith)
decimal_below (suc k) n h = by (ltb n 10) refl (decimal_below k (n / 10))
  where
    by : (b : Bool) → ltb n 10 ≡ b → (n / 10 < k → some_digits (decimal (n / 10)) ≡ true) → some_digits (decimal n) ≡ true
    by true e f =
        let t : n < 10 = ltb-true n 10 e in
        rw (decimal_digit n t) (all_digits_last [] (48 + n) refl (is_digit_in (48 + n) (omega arith) (omega arith)))
    by false e f =
        let t : 10 ≤ n = ltb-false n 10 e in
        let g : n / 10 < k = omega arith in
        rw (decimal_more n t) (some_digits_last (decimal (n / 10)) (48 + n % 10) (f g) (is_digit_in (48 + n % 10) (omega arith) (omega arith)))

decimal_digits : (n : ℕ) → some_digits (decimal n) ≡ true
decimal_digits n = decimal_below (suc n) n (omega arith)

pub read_back : (z : ℤ) → (is_integer (integer z) ≡ true) × (integer_value (integer z) ≡ z)
unfolding integer is_integer integer_value
read_back (pos n) =
    let r = digits_integer (decimal n) (decimal_digits n) in
    (r.0, r.1 ∙ ap pos (decimal_value n))
read_back (negsuc n) = (decimal_digits (n + 1), rw (decimal_value (n + 1), add-one))
