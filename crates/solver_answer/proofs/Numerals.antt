-- The numbers that a print has are numbers that a reading takes, of the same value.
use Prim.Native.Nat.{◌%◌, ◌+◌, ◌/◌, ◌<◌, ◌≤◌, suc, zero, ℕ}
use borrow.Author.Tests.{ltb-false, ltb-true, ne_eqb}
use lib.Dec.{eqb, ltb}
use mathlib.Core.Bool.{Bool, ◌||◌, false, not, true, true≢false}
use mathlib.Core.List.{List, [], ◌++◌, ◌∷◌}
use mathlib.Core.Path.{◌∙◌, ◌≡◌, refl, sym}
use native.Mathlib.Omega.{arith}
use Rattle.lines.specs.Integers.{all_digits, is_digit}
use Rattle.lines.proofs.ReadBack.{all_digits_last, and_both, is_digit_in}
use Rattle.lines.proofs.Steps.{and_left, and_right, digit_from}
use Rattle.text.specs.Decimal.{decimal, digits_value}
use Rattle.text.proofs.Numerals.{decimal_digit, decimal_more, decimal_value}
use Rattle.solver_answer.specs.Lines.{is_number, is_positive, number, same}
use Rattle.solver_answer.specs.Print.{signed}
use Rattle.solver_answer.proofs.Splits.{Free, digits_free}

or_right : (a b : Bool) → b ≡ true → (a || b) ≡ true
or_right true b p = refl
or_right false b p = p

positive_last : (l : List ℕ) (b : ℕ) → is_positive l ≡ true → is_digit b ≡ true → is_positive (l ++ (b ∷ [])) ≡ true
unfolding is_positive
positive_last [] b p q = absurd (true≢false (sym p))
positive_last (c ∷ l) b p q =
    and_both (not (eqb c 48)) _ (and_left (not (eqb c 48)) _ p) (all_digits_last (c ∷ l) b (and_right (not (eqb c 48)) _ p) q)

positive_one : (b : ℕ) → 49 ≤ b → b ≤ 57 → is_positive (b ∷ []) ≡ true
unfolding is_positive all_digits
positive_one b h k =
    let e = ne_eqb b 48 (λ q. omega (arith, q)) in
    rw e (and_both (is_digit b) true (is_digit_in b (omega arith) k) refl)

positive_below : (k n : ℕ) → n < k → 1 ≤ n → is_positive (decimal n) ≡ true
positive_below zero n h g = absurd (omega arith)
positive_below (suc k) n h g = by (ltb n 10) refl (positive_below k (n / 10))
  where
    by : (b : Bool) → ltb n 10 ≡ b → (n / 10 < k → 1 ≤ n / 10 → is_positive (decimal (n / 10)) ≡ true) → is_positive (decimal n) ≡ true
    by true e f =
        let t : n < 10 = ltb-true n 10 e in
        rw (decimal_digit n t) (positive_one (48 + n) (omega arith) (omega arith))
    by false e f =
        let t : 10 ≤ n = ltb-false n 10 e in
        let p = f (omega arith) (omega arith) in
        rw (decimal_more n t) (positive_last (decimal (n / 10)) (48 + n % 10) p (is_digit_in (48 + n % 10) (omega arith) (omega arith)))

decimal_positive : (n : ℕ) → 1 ≤ n → is_positive (decimal n) ≡ true
decimal_positive n h = positive_below (suc n) n (omega arith) h

positive_digits : (l : List ℕ) → is_positive l ≡ true → all_digits l ≡ true
unfolding is_positive
positive_digits [] p = absurd (true≢false (sym p))
positive_digits (b ∷ bs) p = and_right (not (eqb b 48)) _ p

positive_number : (l : List ℕ) → is_positive l ≡ true → (is_number l ≡ true) × (number l ≡ record { negative = false; size = digits_value 0 l })
unfolding is_number number is_positive all_digits
positive_number [] p = absurd (true≢false (sym p))
positive_number (b ∷ bs) p =
    let g = digit_from b (and_left (is_digit b) _ (and_right (not (eqb b 48)) _ p)) in
    let n = ne_eqb b 45 (λ q. omega (arith, q, g)) in
    (rw n (or_right (same (b ∷ bs) (48 ∷ [])) _ p), rw n)

-- what a variable's printed number is
pub record Signed (x b : ℕ) : Type 0 where
  pub is : is_number (signed x b) ≡ true
  pub says : number (signed x b) ≡ record { negative = eqb b 0; size = x }
  pub no_space : Free 32 (signed x b)
  pub no_feed : Free 10 (signed x b)

pub signed_reads : (x b : ℕ) → 1 ≤ x → Signed x b
unfolding signed is_number number
signed_reads x b h =
    let p = decimal_positive x h in
    let d = positive_digits (decimal x) p in
    by (eqb b 0) refl p (digits_free 32 (decimal x) (omega arith) d) (digits_free 10 (decimal x) (omega arith) d)
  where
    by : (c : Bool) → eqb b 0 ≡ c → is_positive (decimal x) ≡ true → Free 32 (decimal x) → Free 10 (decimal x) → Signed x b
    by true e p s f =
        record { is = rw e p; says = rw (e, decimal_value x); no_space = rw e (refl, s); no_feed = rw e (refl, f) }
    by false e p s f =
        let r = positive_number (decimal x) p in
        record { is = rw e r.0; says = rw e (r.1 ∙ rw (decimal_value x)); no_space = rw e s; no_feed = rw e f }
