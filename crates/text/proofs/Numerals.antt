-- Laws of decimal digits.
use mathlib.Core.Path.{◌≡◌, refl, ap}
use mathlib.Core.Bool.{Bool, true, false}
use mathlib.Core.List.{List, [], ◌∷◌, ◌++◌}
use Prim.Native.Nat.{ℕ, zero, suc, ◌+◌, ◌-◌, ◌*◌, ◌/◌, ◌%◌, ◌^◌, ◌≤◌, ◌<◌}
use native.Mathlib.Omega.{arith}
use lib.Dec.{ltb}
use lib.ListN.{length, length-append}
use borrow.Author.Tests.{lt-ltb, le-ltb, ltb-true, ltb-false}
use Rattle.text.specs.declared.Writer.{Writer}
use Rattle.text.specs.Bytes.{Wrote}
use Rattle.text.specs.Decimal.{digits, decimal, digits_value}
use Rattle.text.proofs.Laws.{wrote_both}

-- room for more digits makes no difference
more_digits : (k m n : ℕ) → n < k → n < m → digits k n ≡ digits m n
unfolding digits
more_digits zero m n h g = absurd (omega arith)
more_digits (suc k) zero n h g = absurd (omega arith)
more_digits (suc k) (suc m) n h g = by (ltb n 10) refl (more_digits k m (n / 10))
  where
    by : (b : Bool) → ltb n 10 ≡ b → (n / 10 < k → n / 10 < m → digits k (n / 10) ≡ digits m (n / 10)) → digits (suc k) n ≡ digits (suc m) n
    by true e f = rw e
    by false e f =
        let t : 10 ≤ n = ltb-false n 10 e in
        rw (e, f (omega arith) (omega arith))

pub decimal_digit : (n : ℕ) → n < 10 → decimal n ≡ (48 + n) ∷ []
unfolding decimal digits
decimal_digit n h = rw (lt-ltb n 10 h)

pub decimal_more : (n : ℕ) → 10 ≤ n → decimal n ≡ decimal (n / 10) ++ ((48 + n % 10) ∷ [])
unfolding decimal digits
decimal_more n h =
    rw (le-ltb n 10 h) (ap (λ (l : List ℕ). l ++ ((48 + n % 10) ∷ [])) (more_digits n (suc (n / 10)) (n / 10) (omega arith) (omega arith)))

-- a number below 10 ^ (k + 1) has at most k + 1 digits
pub decimal_length : (k n : ℕ) → n < 10 ^ suc k → length (decimal n) ≤ suc k
decimal_length zero n h = rw (decimal_digit n h) (omega arith)
decimal_length (suc k) n h = by (ltb n 10) refl (decimal_length k (n / 10))
  where
    by : (b : Bool) → ltb n 10 ≡ b → (n / 10 < 10 ^ suc k → length (decimal (n / 10)) ≤ suc k) → length (decimal n) ≤ suc (suc k)
    by true e f = rw (decimal_digit n (ltb-true n 10 e)) (omega arith)
    by false e f =
        let t : 10 ≤ n = ltb-false n 10 e in
        let s = f (omega arith) in
        rw (decimal_more n t, length-append) (omega (arith, s))

-- how long a number is, by the two returns of `decimal_length`
pub one_digit_long : (n : ℕ) → n < 10 → (1 ≡ length (decimal n)) × (1 ≤ 10)
one_digit_long n h = (rw (decimal_digit n h), omega arith)

pub digits_long : (n : ℕ) {r : ℕ} → 10 ≤ n → n < 2 ^ 32 → r ≡ length (decimal (n / 10)) → (r + 1 ≡ length (decimal n)) × (r + 1 ≤ 10)
digits_long n {r} h small e =
    let long : r + 1 ≡ length (decimal n) = rw (decimal_more n h, length-append, e) in
    (long, omega (arith, long, decimal_length 9 n (omega arith)))

pub digits_value_append : (a : List ℕ) (n : ℕ) (b : List ℕ) → digits_value n (a ++ b) ≡ digits_value (digits_value n a) b
unfolding digits_value
digits_value_append [] n b = refl
digits_value_append (x ∷ a) n b = digits_value_append a (10 * n + (x - 48)) b

-- decimal digits read back give the number
read_back : (k n : ℕ) → n < k → digits_value 0 (decimal n) ≡ n
unfolding digits_value
read_back zero n h = absurd (omega arith)
read_back (suc k) n h = by (ltb n 10) refl (read_back k (n / 10))
  where
    by : (b : Bool) → ltb n 10 ≡ b → (n / 10 < k → digits_value 0 (decimal (n / 10)) ≡ n / 10) → digits_value 0 (decimal n) ≡ n
    by true e f = let t : n < 10 = ltb-true n 10 e in rw (decimal_digit n t) (omega arith)
    by false e f =
        let t : 10 ≤ n = ltb-false n 10 e in
        let g : n / 10 < k = omega arith in
        rw (decimal_more n t, digits_value_append (decimal (n / 10)) 0 ((48 + n % 10) ∷ []), f g) (omega arith)

pub decimal_value : (n : ℕ) → digits_value 0 (decimal n) ≡ n
decimal_value n = read_back (suc n) n (omega arith)

-- What `put_decimal` writes, of one digit and of more: m is the writer as the last digit finds it.
module _ {s m u : Writer} (n : ℕ) {d : ℕ} (e : d ≡ 48 + n % 10) (w : Wrote m (d ∷ []) u) where
  pub wrote_digit : n < 10 → m ≡ s → Wrote s (decimal n) u
  wrote_digit h g =
      let same : n % 10 ≡ n = omega arith in
      rw (decimal_digit n h) (rw (e, same, g) at w)

  pub wrote_digits : {t : Writer} → 10 ≤ n → m ≡ t → Wrote s (decimal (n / 10)) t → Wrote s (decimal n) u
  wrote_digits h g v = rw (decimal_more n h) (wrote_both (decimal (n / 10)) ((48 + n % 10) ∷ []) v (rw (e, g) at w))
