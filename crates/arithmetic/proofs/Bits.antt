-- Laws of shifts, bits and bit lengths.
use Prim.Native.Nat.{◌%◌, ◌*◌, ◌+◌, ◌/◌, ◌<◌, ◌^◌, ◌≤◌, suc, zero, ℕ}
use borrow.Author.Tests.{eqb-false, eqb-true}
use mathlib.Core.Bool.{Bool, cond, false, true}
use mathlib.Core.Path.{◌≡◌, refl}
use native.Mathlib.Nat.{pow-le-pow_right, pow-suc}
use Rattle.std.proofs.Common.{lit<}
use native.Mathlib.Omega.{arith}
use Rattle.arithmetic.specs.Bits.{bit_length, bit_length_within, odd, shl}

pub shl_zero : (o : ℕ) → shl o 0 ≡ 0
shl_zero zero = refl
shl_zero (suc o) = omega (arith, shl_zero o)

pub shl_add : (o x y : ℕ) → shl o (x + y) ≡ shl o x + shl o y
shl_add zero x y = refl
shl_add (suc o) x y = omega (arith, shl_add o x y)

pub shl_twice : (o x : ℕ) → shl o (2 * x) ≡ 2 * shl o x
shl_twice zero x = refl
shl_twice (suc o) x = omega (arith, shl_twice o x)

pub shl_mul : (o k x : ℕ) → shl o (k * x) ≡ k * shl o x
shl_mul zero k x = refl
shl_mul (suc o) k x = omega (arith, shl_mul o k x)

pub shl_none : (o x : ℕ) → shl o x ≡ 0 → x ≡ 0
shl_none zero x e = e
shl_none (suc o) x e = shl_none o x (omega arith)

pub shl_power : (o : ℕ) → shl o 1 ≡ 2 ^ o
shl_power zero = refl
shl_power (suc o) = rw pow-suc (omega (arith, shl_power o))

-- a number by its lowest bit
pub low_bit : (k : ℕ) → k ≡ cond (odd k) 1 0 + 2 * (k / 2)
low_bit k = go (odd k) refl
  where
    go : (t : Bool) → odd k ≡ t → k ≡ cond t 1 0 + 2 * (k / 2)
    go true q = omega (arith, eqb-true (k % 2) 1 q)
    go false q = let no_one : ¬ (k % 2 ≡ 1) = eqb-false (k % 2) 1 q in omega arith

-- Bit lengths --------------------------------------------------------------------------------------------------------

within_fits : (f k : ℕ) → k < shl f 1 → k < shl (bit_length_within f k) 1
within_fits zero k h = h
within_fits (suc f) zero h = omega arith
within_fits (suc f) (suc k) h = omega (arith, within_fits f (suc k / 2) (omega arith))

-- a number is below 2 to the power of its bit length
pub bit_length_fits : (k : ℕ) → k < 4294967296 → k < shl (bit_length k) 1
bit_length_fits k h = within_fits 32 k h

within_least : (f k n : ℕ) → k < shl n 1 → bit_length_within f k ≤ n
within_least zero k n h = omega arith
within_least (suc f) zero n h = omega arith
within_least (suc f) (suc k) zero h = absurd (omega arith)
within_least (suc f) (suc k) (suc n) h = omega (arith, within_least f (suc k / 2) n (omega arith))

-- and no smaller power will do
pub bit_length_least : (k n : ℕ) → k < shl n 1 → bit_length k ≤ n
bit_length_least k n h = within_least 32 k n h

-- the one m for which k lies between 2 ^ m and its half
pub bit_length_by : (k m : ℕ) → k < 4294967296 → k < 2 ^ m → 2 ^ m ≤ 2 * k + 1 → bit_length k ≡ m
bit_length_by k m h below half =
    let n = bit_length k in
    let most : n ≤ m = bit_length_least k m (omega (arith, shl_power m)) in
    let least : ¬ (n < m) = λ less.
    omega (arith, half, bit_length_fits k h, shl_power n, shl_power (suc n), pow-le-pow_right {n = 2} (lit< tt) less) in
    omega arith

pub within_zero : (f : ℕ) → bit_length_within f 0 ≡ 0
within_zero zero = refl
within_zero (suc f) = refl
