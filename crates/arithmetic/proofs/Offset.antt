-- Values and codes convert both ways.
use Prim.Native.Nat.{◌+◌, ◌<◌, ℕ}
use lib.Dec.{T}
use lib.IntN.{◌-ℤ◌, nat_abs, negsuc, neg_ℤ, pos, ℤ}
use lib.Signed.{◌≤ℤ◌, lt_z, mag, non_neg}
use mathlib.Core.Bool.{false, true, true≢false}
use mathlib.Core.Path.{◌≡◌, refl}
use native.Mathlib.Omega.{arith}
use borrow.Author.Tests.{ltb-true}
use Rattle.arithmetic.specs.Integers.{down, up}
use Rattle.arithmetic.specs.Offset.{code, offset_of, value}
use Rattle.arithmetic.proofs.Integers.{add_read, apart_read, neg_reads, order_read, same_read}

-- an offset is not above its low, and never positive
pub offset_low : (z : ℤ) → offset_of z ≤ℤ z
offset_low (pos n) = (order_read (pos 0) (pos n)).1 (omega arith)
offset_low (negsuc n) = (order_read (negsuc n) (negsuc n)).1 (omega arith)

pub offset_read : (z : ℤ) → (up (offset_of z) ≡ 0) × (down (offset_of z) ≡ down z)
offset_read (pos n) = (refl, refl)
offset_read (negsuc n) = (refl, refl)

-- a code as a difference of naturals
pub code_read : (o z : ℤ) → o ≤ℤ z → code o z + (down z + up o) ≡ up z + down o
code_read o z h = omega (arith, add_read z (neg_ℤ o), neg_reads o, apart_read (z -ℤ o), (order_read o z).0 h)

-- from a value to its code and back
pub value_code : (o z : ℤ) → o ≤ℤ z → value o (code o z) ≡ z
value_code o z h = (same_read (value o (code o z)) z).1 (omega (arith, add_read (pos (code o z)) o, code_read o z h))

-- a value's code, from the value
pub value_read : (o z : ℤ) (k : ℕ) → value o k ≡ z → k + (down z + up o) ≡ up z + down o
value_read o z k e = omega (arith, (same_read (value o k) z).0 e, add_read (pos k) o)

-- a value is not below the offset
pub value_low : (o : ℤ) (k : ℕ) → o ≤ℤ value o k
value_low o k = (order_read o (value o k)).1 (omega (arith, add_read (pos k) o))

-- from a code to its value and back
pub code_value : (o : ℤ) (k : ℕ) → code o (value o k) ≡ k
code_value o k = omega (arith, code_read o (value o k) (value_low o k), value_read o (value o k) k refl)

-- What the machine's test, difference and sum need --------------------------------------------------------------------

pub offset_negative : (z : ℤ) → lt_z z (pos 0) ≡ true → z ≡ offset_of z
offset_negative (pos n) e = let h : n < 0 = ltb-true n 0 e in absurd (omega arith)
offset_negative (negsuc n) e = refl

pub offset_not_negative : (z : ℤ) → lt_z z (pos 0) ≡ false → pos 0 ≡ offset_of z
offset_not_negative (pos n) e = refl
offset_not_negative (negsuc n) e = absurd (true≢false e)

-- a number that is not negative
pub plain : (z : ℤ) → down z ≡ 0 → T (non_neg z) × (nat_abs z ≡ up z) × (mag z ≡ up z)
plain (pos n) e = (tt, refl, refl)
plain (negsuc n) e = absurd (omega arith)

pub mag_below : (z : ℤ) (m : ℕ) → up z < m → down z < m → mag z < m
mag_below (pos n) m p q = omega arith
mag_below (negsuc n) m p q = omega arith
