-- Whole numbers for omega: each is a difference of two naturals, one of which is 0; sums, products and orders are read through them.
use Prim.Native.Nat.{◌*◌, ◌+◌, ◌-◌, ◌<◌, ◌≤◌, min, suc, zero, ℕ}
use borrow.Author.Tests.{le-leb, lt-leb, ltb-false, ltb-true}
use lib.Dec.{T, leb, leb→le, le→leb, ltb, ltb→lt}
use lib.IntN.{◌*ℤ◌, ◌+ℤ◌, negsuc, neg_ℤ, pos, sub_ℕ, ℤ}
use lib.Signed.{◌<ℤ◌, ◌≤ℤ◌, le_z, lt_z}
use mathlib.Core.Bool.{Bool, cond, false, true}
use mathlib.Core.Logic.{◌↔◌}
use mathlib.Core.Path.{◌≡◌, ap, refl, sym}
use native.Mathlib.Nat.{div-div-eq-div-mul, pow-suc}
use native.Mathlib.Omega.{arith}
use Rattle.arithmetic.specs.Integers.{div_ceil, div_floor, down, low_bit, shift, up}
use Rattle.arithmetic.proofs.Tests.{leb_same}

sub_read : (a b : ℕ) → up (sub_ℕ a b) + b ≡ down (sub_ℕ a b) + a
sub_read a b = go (ltb a b) refl
  where
    go : (t : Bool) → ltb a b ≡ t → up (cond t (negsuc (b - suc a)) (pos (a - b))) + b ≡ down (cond t (negsuc (b - suc a)) (pos (a - b))) + a
    go true q = omega (arith, ltb-true a b q)
    go false q = omega (arith, ltb-false a b q)

pub add_read : (x y : ℤ) → up (x +ℤ y) + (down x + down y) ≡ down (x +ℤ y) + (up x + up y)
add_read (pos a) (pos b) = omega arith
add_read (pos a) (negsuc b) = omega (arith, sub_read a (suc b))
add_read (negsuc a) (pos b) = omega (arith, sub_read b (suc a))
add_read (negsuc a) (negsuc b) = omega arith

neg_read : (n : ℕ) → (up (neg_ℤ (pos n)) ≡ 0) × (down (neg_ℤ (pos n)) ≡ n)
neg_read zero = (refl, refl)
neg_read (suc n) = (refl, refl)

pub neg_reads : (x : ℤ) → (up (neg_ℤ x) ≡ down x) × (down (neg_ℤ x) ≡ up x)
neg_reads (pos zero) = (refl, refl)
neg_reads (pos (suc n)) = (refl, refl)
neg_reads (negsuc n) = (refl, refl)

pub mul_read : (x y : ℤ) → up (x *ℤ y) + (up x * down y + down x * up y) ≡ down (x *ℤ y) + (up x * up y + down x * down y)
mul_read (pos a) (pos b) = omega arith
mul_read (pos a) (negsuc b) = omega (arith, neg_read (a * suc b))
mul_read (negsuc a) (pos b) = omega (arith, neg_read (suc a * b))
mul_read (negsuc a) (negsuc b) = omega arith

pub same_read : (x y : ℤ) → (x ≡ y) ↔ (up x + down y ≡ up y + down x)
same_read x y = (λ e. rw e (omega arith), back x y)
  where
    back : (x y : ℤ) → up x + down y ≡ up y + down x → x ≡ y
    back (pos a) (pos b) e = ap pos (omega arith)
    back (pos a) (negsuc b) e = absurd (omega arith)
    back (negsuc a) (pos b) e = absurd (omega arith)
    back (negsuc a) (negsuc b) e = ap negsuc (omega arith)

pub less_read : (x y : ℤ) → x <ℤ y → up x + down y < up y + down x
less_read x y h = go x y h.lt
  where
    go : (x y : ℤ) → T (lt_z x y) → up x + down y < up y + down x
    go (pos a) (pos b) t = omega (arith, ltb→lt a b t)
    go (pos a) (negsuc b) t = absurd t
    go (negsuc a) (pos b) t = omega arith
    go (negsuc a) (negsuc b) t = omega (arith, ltb→lt b a t)

pub order_read : (x y : ℤ) → (x ≤ℤ y) ↔ (up x + down y ≤ up y + down x)
order_read x y = (λ h. forth x y h.le, λ h. record { le = back x y h })
  where
    forth : (x y : ℤ) → T (le_z x y) → up x + down y ≤ up y + down x
    forth (pos a) (pos b) t = omega (arith, leb→le a b t)
    forth (pos a) (negsuc b) t = absurd t
    forth (negsuc a) (pos b) t = omega arith
    forth (negsuc a) (negsuc b) t = omega (arith, leb→le b a t)

    back : (x y : ℤ) → up x + down y ≤ up y + down x → T (le_z x y)
    back (pos a) (pos b) h = le→leb a b (omega arith)
    back (pos a) (negsuc b) h = absurd (omega arith)
    back (negsuc a) (pos b) h = tt
    back (negsuc a) (negsuc b) h = le→leb b a (omega arith)

pub apart_read : (x : ℤ) → min (up x) (down x) ≡ 0
apart_read (pos n) = omega arith
apart_read (negsuc n) = omega arith

-- Tests and bounds ---------------------------------------------------------------------------------------------------

-- tests of x and y, where x - y is a - b
pub le_read : (x y : ℤ) (a b : ℕ) → up x + down y + b ≡ down x + up y + a → le_z x y ≡ leb a b
le_read (pos m) (pos n) a b e = leb_same m n a b (omega arith)
le_read (pos m) (negsuc n) a b e = sym (lt-leb a b (omega arith))
le_read (negsuc m) (pos n) a b e = sym (le-leb a b (omega arith))
le_read (negsuc m) (negsuc n) a b e = leb_same n m a b (omega arith)

pub lt_read : (x y : ℤ) (a b : ℕ) → up x + down y + b ≡ down x + up y + a → lt_z x y ≡ ltb a b
lt_read (pos m) (pos n) a b e = leb_same (suc m) n (suc a) b (omega arith)
lt_read (pos m) (negsuc n) a b e = sym (lt-leb (suc a) b (omega arith))
lt_read (negsuc m) (pos n) a b e = sym (le-leb (suc a) b (omega arith))
lt_read (negsuc m) (negsuc n) a b e = leb_same (suc n) m (suc a) b (omega arith)

pub ≤ℤ_trans : (x y z : ℤ) → x ≤ℤ y → y ≤ℤ z → x ≤ℤ z
≤ℤ_trans x y z p q = (order_read x z).1 (omega (arith, (order_read x y).0 p, (order_read y z).0 q))

pub <ℤ_le : (x y : ℤ) → x <ℤ y → x ≤ℤ y
<ℤ_le x y h = (order_read x y).1 (omega (arith, less_read x y h))

-- From a column to the next ------------------------------------------------------------------------------------------

pub floor_read : (z : ℤ)
    → (2 * up (div_floor z) + down z ≤ up z + 2 * down (div_floor z))
    × (up z + 2 * down (div_floor z) ≤ 2 * up (div_floor z) + down z + 1)
floor_read (pos n) = omega arith
floor_read (negsuc n) = omega arith

pub ceil_read : (z : ℤ)
    → (up z + 2 * down (div_ceil z) ≤ 2 * up (div_ceil z) + down z)
    × (2 * up (div_ceil z) + down z ≤ up z + 2 * down (div_ceil z) + 1)
ceil_read z = omega (arith, neg_reads z, neg_reads (div_floor (neg_ℤ z)), floor_read (neg_ℤ z))

pub bit_read : (z : ℤ) → (down (low_bit z) ≡ 0) × (up z + 2 * down (div_floor z) ≡ down z + 2 * up (div_floor z) + up (low_bit z))
bit_read (pos n) = omega arith
bit_read (negsuc n) = omega arith

pub shift_none : (z : ℤ) → shift z 0 ≡ z
shift_none (pos n) = ap pos (omega arith)
shift_none (negsuc n) = ap negsuc (omega arith)

pub shift_next : (z : ℤ) (i : ℕ) → div_floor (shift z i) ≡ shift z (suc i)
shift_next (pos n) i = rw (div-div-eq-div-mul, ← pow-suc)
shift_next (negsuc n) i = rw (div-div-eq-div-mul, ← pow-suc)
