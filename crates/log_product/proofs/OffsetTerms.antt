-- The terms and the constant of a product with offsets, within bounds.
use mathlib.Core.Bool.{Bool, false, true}
use mathlib.Core.Path.{◌≡◌, ap, refl, sym, ◌∙◌}
use Prim.Native.Nat.{ℕ, min, suc, zero, ◌+◌, ◌*◌, ◌≤◌, ◌<◌}
use native.Mathlib.Nat.{mul-le-mul}
use native.Mathlib.Omega.{arith}
use borrow.Author.Tests.{eqb-false, eqb-true}
use lib.Dec.{eqb}
use mir.Syntax.{w32}
use mir.Val.{SFits, of_z, to_z}
use mir.ValLaws.{to_z-of_z}
use lib.IntN.{◌*ℤ◌, ◌-ℤ◌, negsuc, neg_ℤ, pos, ℤ}
use lib.ListN.{get_or}
use mathlib.Core.List.{[], ◌∷◌}
use Rattle.arithmetic.specs.Bits.{shl}
use Rattle.arithmetic.specs.Integers.{down, up}
use Rattle.arithmetic.proofs.Integers.{apart_read, mul_read, neg_reads}
use Rattle.log_gather.proofs.Steps.{shl_more}
use Rattle.log_terms.specs.Terms.{TermFits, TermsFit, no_term}
use Rattle.log_terms.specs.declared.Weighted.{Weighted as WeightedLits}
use Rattle.log_var.specs.declared.LogEncoding.{LogEncoding as Encoding}
use Rattle.log_var.specs.Settings.{SettingReady}
use Rattle.log_sum.proofs.Offsets.{added_small, small_fits}
use Rattle.log_encoding.specs.EncodeMulLog.{is_zero}

-- an offset as the machine reads it
pub offset_is : (e : Encoding) → SettingReady e → to_z w32 (of_z w32 e.offset) ≡ e.offset
offset_is e h = to_z-of_z w32 e.offset (small_fits e.offset (omega (arith, h.offset_up)) (omega (arith, h.offset_down)))

-- a setting's bits by an offset
pub offset_reach : (n : ℕ) (z : ℤ) → n ≤ 12 → up z ≤ 4095 → down z ≤ 4095 → shl n (up z + down z) < 33554432
offset_reach n z h a b = let s = shl_more n 12 (up z + down z) h in let r = apart_read z in omega arith

-- the product's bits
pub product_reach : (n : ℕ) → n ≤ 24 → shl n 1 < 33554432
product_reach n h = let s = shl_more n 24 1 h in omega arith

-- two offsets multiplied
pub offsets_small : (x y : ℤ) → up x ≤ 4095 → down x ≤ 4095 → up y ≤ 4095 → down y ≤ 4095 → (up (x *ℤ y) ≤ 16769025) × (down (x *ℤ y) ≤ 16769025)
offsets_small x y a b c d = go x y a b c d (mul_read x y) (apart_read (x *ℤ y))
  where
    go : (x y : ℤ) → up x ≤ 4095 → down x ≤ 4095 → up y ≤ 4095 → down y ≤ 4095
        → up (x *ℤ y) + (up x * down y + down x * up y) ≡ down (x *ℤ y) + (up x * up y + down x * down y) → min (up (x *ℤ y)) (down (x *ℤ y)) ≡ 0
        → (up (x *ℤ y) ≤ 16769025) × (down (x *ℤ y) ≤ 16769025)
    go (pos m) (pos n) a b c d r z = let p : m * n ≤ 4095 * 4095 = mul-le-mul a c in (omega arith, omega arith)
    go (pos m) (negsuc n) a b c d r z = let p : m * suc n ≤ 4095 * 4095 = mul-le-mul a d in (omega arith, omega arith)
    go (negsuc m) (pos n) a b c d r z = let p : suc m * n ≤ 4095 * 4095 = mul-le-mul b c in (omega arith, omega arith)
    go (negsuc m) (negsuc n) a b c d r z = let p : suc m * suc n ≤ 4095 * 4095 = mul-le-mul b d in (omega arith, omega arith)

-- less the third
pub constant_small : (z m : ℤ) → up z ≤ 16769025 → down z ≤ 16769025 → up m ≤ 4095 → down m ≤ 4095 → (up (z -ℤ m) ≤ 16773120) × (down (z -ℤ m) ≤ 16773120)
constant_small z m a b c d = let s = added_small z (neg_ℤ m) in let n = neg_reads m in (omega arith, omega arith)

pub four_fit : {p q r s : WeightedLits} → TermFits 12 p → TermFits 12 q → TermFits 12 r → TermFits 12 s → TermsFit 12 (p ∷ q ∷ r ∷ s ∷ [])
four_fit {p} {q} {r} {s} a b c d = record { few = omega arith; steps_fit = omega arith; fits = fits }
  where
    fits : (i : ℕ) → i < 4 → TermFits 12 (get_or (p ∷ q ∷ r ∷ s ∷ []) i no_term)
    fits zero h = a
    fits (suc zero) h = b
    fits (suc (suc zero)) h = c
    fits (suc (suc (suc zero))) h = d
    fits (suc (suc (suc (suc i)))) h = absurd (omega arith)

-- Offsets of 0 ---------------------------------------------------------------------------------------------------------

pub zero_is : (z : ℤ) → SFits w32 z → of_z w32 z ≡ 0 → is_zero z ≡ true
zero_is z f e = ap is_zero (sym (to_z-of_z w32 z f) ∙ ap (to_z w32) e)

pub zero_not : (z : ℤ) → (of_z w32 z ≡ 0 → ⊥) → is_zero z ≡ false
zero_not (pos zero) h = absurd (h refl)
zero_not (pos (suc n)) h = refl
zero_not (negsuc n) h = refl

pub zero_test : (z : ℤ) → SFits w32 z → eqb (of_z w32 z) 0 ≡ is_zero z
zero_test z f = go (eqb (of_z w32 z) 0) refl
  where
    go : (t : Bool) → eqb (of_z w32 z) 0 ≡ t → t ≡ is_zero z
    go true e = sym (zero_is z f (eqb-true (of_z w32 z) 0 e))
    go false e = sym (zero_not z (eqb-false (of_z w32 z) 0 e))
