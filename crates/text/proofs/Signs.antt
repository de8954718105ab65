-- A signed number by its sign.
use Rattle.std.proofs.Common.{◌≡◌, ℕ, suc, true, false, [], ◌∷◌, ℤ, pos, negsuc, arith, add-one}
use borrow.Author.Tests.{ltb-true}
use Rattle.std.specs.Int.Signed.{lt_z}
use Rattle.std.proofs.Math.IntN.{nat_abs}
use Rattle.text.specs.declared.Writer.{Writer}
use Rattle.text.specs.Bytes.{Wrote}
use Rattle.text.specs.Decimal.{decimal, integer}
use Rattle.text.proofs.Laws.{wrote_both}

-- What `put_integer` writes, below 0 and from 0 on: y is the number as the code reads it, and m the writer as the digits find it.
module _ {s m u : Writer} (z : ℤ) {y : ℤ} {n : ℕ} (same : y ≡ z) (abs : n ≡ nat_abs y) (w : Wrote m (decimal n) u) where
  pub wrote_negative : {t : Writer} → lt_z y (pos 0) ≡ true → m ≡ t → Wrote s (45 ∷ []) t → Wrote s (integer z) u
  unfolding integer
  wrote_negative {t} h g a = by z (rw same at h) (rw (abs, same, g) at w)
    where
      by : (x : ℤ) → lt_z x (pos 0) ≡ true → Wrote t (decimal (nat_abs x)) u → Wrote s (integer x) u
      by (pos n) i b = let k = ltb-true n 0 i in absurd (omega (arith, k))
      by (negsuc n) i b = rw add-one (wrote_both (45 ∷ []) (decimal (suc n)) a b)

  pub wrote_not_negative : lt_z y (pos 0) ≡ false → m ≡ s → Wrote s (integer z) u
  unfolding integer
  wrote_not_negative h g = by z (rw same at h) (rw (abs, same, g) at w)
    where
      by : (x : ℤ) → lt_z x (pos 0) ≡ false → Wrote s (decimal (nat_abs x)) u → Wrote s (integer x) u
      by (pos n) i b = b
      by (negsuc n) i b = let o : ◌≡◌ {A = ℕ} 0 1 = cc in absurd (omega arith)
