-- One step of each definition that a loop follows, i of which are done, and its end; bits that are all set.
use mathlib.Core.Path.{◌≡◌}
use mathlib.Core.Bool.{cond}
use mathlib.Core.List.{List}
use Prim.Native.Nat.{ℕ, zero, suc, ◌+◌, ◌-◌, ◌*◌, ◌/◌, ◌%◌, ◌≤◌, ◌<◌}
use native.Mathlib.Nat.{mul-one, mul-suc}
use native.Mathlib.Numerals.{add-one, sub-one}
use native.Mathlib.Omega.{arith}
use lib.Dec.{eqb}
use Rattle.arithmetic.specs.Bits.{shl}
use Rattle.arithmetic.proofs.Bits.{shl_mul}
use Rattle.log_encoding.specs.AdderSize.{push_counts, push_scaled_counts}
use Rattle.log_encoding.specs.MulSize.{rows_counts}

-- at least one is left
left : (f i : ℕ) → i < f → f - i ≡ suc (f - (i + 1))
left f i h = omega arith

-- the bits of a coefficient
pub scaled_step : (f k i n : ℕ) (hs : List ℕ) → i < f
    → push_scaled_counts (f - i) k i n hs ≡ push_scaled_counts (f - (i + 1)) (k / 2) (i + 1) n (cond (eqb (k % 2) 1) (push_counts i n hs) hs)
scaled_step f k i n hs h = rw (left f i h, add-one i)

pub scaled_end : (f k i n : ℕ) (hs : List ℕ) → f ≤ i → push_scaled_counts (f - i) k i n hs ≡ hs
scaled_end f k i n hs h = let e : f - i ≡ 0 = omega arith in rw e

-- the rows of a product
pub rows_step : (x y i : ℕ) (hs : List ℕ) → i < x → rows_counts (x - i) y i hs ≡ rows_counts (x - (i + 1)) y (i + 1) (push_counts i y hs)
rows_step x y i hs h = rw (left x i h, add-one i)

pub rows_end : (x y i : ℕ) (hs : List ℕ) → x ≤ i → rows_counts (x - i) y i hs ≡ hs
rows_end x y i hs h = let e : x - i ≡ 0 = omega arith in rw e

-- n bits that are all set, with the coefficient k
pub all_set : (k n x : ℕ) → x + k ≡ shl n k → x ≡ k * (shl n 1 - 1)
all_set k n x e = go (shl n 1) (rw (mul-one k) at (shl_mul n k 1))
  where
    go : (p : ℕ) → shl n k ≡ k * p → x ≡ k * (p - 1)
    go zero q = omega arith
    go (suc p) q = rw (sub-one (suc p)) (omega (arith, mul-suc k p))
