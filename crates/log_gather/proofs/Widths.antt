-- How many columns there are; and the arrays' columns are the grid's.
use mathlib.Core.Path.{◌≡◌, refl, ap, ◌∙◌}
use mathlib.Core.Bool.{Bool, true, false, cond}
use mathlib.Core.List.{List, [], ◌∷◌, map}
use Prim.Native.Nat.{ℕ, zero, suc, max, ◌+◌, ◌-◌, ◌/◌, ◌%◌, ◌≤◌, ◌<◌}
use native.Mathlib.Nat.{not-suc-le-zero}
use native.Mathlib.Numerals.{add-one, sub-one}
use native.Mathlib.Omega.{arith}
use lib.Dec.{eqb}
use lib.ListN.{length, get_or, take}
use Rattle.log_adder.specs.declared.Columns.{Columns}
use Rattle.sat.specs.LitArray.{num}
use Rattle.log_adder.specs.AdderState.{input_columns}
use Rattle.log_encoding.specs.Gather.{Grid, push_scaled, push_value}
use Rattle.log_encoding.specs.AdderSize.{input_shapes, reached, too_tall}
use Rattle.log_encoding.proofs.Heights.{column_fits, fits_step}
use Rattle.log_gather.specs.Arrays.{Holds, grid_columns, widths}

push_length : (o : ℕ) (ls : List ℕ) (g : Grid) → length (push_value o ls g) ≡ max (length g) (o + length ls)
push_length zero [] g = omega arith
push_length zero (l ∷ ls) [] = omega (arith, push_length zero ls [])
push_length zero (l ∷ ls) (c ∷ g) = omega (arith, push_length zero ls g)
push_length (suc o) ls [] = omega (arith, push_length o ls [])
push_length (suc o) ls (c ∷ g) = omega (arith, push_length o ls g)

cond_length : (b : Bool) (g h : Grid) → length (cond b g h) ≡ cond b (length g) (length h)
cond_length true g h = refl
cond_length false g h = refl

-- the width that the code computes is the number of columns
pub scaled_length : (f k o : ℕ) (ls : List ℕ) (g : Grid) → length (push_scaled f k o ls g) ≡ widths f k o (length ls) (length g)
scaled_length zero k o ls g = refl
scaled_length (suc f) k o ls g =
    scaled_length f (k / 2) (suc o) ls (cond (eqb (k % 2) 1) (push_value o ls g) g)
    ∙ ap (widths f (k / 2) (suc o) (length ls)) (cond_length (eqb (k % 2) 1) (push_value o ls g) g ∙ ap (λ (x : ℕ). cond (eqb (k % 2) 1) x (length g)) (push_length o ls g))

pub widths_step : (f k o n w : ℕ) → 0 < f → widths f k o n w ≡ widths (f - 1) (k / 2) (o + 1) n (cond (eqb (k % 2) 1) (max w (o + n)) w)
widths_step zero k o n w h = absurd (not-suc-le-zero h)
widths_step (suc f) k o n w h = rw (sub-one (suc f), add-one o)

pub widths_end : (f k o n w : ℕ) → f ≤ 0 → widths f k o n w ≡ w
widths_end zero k o n w h = refl
widths_end (suc f) k o n w h = absurd (not-suc-le-zero h)

-- The arrays' columns ------------------------------------------------------------------------------------------

-- where no column that is reached is too tall, the adder's columns are the grid's
pub columns_grid : (cols : Columns) (g : Grid) → Holds cols g
    → (w i k c : ℕ) → i + w ≤ 32 → too_tall (reached (input_shapes w i cols.counts k) c) ≡ false → input_columns w i cols.lits cols.counts k ≡ grid_columns w i g k
columns_grid cols g h zero i k c l s = refl
columns_grid cols g h (suc w) i k c l s =
    let t : get_or cols.counts i 0 + c ≤ 12 = column_fits cols.counts (suc w) i k c (omega arith) s in
    let n = h.count i (omega arith) in
    let e : map num (take (get_or cols.counts i 0) (get_or cols.lits i [])) ≡ get_or g i [] = h.own i (omega arith) (omega arith) in
    let left : too_tall (reached (input_shapes w (i + 1) cols.counts (k / 2)) ((k % 2 + get_or cols.counts i 0 + c) / 2)) ≡ false =
    rw (sub-one (suc w)) at (fits_step cols.counts (suc w) i k c (omega arith) s) in
    let r = columns_grid cols g h w (i + 1) (k / 2) ((k % 2 + get_or cols.counts i 0 + c) / 2) (omega arith) left in
    λ j. record { own = e j; constant = k % 2 } ∷ r j
