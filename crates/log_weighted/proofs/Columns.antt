-- The arrays' columns are the definitions': those of one sign with a constant's bits, and those of Eq.
use mathlib.Core.Path.{◌≡◌, refl, ap, sym, ◌∙◌}
use mathlib.Core.Bool.{false}
use mathlib.Core.List.{[], ◌∷◌, map}
use Prim.Native.Nat.{ℕ, zero, suc, max, ◌+◌, ◌-◌, ◌%◌, ◌/◌, ◌≤◌, ◌<◌}
use native.Mathlib.Omega.{arith}
use lib.ListN.{get_or-map, length, length-map, take}
use lib.Seq.{ext_get_or, get_or-take, length-take-le}
use Rattle.arithmetic.specs.Bits.{bit_length}
use Rattle.arithmetic.proofs.Bits.{bit_length_least}
use Rattle.log_adder.specs.declared.Columns.{Columns}
use Rattle.log_encoding.specs.Adder2.{adder2, eq_columns, last_column}
use Rattle.log_adder.specs.AdderState.{input_columns}
use Rattle.log_encoding.specs.Gather.{Grid, with_constant}
use Rattle.log_encoding.specs.AdderSize.{column_shape, eq_reached, input_shapes, own_counts, reached, too_tall}
use Rattle.log_adder2.specs.declared.EqInput.{EqInput}
use Rattle.log_adder2.specs.EqState.{eq_output}
use Rattle.log_adder2.proofs.EqHeights.{all_fit}
use Rattle.log_gather.specs.Arrays.{grid_columns}
use Rattle.log_gather.proofs.Constants.{constant_grid}
use Rattle.log_gather.proofs.EqColumns.{eq_columns_grid, grid_eq_columns, grid_last_column, output_grid}
use Rattle.log_gather.proofs.Widths.{columns_grid}
use Rattle.log_terms.specs.Gathered.{Gathered}

-- a number below 2 ^ 25 takes 25 columns
pub constant_wide : (k : ℕ) → k < 33554432 → bit_length k ≤ 25
constant_wide k h = bit_length_least k 25 h

module _ {grid : Grid} {cols : Columns} (g : Gathered grid cols) where
  -- One sign ----------------------------------------------------------------------------------------------------------

  shapes_from : (w i k : ℕ) → i + w ≤ 32 → input_shapes w i cols.counts k ≡ map column_shape (grid_columns w i grid k)
  shapes_from zero i k h = refl
  shapes_from (suc w) i k h =
      let n = g.holds.count i (omega arith) in
      let r = shapes_from w (i + 1) (k / 2) (omega arith) in
      λ j. record { own = n j; constant = k % 2 } ∷ r j

  module _ (k w : ℕ) (low : k < 33554432) (wide : w ≡ max (length grid) (bit_length k)) (few : length grid ≤ 25) where
    as_wide : with_constant 32 grid k ≡ grid_columns w 0 grid k
    as_wide = constant_grid 32 grid k (omega arith) ∙ ap (λ (n : ℕ). grid_columns n 0 grid k) (sym wide)

    in_width : 0 + w ≤ 32
    in_width = omega (arith, constant_wide k low)

    pub constant_shapes_are : input_shapes w 0 cols.counts k ≡ map column_shape (with_constant 32 grid k)
    constant_shapes_are = shapes_from w 0 k in_width ∙ ap (map column_shape) (sym as_wide)

    pub constant_columns_are : too_tall (reached (input_shapes w 0 cols.counts k) 0) ≡ false → input_columns w 0 cols.lits cols.counts k ≡ with_constant 32 grid k
    constant_columns_are t = columns_grid cols grid g.holds w 0 k 0 in_width t ∙ sym as_wide

  -- Eq ----------------------------------------------------------------------------------------------------------------

  pub counts_are : (w : ℕ) → w ≡ length grid → w ≤ 32 → take w cols.counts ≡ own_counts grid
  counts_are w e h =
      let long = length-take-le w cols.counts (omega (arith, g.arrays.places)) in
      ext_get_or 0 (take w cols.counts) (own_counts grid) (long ∙ e ∙ sym (length-map grid length))
      (λ i k. get_or-take w cols.counts i 0 (omega (arith, long)) ∙ g.holds.count i (omega (arith, long)) ∙ sym (get_or-map length grid i []))

  pub eq_output_is : (q : EqInput) → q.width ≡ length grid → 1 ≤ q.width → q.width ≤ 25
      → too_tall (eq_reached (take q.width cols.counts) q.x q.y 0) ≡ false
      → eq_output cols q ≡ adder2 (eq_columns grid q.x q.y) (last_column grid q.x q.y) [] q.vars
  eq_output_is q e some few t =
      let z = g.arrays.places in
      output_grid cols grid g.holds (q.width - 1) 0 q.x q.y (record { first = record { 0 = 0 }; count = 0 }) q.vars (omega arith)
      (all_fit cols.counts q.width q.x q.y some (omega arith) t)
      ∙ go grid (q.width - 1) (omega arith)
    where
      go : (cs : Grid) (w : ℕ) → suc w ≡ length cs
          → adder2 (grid_eq_columns w 0 cs q.x q.y) (grid_last_column w 0 cs q.x q.y) [] q.vars ≡ adder2 (eq_columns cs q.x q.y) (last_column cs q.x q.y) [] q.vars
      go [] w h = absurd (omega arith)
      go (c ∷ cs) w h =
          let n : w ≡ length cs = omega arith in
          let r = eq_columns_grid cs c q.x q.y in
          rw n (λ j. adder2 (sym r.0 j) (sym r.1 j) [] q.vars)
