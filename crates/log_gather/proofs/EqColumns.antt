-- The adder of Eq over the arrays is that over the grid's cells, where no column that is reached is too tall.
use mathlib.Core.Path.{◌≡◌, refl, ap, sym, ◌∙◌}
use mathlib.Core.Bool.{Bool, true, false}
use mathlib.Core.List.{List, [], ◌∷◌}
use Prim.Native.Nat.{ℕ, zero, suc, ◌+◌, ◌-◌, ◌/◌, ◌%◌, ◌≤◌, ◌<◌}
use native.Mathlib.Numerals.{sub-one}
use native.Mathlib.Omega.{arith}
use borrow.Author.Tests.{leb-true}
use lib.Dec.{leb}
use lib.ListN.{length, get_or}
use Rattle.log_adder.specs.declared.Columns.{Columns}
use Rattle.log_adder.specs.declared.VarRange.{VarRange}
use Rattle.log_adder.specs.ColumnInfo.{range_lits}
use Rattle.sat.proofs.Fresh.{length_fresh}
use Rattle.log_encoding.specs.Adder2.{EqColumn, LastColumn, adder2, eq_columns, last_column}
use Rattle.log_adder2.specs.EqState.{output_at}
use Rattle.log_adder.specs.AdderState.{own_at}
use Rattle.log_adder2.proofs.EqHeights.{column_fits, fits_step, tall_from}
use Rattle.log_encoding.specs.Gather.{Grid}
use Rattle.log_gather.specs.Arrays.{Holds}

-- the same eq-columns, by their places
abbrev pub grid_eq_columns : ℕ → ℕ → Grid → ℕ → ℕ → List EqColumn
grid_eq_columns zero i g x y = []
grid_eq_columns (suc w) i g x y = record { own = get_or g i []; target = (x + y) % 2 } ∷ grid_eq_columns w (i + 1) g ((x + 1) / 2) (y / 2)

abbrev pub grid_last_column : ℕ → ℕ → Grid → ℕ → ℕ → LastColumn
grid_last_column zero i g x y = record { own = get_or g i []; plus = x; target = y }
grid_last_column (suc w) i g x y = grid_last_column w (i + 1) g ((x + 1) / 2) (y / 2)

eq_columns_shift : (w i : ℕ) (c : List ℕ) (g : Grid) (x y : ℕ) → (grid_eq_columns w (suc i) (c ∷ g) x y ≡ grid_eq_columns w i g x y) × (grid_last_column w (suc i) (c ∷ g) x y ≡ grid_last_column w i g x y)
eq_columns_shift zero i c g x y = (refl, refl)
eq_columns_shift (suc w) i c g x y =
    let e : suc i + 1 ≡ suc (i + 1) = omega arith in
    let r = eq_columns_shift w (i + 1) c g ((x + 1) / 2) (y / 2) in (
      ap (λ (cs : List EqColumn). record { own = get_or g i []; target = (x + y) % 2 } ∷ cs) (ap (λ (j : ℕ). grid_eq_columns w j (c ∷ g) ((x + 1) / 2) (y / 2)) e ∙ r.0),
      ap (λ (j : ℕ). grid_last_column w j (c ∷ g) ((x + 1) / 2) (y / 2)) e ∙ r.1,
    )

pub eq_columns_grid : (g : Grid) (c : List ℕ) (x y : ℕ) → (eq_columns (c ∷ g) x y ≡ grid_eq_columns (length g) 0 (c ∷ g) x y) × (last_column (c ∷ g) x y ≡ grid_last_column (length g) 0 (c ∷ g) x y)
eq_columns_grid [] c x y = (refl, refl)
eq_columns_grid (d ∷ g) c x y =
    let r = eq_columns_grid g d ((x + 1) / 2) (y / 2) in
    let s = eq_columns_shift (length g) 0 c (d ∷ g) ((x + 1) / 2) (y / 2) in (
      ap (λ (cs : List EqColumn). record { own = c; target = (x + y) % 2 } ∷ cs) (r.0 ∙ sym s.0),
      r.1 ∙ sym s.1,
    )

-- the adder over the arrays
pub output_grid : (cols : Columns) (g : Grid) → Holds cols g
    → (w i x y : ℕ) (p : VarRange) (v : ℕ) → i + w < 32 → tall_from cols.counts (suc w) i x y p.count ≡ false
    → output_at w i cols.lits cols.counts x y p v ≡ adder2 (grid_eq_columns w i g x y) (grid_last_column w i g x y) (range_lits p) v
output_grid cols g h zero i x y p v l k =
    let hi = column_fits cols.counts 1 i x y p.count (omega arith) k in
    let n = h.count i (omega arith) in
    ap (λ (o : List ℕ). adder2 [] (record { own = o; plus = x; target = y }) (range_lits p) v) (h.own i (omega arith) (omega arith))
output_grid cols g h (suc w) i x y p v l k =
    go (leb ((x + y) % 2) (get_or cols.counts i 0 + p.count)) refl
    (λ q sh. output_grid cols g h w (i + 1) ((x + 1) / 2) (y / 2) q (v + q.count) (omega arith) sh)
  where
    hi : get_or cols.counts i 0 + p.count ≤ 12
    hi = column_fits cols.counts (suc (suc w)) i x y p.count (omega arith) k

    same : own_at cols.lits cols.counts i ≡ get_or g i []
    same = let n = h.count i (omega arith) in let z = hi in h.own i (omega arith) (omega arith)

    size : length (get_or g i []) ≡ get_or cols.counts i 0
    size = sym (h.count i (omega arith))

    carry : length (range_lits p) ≡ p.count
    carry = length_fresh p.count p.first.0

    go : (t : Bool) → leb ((x + y) % 2) (get_or cols.counts i 0 + p.count) ≡ t
        → ((q : VarRange) → tall_from cols.counts (suc w) (i + 1) ((x + 1) / 2) (y / 2) q.count ≡ false
        → output_at w (i + 1) cols.lits cols.counts ((x + 1) / 2) (y / 2) q (v + q.count) ≡ adder2 (grid_eq_columns w (i + 1) g ((x + 1) / 2) (y / 2)) (grid_last_column w (i + 1) g ((x + 1) / 2) (y / 2)) (range_lits q) (v + q.count))
        → output_at (suc w) i cols.lits cols.counts x y p v ≡ adder2 (grid_eq_columns (suc w) i g x y) (grid_last_column (suc w) i g x y) (range_lits p) v
    go true e more =
        let n : ℕ = (get_or cols.counts i 0 + p.count - (x + y) % 2) / 2 in
        let sh : tall_from cols.counts (suc w) (i + 1) ((x + 1) / 2) (y / 2) n ≡ false =
        rw (sub-one (suc (suc w))) at (fits_step cols.counts (suc (suc w)) i x y p.count (omega arith) (leb-true ((x + y) % 2) (get_or cols.counts i 0 + p.count) e) k) in
        rw (same, size, carry, e, more (record { first = record { 0 = v }; count = n }) sh)
    go false e more = rw (same, size, carry, e)
