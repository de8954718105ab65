-- How much a multiplier adds at most.
use mathlib.Core.Path.{◌≡◌, ap, ◌∙◌}
use mathlib.Core.Bool.{false}
use mathlib.Core.List.{List, [], ◌∷◌, map}
use Prim.Native.Nat.{ℕ, suc, zero, ◌+◌, ◌*◌, ◌^◌, ◌≤◌}
use native.Mathlib.Omega.{arith}
use lib.ListN.{length, length-append, length-map}
use Rattle.sat.specs.Encoded.{EncodedBits}
use Rattle.sat.specs.Size.{entries}
use Rattle.clause_set.specs.declared.ClauseSet.{ClauseSet}
use Rattle.clause_set.proofs.Writing.{wrote_clauses, wrote_lits}
use Rattle.sat.specs.declared.Lit.{Lit}
use Rattle.sat.specs.LitArray.{num}
use Rattle.log_linear.specs.declared.Bits.{Bits}
use Rattle.log_product.specs.Ready.{FactorsReady}
use lib.Dec.{lit<}
use Rattle.sat.proofs.Size.{entries_append}
use Rattle.log_encoding.specs.Adder.{adder}
use Rattle.log_encoding.specs.Gather.{Grid, pad_columns}
use Rattle.log_encoding.specs.AdderSize.{ColumnShape, column_shape, pad_shapes, reached, too_tall}
use Rattle.log_encoding.proofs.AdderSize.{pad_columns_shapes}
use Rattle.log_mul.specs.Added.{MultiplierAdded, MultiplierReady}
use Rattle.log_encoding.specs.Multiply.{multiplier, row, rows, rows_grid, rows_vars}
use Rattle.log_encoding.specs.MulSize.{multiplier_reached, rows_counts}
use Rattle.log_mul.proofs.Numbered.{multiplier_few}
use Rattle.log_mul.proofs.Rows.{gates_most, row_size}
use Rattle.log_encoding.proofs.MulSize.{multiplier_size, rows_grid_counts}
use Rattle.log_encoding.proofs.AdderMost.{ConstantBits, adder_most}

rows_size : (xs ys : List ℕ) (v : ℕ) → (entries (rows xs ys v) ≡ 7 * (length ys * length xs)) × (length (rows xs ys v) ≡ 3 * (length ys * length xs))
rows_size [] ys v = (omega arith, omega arith)
rows_size (x ∷ xs) ys v =
    let a = row_size x ys v in
    let r = rows_size xs ys (v + length ys) in
    let e = entries_append (row x ys v) (rows xs ys (v + length ys)) in
    let l = length-append (row x ys v) (rows xs ys (v + length ys)) in
    let n : length ys * suc (length xs) ≡ length ys * length xs + length ys = omega arith in
    (omega arith, omega arith)

pad_bits : (n : ℕ) (grid : Grid) → ConstantBits (pad_columns n grid)
pad_bits zero [] = tt
pad_bits (suc n) [] = (omega arith, pad_bits n [])
pad_bits zero (c ∷ grid) = (omega arith, pad_bits zero grid)
pad_bits (suc n) (c ∷ grid) = (omega arith, pad_bits n grid)

-- 144 gates, and 24 columns
pub record MultiplierMost (mul : EncodedBits) : Type 0 where
  pub lits : entries mul.clauses ≤ 377488368
  pub clauses : length mul.clauses ≤ 25166256

pub multiplier_most : (xs ys : List ℕ) (v : ℕ) → length xs ≤ 12 → length ys ≤ 12 → too_tall (multiplier_reached (length xs) (length ys) 0) ≡ false
    → MultiplierMost (multiplier xs ys [] v)
multiplier_most xs ys v h k t =
    let grid = rows_grid xs ys 0 v [] in
    let shapes : map column_shape (pad_columns 0 grid) ≡ pad_shapes 0 (rows_counts (length xs) (length ys) 0 []) =
    pad_columns_shapes 0 grid ∙ ap (pad_shapes 0) (rows_grid_counts xs ys 0 v []) in
    let sum : EncodedBits = adder (pad_columns 0 grid) [] [] (rows_vars xs ys v) in
    let most = adder_most (pad_columns 0 grid) [] [] (rows_vars xs ys v) (pad_bits 0 grid) (omega arith) (ap (λ (cs : List ColumnShape). too_tall (reached cs 0)) shapes ∙ t) in
    let few = multiplier_few (length xs) (length ys) h k in
    let bits : length sum.bits ≡ length (multiplier_reached (length xs) (length ys) 0) = (multiplier_size (λ n. n) xs ys [] v).bits_are in
    let gates = rows_size xs ys v in
    let g = gates_most (length ys) (length xs) h k in
    let e = entries_append (rows xs ys v) sum.clauses in
    let l = length-append (rows xs ys v) sum.clauses in
    record { lits = omega (arith, most.lits); clauses = omega (arith, most.clauses) }

-- the counts after it
pub multiplied_most : {s t : ClauseSet} {mul : EncodedBits} {r : Bits} → MultiplierMost mul → MultiplierAdded s mul t r
    → (t.used.lits ≤ s.used.lits + 377488368) × (t.used.clauses ≤ s.used.clauses + 25166256)
multiplied_most m w = (omega (arith, m.lits, wrote_lits w.wrote), omega (arith, m.clauses, wrote_clauses w.wrote))

-- a multiplier with no given result
module _ {x y : List Lit} {s : ClauseSet} (f : FactorsReady x y s) where
  pub factors_ready : {t : ClauseSet} → t.vars ≤ 1000000 → t.base + t.used.lits ≤ 2 ^ 29 → t.used.clauses ≤ 2 ^ 29 → MultiplierReady x y [] t
  factors_ready v l n =
      record { x_len = f.x_len; y_len = f.y_len; m_len = omega arith; low = λ k. lit< tt; vars = v; lits = l; clauses = n; heights = f.heights }

  pub factors_most : (v : ℕ) → MultiplierMost (multiplier (map num x) (map num y) [] v)
  factors_most v =
      let xl = length-map x num in
      let yl = length-map y num in
      multiplier_most (map num x) (map num y) v (omega (arith, f.x_len)) (omega (arith, f.y_len)) ((λ i. too_tall (multiplier_reached (xl i) (yl i) 0)) ∙ f.heights)
