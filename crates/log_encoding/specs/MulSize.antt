-- The columns that a product reaches, and the size of its clauses, from bit counts and offsets alone.
use Rattle.std.specs.Prelude.{◌*◌, ◌+◌, ◌-◌, suc, zero, ℕ, ◌*ℤ◌, ◌-ℤ◌, negsuc, pos, ℤ, length, Bool, ◌&&◌, cond, List, [], ◌++◌, ◌∷◌}
use Rattle.arithmetic.specs.Integers.{down, up}
use Rattle.sat.specs.Size.{Size, size_by}
use Rattle.norm_csp.specs.NormOp.{eq}
use Rattle.log_encoding.specs.VarSize.{SettingShape}
use Rattle.log_encoding.specs.AdderSize.{Reached, adder_count, adder_vars, pad_shapes, push_counts, reached}
use Rattle.log_encoding.specs.LinearSize.{WeightedShape, linear_count, linear_reached, linear_vars, weighted_shape}
use Rattle.log_encoding.specs.EncodeMulLog.{is_zero}

-- The multiplier, of x bits by y bits, with r of the product's bits given ---------------------------------------------

-- row i in the columns from i on; the first row starts at column o
abbrev pub rows_counts : ℕ → ℕ → ℕ → List ℕ → List ℕ
rows_counts zero y o hs = hs
rows_counts (suc x) y o hs = rows_counts x y (suc o) (push_counts o y hs)

-- its columns
abbrev pub multiplier_reached : ℕ → ℕ → ℕ → List Reached
multiplier_reached x y r = reached (pad_shapes r (rows_counts x y 0 [])) 0

-- one variable for each pair of bits, then the adder's
abbrev pub multiplier_vars : ℕ → ℕ → ℕ → ℕ
multiplier_vars x y r = x * y + adder_vars (multiplier_reached x y r) r

-- an and-gate for each pair of bits, then the adder's clauses; a clause of d literals counts `weigh d`
abbrev pub multiplier_count : (ℕ → ℕ) → ℕ → ℕ → ℕ → ℕ
multiplier_count weigh x y r = x * y * (2 * weigh 2 + weigh 3) + adder_count weigh (multiplier_reached x y r)

-- Without offsets, from the bits of x, y and m -------------------------------------------------------------------------

-- the product's bits past m's have a one-literal clause each
abbrev pub product_count : (ℕ → ℕ) → ℕ → ℕ → ℕ → ℕ
product_count weigh x y m = multiplier_count weigh x y m + (length (multiplier_reached x y m) - m) * weigh 1

-- With offsets: Eq over all the multiplier's bits ---------------------------------------------------------------------

-- the terms of that Eq
abbrev pub offset_shapes : SettingShape → SettingShape → SettingShape → List WeightedShape
offset_shapes x y m =
    weighted_shape (pos 1) (length (multiplier_reached x.bits y.bits 0))
    ∷ weighted_shape y.offset x.bits
    ∷ weighted_shape x.offset y.bits
    ∷ weighted_shape (negsuc 0) m.bits
    ∷ []

-- its constant
abbrev pub offsets_constant : SettingShape → SettingShape → SettingShape → ℤ
offsets_constant x y m = x.offset *ℤ y.offset -ℤ m.offset

-- the multiplier's columns, then Eq's
abbrev pub offsets_reached : SettingShape → SettingShape → SettingShape → List Reached
offsets_reached x y m =
    let k = offsets_constant x y m in
    multiplier_reached x.bits y.bits 0 ++ linear_reached eq (offset_shapes x y m) (up k) (down k)

-- the new variables of both
abbrev pub offsets_vars : SettingShape → SettingShape → SettingShape → ℕ
offsets_vars x y m =
    let k = offsets_constant x y m in
    multiplier_vars x.bits y.bits 0 + linear_vars eq (offset_shapes x y m) (up k) (down k)

-- the clauses of both
abbrev pub offsets_count : (ℕ → ℕ) → SettingShape → SettingShape → SettingShape → ℕ
offsets_count weigh x y m =
    let k = offsets_constant x y m in
    multiplier_count weigh x.bits y.bits 0 + linear_count weigh eq (offset_shapes x y m) (up k) (down k)

-- A product of settings -----------------------------------------------------------------------------------------------

-- all three offsets are 0
abbrev pub no_offsets : SettingShape → SettingShape → SettingShape → Bool
no_offsets x y m = is_zero x.offset && (is_zero y.offset && is_zero m.offset)

-- document 01's columns reached
abbrev pub mul_reached : SettingShape → SettingShape → SettingShape → List Reached
mul_reached x y m = cond (no_offsets x y m) (multiplier_reached x.bits y.bits m.bits) (offsets_reached x y m)

-- its new variables
abbrev pub mul_vars : SettingShape → SettingShape → SettingShape → ℕ
mul_vars x y m = cond (no_offsets x y m) (multiplier_vars x.bits y.bits m.bits) (offsets_vars x y m)

-- its clauses
abbrev pub mul_count : (ℕ → ℕ) → SettingShape → SettingShape → SettingShape → ℕ
mul_count weigh x y m = cond (no_offsets x y m) (product_count weigh x.bits y.bits m.bits) (offsets_count weigh x y m)

-- the size of a product of document 01
abbrev pub mul_size : SettingShape → SettingShape → SettingShape → Size
mul_size x y m = size_by (mul_vars x y m) (λ weigh. mul_count weigh x y m)
