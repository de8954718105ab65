-- The settings' records by their numbers, and what sums and products ask of a record.
use Rattle.std.specs.Prelude.{◌<◌, ◌≤◌, ℕ, get_or, List}
use Rattle.arithmetic.specs.Integers.{down, up}
use Rattle.sat.specs.LitArray.{lit}
use Rattle.sat.specs.declared.Lit.{Lit}
use Rattle.log_encoding.specs.VarSize.{SettingShape, setting_shape}
use Rattle.log_var.specs.Record.{int_map_of}
use Rattle.log_var.specs.declared.LogEncoding.{LogEncoding as Encoding}

-- each setting's numbers
abbrev pub shape_map_of : List Encoding → ℕ → SettingShape
shape_map_of es i = setting_shape (int_map_of es i)

-- the first n literals of the array are numbers below 2 ^ 31 - 1
abbrev pub FirstSmall : ℕ → List Lit → Type 0
FirstSmall n ls = (k : ℕ) → k < n → (get_or ls k (lit 0)).0 < 2147483647

-- a record of at most twelve literals and an offset within bounds
pub record SettingReady (e : Encoding) : Type 0 where
  pub len : e.len ≤ 12
  pub offset_up : up e.offset ≤ 4095
  pub offset_down : down e.offset ≤ 4095
  pub small : FirstSmall e.len e.lits
