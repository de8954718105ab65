-- Settings by their numbers as the code holds them, and the size of a turned sum.
use Rattle.std.specs.Prelude.{◌≤◌, ℕ, ℤ, List}
use Rattle.arithmetic.specs.Integers.{down, up}
use Rattle.sat.specs.Size.{Size}
use Rattle.norm_csp.specs.Rules.{CmpOp, LinearTerm}
use Rattle.norm_csp.specs.Turned.{turned}
use Rattle.log_encoding.specs.LinearSize.{linear_log_size}
use Rattle.log_encoding.specs.VarSize.{SettingShape}
use Rattle.sum_size.specs.declared.SettingShape.{SettingShape as Shape}

-- the numbers that a setting's size is taken from
abbrev pub numbers_of : Shape → SettingShape
numbers_of s = record { bits = s.bits; offset = s.offset }

-- at most twelve bits, and an offset within bounds
pub record ShapeReady (s : Shape) : Type 0 where
  pub bits_few : s.bits ≤ 12
  pub offset_up : up s.offset ≤ 4095
  pub offset_down : down s.offset ≤ 4095

-- the size of a sum of any operation: that of the turned sum (document 02, #102)
abbrev pub turned_size : (ℕ → SettingShape) → CmpOp → ℤ → List LinearTerm → Size
turned_size settings op constant terms = let t = turned op constant terms in linear_log_size settings t.op t.constant t.terms
