-- The clauses of a sum of any operation, and the columns that it reaches: those of the turned sum (document 02, #102).
use Rattle.std.specs.Prelude.{ℕ, ℤ, List}
use Rattle.sat.specs.Encoded.{EncodedRule}
use Rattle.norm_csp.specs.Rules.{CmpOp, LinearTerm}
use Rattle.norm_csp.specs.Turned.{turned}
use Rattle.log_encoding.specs.LogEncoding.{LogEncoding}
use Rattle.log_encoding.specs.VarSize.{SettingShape}
use Rattle.log_encoding.specs.AdderSize.{Reached}
use Rattle.log_encoding.specs.EncodeLinearLog.{encode_linear_log}
use Rattle.log_encoding.specs.LinearSize.{linear_log_reached}

abbrev pub encode_turned : (ℕ → LogEncoding) → CmpOp → ℤ → List LinearTerm → ℕ → EncodedRule
encode_turned int_map op constant terms v = let t = turned op constant terms in encode_linear_log int_map t.op t.constant t.terms v

abbrev pub turned_reached : (ℕ → SettingShape) → CmpOp → ℤ → List LinearTerm → List Reached
turned_reached settings op constant terms = let t = turned op constant terms in linear_log_reached settings t.op t.constant t.terms
