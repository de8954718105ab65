-- A setting as bits, after `LogEncoding` of log.rs: document 01's setting record.
use Rattle.std.specs.Prelude.{ℕ, pos, ℤ, List, []}
use Rattle.arithmetic.specs.Offset.{value}
use Rattle.sat.specs.Clause.{Assignment}
use Rattle.sat.specs.Number.{code_of}

pub record LogEncoding : Type 0 where
  pub lits : List ℕ
  pub low : ℤ
  pub high : ℤ
  pub offset : ℤ

-- a spare record
abbrev pub no_encoding : LogEncoding
no_encoding = record { lits = []; low = pos 0; high = pos 0; offset = pos 0 }

-- the value that an assignment reads as: the sum of 2 ^ i over true bits i, plus the offset
abbrev pub get_int_value : Assignment → LogEncoding → ℤ
get_int_value α e = value e.offset (code_of α e.lits)
