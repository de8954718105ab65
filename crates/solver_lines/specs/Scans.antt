-- The number that a piece of a line is, as the code holds it.
use Rattle.std.specs.Prelude.{min, ℕ, cond, List, Option, Some, None}
use Rattle.text.specs.Decimal.{digits_value}
use Rattle.solver_answer.specs.Lines.{Number as Signed, is_number, is_positive, number}
use Rattle.solver_lines.specs.declared.Number.{Number}

-- up to 65,536, which no job has as a variable's number
abbrev pub capped : Signed → Number
capped m = record { negative = m.negative; size = min m.size 65536 }

-- the digits' value, if they are a number above 0
unfoldable pub positive_read : List ℕ → Option ℕ
positive_read l = cond (is_positive l) (Some (min (digits_value 0 l) 65536)) None

-- the piece's number, if it is one
unfoldable pub number_read : List ℕ → Option Number
number_read t = cond (is_number t) (Some (capped (number t))) None

-- as the document has it
abbrev pub signed : Number → Signed
signed m = record { negative = m.negative; size = m.size }
