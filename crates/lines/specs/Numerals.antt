-- A token read byte after byte, and the integer that it is.
use Rattle.std.specs.Prelude.{Option, Some, None, ℤ}
use Rattle.std.specs.Prelude.{ℕ, ◌+◌, ◌-◌, ◌*◌, min, ◌&&◌, cond, List, [], ◌∷◌, leb, eqb, pos, neg_ℤ}
use Rattle.lines.specs.Integers.{is_digit, is_integer, integer_value, in_range}
use Rattle.lines.specs.declared.Numeral.{Numeral}
use Rattle.lines.specs.declared.Numeral.TheVariants.{Empty, Minus, Positive, Negative, Other}

-- the integer that a token is, if it is one from -2147483648 to 4294967295
unfoldable pub token_integer : List ℕ → Option ℤ
token_integer bs = cond (is_integer bs && in_range (integer_value bs)) (Some (integer_value bs)) None

-- what digits that say v say with the digit b behind them, at most 4294967296
abbrev pub grown : ℕ → ℕ → ℕ
grown v b = min (10 * v + (b - 48)) 4294967296

abbrev pub with_digit : Numeral → ℕ → Numeral
with_digit Empty b = Positive (grown 0 b)
with_digit Minus b = Negative (grown 0 b)
with_digit (Positive v) b = Positive (grown v b)
with_digit (Negative v) b = Negative (grown v b)
with_digit Other b = Other

abbrev pub with_other : Numeral → ℕ → Numeral
with_other Empty b = cond (eqb b 45) Minus Other
with_other Minus b = Other
with_other (Positive v) b = Other
with_other (Negative v) b = Other
with_other Other b = Other

-- a token with a byte behind it
unfoldable pub numeral_more : Numeral → ℕ → Numeral
numeral_more n b = cond (is_digit b) (with_digit n b) (with_other n b)

unfoldable pub numeral_from : Numeral → List ℕ → Numeral
numeral_from n [] = n
numeral_from n (b ∷ bs) = numeral_from (numeral_more n b) bs

unfoldable pub numeral_integer : Numeral → Option ℤ
numeral_integer Empty = None
numeral_integer Minus = None
numeral_integer (Positive v) = cond (leb v 4294967295) (Some (pos v)) None
numeral_integer (Negative v) = cond (leb v 2147483648) (Some (neg_ℤ (pos v))) None
numeral_integer Other = None
