-- `text::decimal_length` meets its contract.
use borrow.Author.Rules.{rules}
use Rattle.text.proofs.Numerals.{digits_long, one_digit_long}
use Rattle.text.proofs.+decimal_length.Goals as goal

pub returns-then-n-lt10 : goal.returns-then-n-lt10
returns-then-n-lt10 t c = one_digit_long _ c.if-n-lt10.true

pub returns : goal.returns
returns t c = digits_long _ c.if-n-lt10.false (search rules) c.decimal_length.ensures.0
