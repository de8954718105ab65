-- `lines::numeral_integer` meets its contract.
use Rattle.lines.proofs.Steps.{integer_large, integer_low, integer_positive, integer_negative}
use Rattle.lines.specs.Numerals.{numeral_integer}
use mathlib.Core.Logic.{⊎_elim}
use mathlib.Core.Path.{sym, ap, ◌∙◌}
use Rattle.lines.proofs.numeral_integer.Goals as goal

pub returns-in-Positive : goal.returns-in-Positive
returns-in-Positive c = integer_positive _ c.if-v-le4294967295.true ∙ ap numeral_integer (sym c.in-Positive.is)

pub returns-in-Negative : goal.returns-in-Negative
returns-in-Negative c = integer_negative _ c.if-v-le2147483648.true ∙ ap numeral_integer (sym c.in-Negative.is)

pub returns-in-Positive-2 : goal.returns-in-Positive-2
returns-in-Positive-2 c = integer_large _ c.if-v-le4294967295.false ∙ ap numeral_integer (sym c.in-Positive.is)

pub returns-in-Positive-2-2 : goal.returns-in-Positive-2-2
returns-in-Positive-2-2 c = integer_low _ c.if-v-le2147483648.false ∙ ap numeral_integer (sym c.in-Negative.is)

pub returns-in-Empty : goal.returns-in-Empty
unfolding numeral_integer
returns-in-Empty c = ⊎_elim (λ p. rw p) (⊎_elim (λ p. rw p) (λ p. rw p)) c.in-Empty.is
