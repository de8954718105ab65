-- `lines::numeral_more` meets its contract.
use Rattle.lines.proofs.Steps.{more_none}
use mathlib.Core.Path.{sym, ◌∙◌}
use Rattle.lines.proofs.numeral_more.Goals as goal

pub returns : goal.returns
returns c = more_none _ _ (sym c.is_digit.ensures ∙ c.if-is_digit.false) c.if-b-eq45.false
