-- `lines::with_digit` meets its contract.
use Rattle.lines.proofs.Steps.{digit_behind}
use Rattle.lines.specs.declared.Numeral.TheVariants.{Positive, Negative}
use mathlib.Core.Path.{ap, ◌∙◌}
use Rattle.lines.proofs.with_digit.Goals as goal

pub returns-in-Empty : goal.returns-in-Empty
returns-in-Empty c = ap Positive c.grown.ensures ∙ digit_behind _ c.requires c.in-Empty.is

pub returns-in-Minus : goal.returns-in-Minus
returns-in-Minus c = ap Negative c.grown-in-Minus.ensures ∙ digit_behind _ c.requires c.in-Minus.is

pub returns-in-Positive : goal.returns-in-Positive
returns-in-Positive c = ap Positive c.grown-in-Positive.ensures ∙ digit_behind _ c.requires c.in-Positive.is

pub returns-in-Negative : goal.returns-in-Negative
returns-in-Negative c = ap Negative c.grown-in-Negative.ensures ∙ digit_behind _ c.requires c.in-Negative.is

pub returns-in-Other : goal.returns-in-Other
returns-in-Other c = digit_behind _ c.requires c.in-Other.is
