-- `lines::number_whole` meets its contract.
use mir.ValLaws.{to_z-of_z}
use mir.Syntax.{w64}
use borrow.Author.Rules.{rules}
use Rattle.lines.proofs.Steps.{keep_outside, keep_full, keep_value}
use Rattle.lines.specs.Lines.{numbered}
use mathlib.Core.Path.{sym, ◌∙◌}
use Rattle.lines.proofs.number_whole.Goals as goal

pub returns-in-Some : goal.returns-in-Some
returns-in-Some c =
    rw (to_z-of_z w64 c.in-Some.z (search rules)) (sym (keep_value (numbered c.args.nums.now c.args.n) (sym c.numeral_integer.ensures ∙ c.in-Some.is) c.if-at-nums.true))

pub returns-in_default : goal.returns-in_default
returns-in_default c = sym (keep_full (numbered c.args.nums.now c.args.n) (sym c.numeral_integer.ensures ∙ c.in-Some.is) c.if-at-nums.false)

pub returns-in_default-2 : goal.returns-in_default-2
returns-in_default-2 c = sym (keep_outside (numbered c.args.nums.now c.args.n) (sym c.numeral_integer.ensures ∙ c.in_default.is))
