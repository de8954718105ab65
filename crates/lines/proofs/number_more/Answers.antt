-- `lines::number_more` meets its contract.
use Rattle.lines.proofs.Steps.{number_space, number_byte}
use Rattle.lines.specs.Lines.{numbered}
use mathlib.Core.Path.{◌∙◌}
use Rattle.lines.proofs.number_more.Goals as goal

pub returns-then-b-eq32 : goal.returns-then-b-eq32
returns-then-b-eq32 c = c.number_whole.ensures ∙ number_space (numbered c.args.nums.now c.args.n) c.if-b-eq32.true

pub returns : goal.returns
returns c = number_byte (numbered c.args.nums.now c.args.n) c.args.b c.if-b-eq32.false c.numeral_more.ensures
