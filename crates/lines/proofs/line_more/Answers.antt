-- `lines::line_more` meets its contract.
use Rattle.lines.proofs.Steps.{line_behind, line_space, line_letter}
use Rattle.lines.specs.Lines.{lined}
use Rattle.lines.proofs.line_more.Goals as goal

pub returns-then-line : goal.returns-then-line
returns-then-line c = line_behind (lined c.args.nums.now c.args.line) c.args.b c.if-line.true c.number_more.ensures

pub returns-then-b-eq32 : goal.returns-then-b-eq32
returns-then-b-eq32 c = line_space (lined c.args.nums.now c.args.line) c.args.b c.if-line.false c.if-b-eq32.true

pub returns : goal.returns
returns c = line_letter (lined c.args.nums.now c.args.line) c.args.b c.if-line.false c.if-b-eq32.false c.word_more.ensures
