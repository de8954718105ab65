-- `lines::line_whole` meets its contract.
use Rattle.lines.proofs.Steps.{whole_behind, whole_ends, whole_word}
use Rattle.lines.specs.Lines.{lined}
use Rattle.lines.proofs.line_whole.Goals as goal
use Rattle.lines.proofs.line_whole.Goals.{then-line, else-line}

pub returns-clause-is : goal.returns-clause-is
returns-clause-is c =
    let k = lined c.args.nums.now c.args.line in
    elim c.if-line.branch [
      | then-line w ↦ whole_behind k w.if-line.true (rw (w.nums-is, w.numbers-is) w.number_whole-numbers.ensures)
      | else-line w ↦ whole_word k w.if-line.false w.nums-is w.numbers-is
    ]

pub returns-clause-within : goal.returns-clause-within
returns-clause-within c = (whole_ends (lined c.args.nums.now c.args.line) (returns-clause-is c)).1
