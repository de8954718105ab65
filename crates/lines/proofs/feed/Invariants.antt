-- `lines::feed` meets its contract.
use Rattle.lines.specs.Lines.{Feeding, lined}
use Rattle.lines.proofs.feed.Given as goal

abbrev pub invariant-loop-i : goal.invariant-loop-i
invariant-loop-i l = Feeding l.s l.from l.i (lined l.initial.nums l.initial.line) (lined l.nums l.line)
