-- `adder_size::AdderSize::extended` meets its contract.
use Rattle.adder_size.proofs.Left.{PastLeft}
use Rattle.adder_size.proofs.AdderSize.extended.Given as goal

abbrev pub invariant-loop-s : goal.invariant-loop-s
invariant-loop-s l = PastLeft l.initial.s l.s

abbrev pub decreases-loop-s : goal.decreases-loop-s
decreases-loop-s l = l.s.carry
