-- `log_adder::log_encoding_adder` meets its contract.
use Rattle.log_adder.proofs.AdderLoops.{Extending, Going}
use Rattle.log_adder.proofs.log_encoding_adder.Given as goal

abbrev pub invariant-loop-i : goal.invariant-loop-i
invariant-loop-i l = Going l.cols l.given l.width l.initial.set l.initial.k l.set l.s l.k l.i

abbrev pub invariant-loop-s : goal.invariant-loop-s
invariant-loop-s l = Extending l.initial.set l.initial.s l.set l.s

abbrev pub decreases-loop-s : goal.decreases-loop-s
decreases-loop-s l = l.s.carry.count
