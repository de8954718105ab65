-- `log_adder::greatest_height` meets its contract.
use lib.ListN.{length}
use Rattle.log_encoding.proofs.Heights.{HeightsLeft}
use Rattle.log_adder.proofs.greatest_height.Given as goal

abbrev pub invariant-loop-count : goal.invariant-loop-count
invariant-loop-count l = HeightsLeft l.counts (length l.counts) l.initial.bits l.bits l.carry l.most l.count-index
