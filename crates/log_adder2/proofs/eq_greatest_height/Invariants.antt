-- `log_adder2::eq_greatest_height` meets its contract.
use Rattle.log_adder2.proofs.EqHeights.{HeightsLeft}
use Rattle.log_adder2.proofs.eq_greatest_height.Given as goal

abbrev pub invariant-loop-count : goal.invariant-loop-count
invariant-loop-count l = HeightsLeft l.counts l.x l.y l.a l.b l.carry l.most l.count-index
