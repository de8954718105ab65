-- `log_adder2::add_eq_columns` meets its contract.
use Rattle.log_adder2.proofs.ColumnsPass.{ColumnsLeft}
use Rattle.log_adder2.proofs.add_eq_columns.Given as goal

abbrev pub invariant-loop-i : goal.invariant-loop-i
invariant-loop-i l = ColumnsLeft l.cols.lits l.cols.counts l.last l.carry l.initial.set l.initial.s l.set l.s l.i
