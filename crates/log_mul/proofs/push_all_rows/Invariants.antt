-- `log_mul::push_all_rows` meets its contract.
use Rattle.log_mul.proofs.Rows.{RowsLeft}
use Rattle.log_mul.proofs.push_all_rows.Given as goal

abbrev pub invariant-loop-x : goal.invariant-loop-x
invariant-loop-x l = RowsLeft l.xs l.ys l.initial.set l.set l.x-index
