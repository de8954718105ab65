-- `log_mul::push_row` meets its contract.
use Rattle.log_mul.proofs.Rows.{RowLeft}
use Rattle.log_mul.proofs.push_row.Given as goal

abbrev pub invariant-loop-y : goal.invariant-loop-y
invariant-loop-y l = RowLeft l.x.0 l.ys l.initial.set l.set l.y-index
