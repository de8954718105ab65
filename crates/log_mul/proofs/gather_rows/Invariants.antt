-- `log_mul::gather_rows` meets its contract.
use Rattle.log_mul.proofs.RowColumns.{Gathering}
use Rattle.log_mul.proofs.gather_rows.Given as goal

abbrev pub invariant-loop-i : goal.invariant-loop-i
invariant-loop-i l = Gathering l.x l.y l.vars l.cols l.v l.i
