-- `eq_size::eq_size` meets its contract.
use Rattle.eq_size.proofs.Columns.{ColumnsLeft}
use Rattle.eq_size.proofs.eq_size.Given as goal

abbrev pub invariant-loop-own : goal.invariant-loop-own
invariant-loop-own l = ColumnsLeft l.counts l.x l.y l.s l.own-index
