-- `log_counts::row_counts` meets its contract.
use Prim.Native.Nat.{◌-◌, ◌*◌}
use Rattle.log_encoding.specs.MulSize.{rows_counts}
use Rattle.log_counts.proofs.Growing.{Growing}
use Rattle.log_counts.proofs.row_counts.Given as goal

abbrev pub invariant-loop-i : goal.invariant-loop-i
invariant-loop-i l = Growing (25 * l.i) (rows_counts l.x l.y 0) (rows_counts (l.x - l.i) l.y l.i) l.initial.c l.c
