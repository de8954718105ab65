-- `log_counts::ColumnCounts::push` meets its contract.
use Prim.Native.Nat.{◌-◌}
use Rattle.log_counts.proofs.Pushing.{Pushing}
use Rattle.log_counts.proofs.ColumnCounts.push.Given as goal

abbrev pub invariant-loop-w : goal.invariant-loop-w
invariant-loop-w l = Pushing l.from (l.w - l.from) l.initial.counts l.counts
