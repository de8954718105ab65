-- `log_counts::ColumnCounts::push_scaled` meets its contract.
use Prim.Native.Nat.{◌+◌, ◌-◌, ◌*◌, ◌<◌}
use Rattle.arithmetic.specs.Bits.{shl}
use Rattle.log_encoding.specs.AdderSize.{push_scaled_counts}
use Rattle.log_counts.proofs.Growing.{Growing}
use Rattle.log_counts.proofs.ColumnCounts.push_scaled.Given as goal

abbrev pub invariant-loop-s : goal.invariant-loop-s
invariant-loop-s l =
    (shl (l.s + l.n) l.k < 33554432) × Growing (25 * l.s) (push_scaled_counts 12 l.initial.k 0 l.n) (push_scaled_counts (12 - l.s) l.k l.s l.n) l.initial.out l.out
