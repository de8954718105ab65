-- `columns_check::gather` meets its contract.
use Prim.Native.Nat.{◌-◌, ◌*◌, ◌≤◌}
use lib.ListN.{length}
use Rattle.columns_check.specs.Input.{Gathered}
use Rattle.columns_check.proofs.gather.Given as goal

abbrev pub invariant-loop-at : goal.invariant-loop-at
invariant-loop-at l = (l.at ≤ 511) × Gathered (384 * l.at) l.cols

abbrev pub decreases-loop-at : goal.decreases-loop-at
decreases-loop-at l = length l.nums - l.at
