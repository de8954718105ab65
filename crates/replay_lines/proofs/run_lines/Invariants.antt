-- `replay_lines::run_lines` meets its contract.
use mathlib.Core.Path.{◌≡◌}
use Prim.Native.Nat.{◌-◌}
use lib.ListN.{length}
use Rattle.replay_lines.proofs.run_lines.Given as goal

abbrev pub invariant-loop-at : goal.invariant-loop-at
invariant-loop-at g l =
    (length l.nums ≡ length l.initial.nums) × (length l.lits ≡ length l.initial.lits) × (length l.ends ≡ length l.initial.ends)

abbrev pub decreases-loop-at : goal.decreases-loop-at
decreases-loop-at g l = length l.s - l.at
