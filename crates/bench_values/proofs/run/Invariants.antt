-- `bench_values::run` meets its contract.
use lib.ListN.{length}
use mathlib.Core.Path.{◌≡◌}
use Prim.Native.Nat.{◌-◌}
use Rattle.bench_values.proofs.run.Given as goal

abbrev pub invariant-loop-at : goal.invariant-loop-at
invariant-loop-at g l =
    (length l.lits ≡ length l.initial.lits) × (length l.ends ≡ length l.initial.ends) × (length l.nums ≡ length l.initial.nums)

abbrev pub decreases-loop-at : goal.decreases-loop-at
decreases-loop-at g l = length l.s - l.at
