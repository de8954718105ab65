-- `log_gather::push_scaled` meets its contract.
use Prim.Native.Nat.{◌+◌, ◌^◌, ◌<◌}
use mathlib.Core.List.{map}
use lib.ListN.{length}
use Rattle.arithmetic.specs.Bits.{shl}
use Rattle.sat.specs.LitArray.{num}
use Rattle.log_gather.proofs.Pushing.{Scaling}
use Rattle.log_gather.proofs.push_scaled.Given as goal

abbrev pub invariant-loop-s : goal.invariant-loop-s
invariant-loop-s l =
    Scaling (length l.lits) l.steps l.from (map num l.lits) l.initial.k l.initial.cols l.cols l.k l.s × (shl (l.from + l.s + length l.lits) l.k < 2 ^ 32)
