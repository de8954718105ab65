-- `log_gather::width_after` meets its contract.
use mathlib.Core.Path.{◌≡◌}
use Prim.Native.Nat.{◌-◌, ◌+◌, ◌^◌, ◌<◌, ◌≤◌}
use Rattle.arithmetic.specs.Bits.{shl}
use Rattle.log_gather.specs.Arrays.{widths}
use Rattle.log_gather.proofs.width_after.Given as goal

abbrev pub invariant-loop-o : goal.invariant-loop-o
invariant-loop-o l = (l.w ≤ 32) × (widths l.steps l.initial.k 0 l.n l.initial.w ≡ widths (l.steps - l.o) l.k l.o l.n l.w) × (shl (l.o + l.n) l.k < 2 ^ 32)
