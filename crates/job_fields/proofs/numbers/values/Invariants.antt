-- `job_fields::numbers::values` meets its contract.
use Prim.Native.Nat.{◌*◌, ◌/◌, ◌≤◌}
use lib.ListN.{drop, length}
use Rattle.job_fields.specs.Numbers.{values}
use Rattle.job_fields.proofs.NumbersRead.{Putting}
use Rattle.job_fields.proofs.numbers.values.Given as goal

abbrev pub invariant-loop-i : goal.invariant-loop-i
invariant-loop-i l = (l.i ≤ length l.s / 2) × Putting (values l.s) (length l.initial.out) l.i (values (drop (2 * l.i) l.s)) l.out
