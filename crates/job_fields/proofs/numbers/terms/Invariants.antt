-- `job_fields::numbers::terms` meets its contract.
use Prim.Native.Nat.{◌*◌, ◌/◌, ◌≤◌}
use lib.ListN.{drop, length}
use Rattle.job_fields.specs.Numbers.{terms}
use Rattle.job_fields.proofs.NumbersRead.{Putting}
use Rattle.job_fields.proofs.numbers.terms.Given as goal

abbrev pub invariant-loop-i : goal.invariant-loop-i
invariant-loop-i l = (l.i ≤ length l.s / 3) × Putting (terms l.s) (length l.initial.out) (2 * l.i) (terms (drop (3 * l.i) l.s)) l.out
