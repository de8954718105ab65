-- `solver_print::print_length` meets its contract.
use mathlib.Core.Path.{◌≡◌}
use Prim.Native.Nat.{◌*◌, ◌+◌, ◌≤◌}
use lib.ListN.{drop, length}
use Rattle.solver_answer.specs.Print.{print, values_from}
use Rattle.solver_print.proofs.print_length.Given as goal

abbrev pub invariant-loop-i : goal.invariant-loop-i
invariant-loop-i l =
    (l.size ≤ 12 * l.i + 18) × (l.size + length (values_from (l.i + 1) (drop l.i l.assignment)) ≡ length (print l.assignment) + 3)
