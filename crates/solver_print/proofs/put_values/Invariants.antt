-- `solver_print::put_values` meets its contract.
use Rattle.std.proofs.Common.{◌+◌, drop}
use Rattle.text.proofs.Laws.{Writing}
use Rattle.solver_answer.specs.Print.{values_from}
use Rattle.solver_print.proofs.put_values.Given as goal

abbrev pub invariant-loop-i : goal.invariant-loop-i
invariant-loop-i l = Writing l.initial.w (values_from 1 l.assignment) l.w (values_from (l.i + 1) (drop l.i l.assignment))
