-- `solver_lines::positive` meets its contract.
use Rattle.solver_lines.proofs.Numbers.{Left}
use Rattle.solver_lines.proofs.positive.Given as goal

abbrev pub invariant-loop-b : goal.invariant-loop-b
invariant-loop-b l = Left l.digits l.b-index l.size
