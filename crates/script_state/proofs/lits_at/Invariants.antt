-- `script_state::lits_at` meets its contract.
use Rattle.script_state.proofs.Tables.{Filling}
use Rattle.script_state.specs.Job.{lit_from}
use Rattle.script_state.proofs.lits_at.Given as goal

abbrev pub invariant-loop-i : goal.invariant-loop-i
invariant-loop-i l = Filling 12 (lit_from l.nums l.at) l.lits l.i
