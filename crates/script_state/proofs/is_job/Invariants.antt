-- `script_state::is_job` meets its contract.
use Rattle.script_state.specs.Job.{fits}
use Rattle.encoder_env.specs.WellFormed.{all_below}
use mathlib.Core.Bool.{true}
use mathlib.Core.Path.{◌≡◌}
use Rattle.script_state.proofs.is_job.Given as goal

abbrev pub invariant-loop-i : goal.invariant-loop-i
invariant-loop-i l = all_below l.i (fits l.nums) ≡ true
