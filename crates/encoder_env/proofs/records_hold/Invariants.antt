-- `encoder_env::records_hold` meets its contract.
use mathlib.Core.Path.{◌≡◌}
use mathlib.Core.Bool.{true}
use Rattle.encoder_env.specs.WellFormed.{all_below, record_holds}
use Rattle.encoder_env.proofs.records_hold.Given as goal

abbrev pub invariant-loop-i : goal.invariant-loop-i
invariant-loop-i l = all_below l.i (record_holds l.fn.env) ≡ true
