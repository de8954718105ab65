-- `encoder_env::lits_fit` meets its contract.
use mathlib.Core.Path.{◌≡◌}
use mathlib.Core.Bool.{true}
use Rattle.encoder_env.specs.WellFormed.{all_below, lit_fits}
use Rattle.encoder_env.proofs.lits_fit.Given as goal

abbrev pub invariant-loop-i : goal.invariant-loop-i
invariant-loop-i l = all_below l.i (lit_fits l.variables l.len l.l-items) ≡ true
