-- `encoder_var::kinds::all_in_range` meets its contract.
use mathlib.Core.Path.{◌≡◌}
use mathlib.Core.Bool.{true}
use lib.IntN.{pos}
use lib.ListN.{get_or}
use Rattle.encoder_env.specs.WellFormed.{all_below, in_range}
use Rattle.encoder_var.proofs.kinds.all_in_range.Given as goal

abbrev pub invariant-loop-z : goal.invariant-loop-z
invariant-loop-z l = all_below l.z-index (λ i. in_range (get_or l.values i (pos 0))) ≡ true
