-- `log_turned::signed_terms` meets its contract.
use mathlib.Core.Path.{◌≡◌}
use lib.ListN.{length, take}
use Rattle.log_turned.specs.Turning.{signed_terms}
use Rattle.log_turned.proofs.signed_terms.Given as goal

abbrev pub invariant-loop-i : goal.invariant-loop-i
invariant-loop-i l = (length l.out ≡ 12) × (take l.i l.out ≡ take l.i (signed_terms l.negate l.terms))
