-- `log_terms::doubled` meets its contract.
use mathlib.Core.Path.{◌≡◌}
use Rattle.arithmetic.specs.Bits.{shl}
use Rattle.log_terms.proofs.doubled.Given as goal

abbrev pub invariant-loop-i : goal.invariant-loop-i
invariant-loop-i l = l.x ≡ shl l._i l.k
