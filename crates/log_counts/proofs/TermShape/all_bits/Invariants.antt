-- `log_counts::TermShape::all_bits` meets its contract.
use mathlib.Core.Path.{◌≡◌}
use Prim.Native.Nat.{◌+◌}
use Rattle.arithmetic.specs.Bits.{shl}
use Rattle.log_counts.proofs.TermShape.all_bits.Given as goal

abbrev pub invariant-loop-i : goal.invariant-loop-i
invariant-loop-i l = l.x + l.self.coef ≡ shl l._i l.self.coef
