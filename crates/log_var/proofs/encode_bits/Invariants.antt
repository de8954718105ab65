-- `log_var::encode_bits` meets its contract.
use Rattle.log_var.proofs.Bits.{BitsLeft}
use Rattle.log_var.proofs.encode_bits.Given as goal

abbrev pub invariant-loop-i : goal.invariant-loop-i
invariant-loop-i l = BitsLeft l.n l.f l.t l.cond.0 l.initial.set l.initial.out l.set l.out l.i l.x l.y
