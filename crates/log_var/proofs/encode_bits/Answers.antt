-- `log_var::encode_bits` meets its contract.
use Rattle.std.proofs.Common.{refl}
use native.Mathlib.Omega.{arith}
use Rattle.log_var.proofs.Bits.{bits_end, bits_fit, bits_start, bits_turn}
use Rattle.log_var.proofs.encode_bits.Goals as goal

pub loop-i-init : goal.loop-i-init
loop-i-init c = let a = c.args in bits_start a.n a.f a.t a.cond.0 c.requires.fits

pub encode_bit-requires : goal.encode_bit-requires
encode_bit-requires c =
    let left = c.loop-i.invariant in
    record { vars = omega (arith, left.room); fits = bits_fit left c.loop-i-test.true }

pub loop-i-preserved : goal.loop-i-preserved
loop-i-preserved c = bits_turn c.loop-i.invariant c.loop-i-test.true c.encode_bit.ensures

pub returns : goal.returns
returns c = bits_end c.loop-i.invariant c.loop-i-test.false c.requires.n_bound.0 refl
