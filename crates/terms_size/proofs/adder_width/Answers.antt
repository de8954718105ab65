-- `terms_size::adder_width` meets its contract.
use native.Mathlib.Omega.{arith}
use Rattle.arithmetic.proofs.Bits.{bit_length_least}
use Rattle.terms_size.proofs.adder_width.Goals as goal

pub returns : goal.returns
returns c =
    let b = c.bit_length.ensures in
    let m = bit_length_least c.args.constant 25 c.requires.1 in
    (rw (← b) c.max.ensures, omega (arith, c.max.ensures, c.requires.0, b, m))
