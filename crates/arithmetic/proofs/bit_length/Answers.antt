-- `arithmetic::bit_length` meets its contract.
use Rattle.std.proofs.Common.{arith}
use Rattle.std.proofs.lemmas.Nat.{leading_length}
use Rattle.arithmetic.proofs.Bits.{bit_length_by}
use Rattle.arithmetic.proofs.bit_length.Goals as goal

pub returns : goal.returns
returns c =
    let k = c.args.k in
    let r = leading_length 32 k (omega arith) in
    omega (arith, r.1, bit_length_by k r.0 (omega arith) r.2 r.3)
