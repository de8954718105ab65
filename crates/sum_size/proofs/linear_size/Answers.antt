-- `sum_size::linear_size` meets its contract.
use native.Mathlib.Omega.{arith}
use Rattle.arithmetic.specs.Integers.{down, up}
use Rattle.norm_csp.specs.Operations.{normalized}
use Rattle.log_encoding.specs.LinearSize.{linear_reached, linear_size}
use Rattle.log_sum.proofs.Settings.{offset_read}
use Rattle.terms_size.proofs.Measuring.{measured_as}
use Rattle.sum_size.proofs.linear_size.Goals as goal

pub returns : goal.returns
returns c =
    let t = c.term_shapes-ts.ensures.0 in
    let w = c.offset_constant-k in
    let k = offset_read c.args.encodings.now c.args.terms.now c.ranges.constant (record { sfits = w.type_inv }) w.ensures.0 in
    measured_as 2 c.terms_size.result (omega arith) (λ i. linear_reached (normalized c.args.op) (t i) (up (k i)) (down (k i))) (λ i. linear_size (normalized c.args.op) (t i) (k i))
    c.terms_size.ensures
