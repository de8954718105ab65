-- `log_weighted::adder_width` meets its contract.
use native.Mathlib.Omega.{arith}
use Rattle.log_weighted.proofs.Columns.{constant_wide}
use Rattle.log_weighted.proofs.adder_width.Goals as goal

pub returns : goal.returns
returns c =
    let w = c.width_of_sign.ensures in
    let b = c.bit_length-more.ensures in
    let m = constant_wide c.args.constant c.requires in
    (rw (← w.0, ← b) c.max.ensures, omega (arith, c.max.ensures, w.1, b, m))
