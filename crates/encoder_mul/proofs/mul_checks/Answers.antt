-- `encoder_mul::mul_checks` meets its contract.
use mathlib.Core.Path.{sym}
use Rattle.encoder_mul.proofs.Ready.{factors_ready}
use Rattle.encoder_mul.proofs.mul_checks.Goals as goal

pub mul_height-requires : goal.mul_height-requires
mul_height-requires c =
    let a = c.args in
    factors_ready a.env a.lits a.ends a.x a.y a.m (sym c.in_ok-argument_checks.ensures)
