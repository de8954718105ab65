-- `bench_values::heights::product_height` meets its contract.
use mathlib.Core.Path.{◌∙◌, sym}
use native.Mathlib.Omega.{arith}
use Rattle.encoder_env.proofs.Kept.{kept}
use Rattle.encoder_mul.proofs.Ready.{settings_ready}
use Rattle.bench_values.proofs.heights.product_height.Goals as goal

pub mul_height-requires : goal.mul_height-requires
mul_height-requires c =
    let a = c.args in
    let held = sym c.well_formed-2.ensures ∙ c.if-not-well_formed.false in
    settings_ready a.env a.lits a.ends a.x a.y a.m (kept a.env a.lits a.ends held) (omega arith) (omega arith) (omega arith)
