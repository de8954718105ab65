-- `log_product::product_without_columns` meets its contract.
use mathlib.Core.List.{[], map}
use native.Mathlib.Omega.{arith}
use Rattle.sat.specs.LitArray.{num}
use Rattle.log_encoding.specs.Multiply.{multiplier}
use Rattle.log_product.proofs.Most.{factors_most, multiplied_most}
use Rattle.log_product.proofs.OffsetSum.{without_columns}
use Rattle.log_product.proofs.product_without_columns.Goals as goal

pub eq_constants-requires : goal.eq_constants-requires
eq_constants-requires c =
    let w = c.log_encoding_multiplier.ensures in
    let f = c.requires.factors_ready in
    let m = multiplied_most (factors_most f c.args.set.now.vars) w in
    (omega (arith, m.0, f.below, w.wrote.same_base), omega (arith, m.1, f.below))

pub returns : goal.returns
returns c =
    let a = c.args in
    without_columns (multiplier (map num a.x.now) (map num a.y.now) [] a.set.now.vars) a.g.x a.g.y a.g.vars c.log_encoding_multiplier.ensures c.requires.vars c.eq_constants.ensures
