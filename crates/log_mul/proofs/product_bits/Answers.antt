-- `log_mul::product_bits` meets its contract.
use mathlib.Core.Path.{◌≡◌, ap}
use native.Mathlib.Omega.{arith}
use lib.ListN.{length}
use Rattle.log_encoding.specs.AdderSize.{input_shapes, reached}
use Rattle.log_encoding.specs.MulSize.{multiplier_reached}
use Rattle.log_mul.proofs.Numbered.{multiplier_few, product_numbered}
use Rattle.log_mul.proofs.RowColumns.{slice_reaches}
use Rattle.log_mul.proofs.product_bits.Goals as goal
use Rattle.log_mul.proofs.product_bits.Goals.{After-first_counts}

-- the columns reached are the definition's
reaches : (c : After-first_counts)
    → let n = c.first_counts.result.now in reached (input_shapes (length n) 0 n 0) 0 ≡ multiplier_reached c.args.x c.args.y 0
reaches c = let w = c.multiplier_width-width in slice_reaches c.gather_rows-cols.ensures 0 w.result w.ensures.0 w.ensures.1 _ c.first_counts.ensures

pub sum_bits-s-requires-clause-few : goal.sum_bits-s-requires-clause-few
sum_bits-s-requires-clause-few c =
    let few = multiplier_few c.args.x c.args.y c.requires.0 c.requires.1 in
    omega (arith, few, ap length (reaches (goal.at.sum_bits-s-requires-clause-few c).After-first_counts))

pub returns : goal.returns
returns c = product_numbered c.args.x c.args.y c.args.vars c.requires.0 c.requires.1 c.sum_bits-s.result _ (reaches (goal.at.returns c).After-first_counts) c.sum_bits-s.ensures
