-- `log_mul::encode_product` meets its contract.
use Rattle.log_mul.proofs.RowColumns.{product_added}
use Rattle.log_mul.proofs.encode_product.Goals as goal

pub returns : goal.returns
returns c = product_added c.args.x.now c.args.y.now c.args.m.now c.log_encoding_multiplier-bits.ensures _ c.rest.ensures.0 c.none_of.ensures
