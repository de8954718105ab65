-- `product_size::offset_shapes` meets its contract.
use native.Mathlib.Omega.{arith}
use Rattle.log_mul.proofs.Numbered.{multiplier_few}
use Rattle.log_product.proofs.OffsetTerms.{offset_reach, product_reach}
use Rattle.product_size.proofs.Offsetting.{offset_is}
use Rattle.product_size.proofs.offset_shapes.Goals as goal

pub term_shape-product-requires : goal.term_shape-product-requires
term_shape-product-requires c =
    let few = multiplier_few c.args.x.bits c.args.y.bits c.requires.shape_ready.0.bits_few c.requires.shape_ready.1.bits_few in
    (omega arith, omega arith, product_reach c.args.bits (omega (arith, c.requires.product_long)))

pub term_shape-by_x-requires : goal.term_shape-by_x-requires
term_shape-by_x-requires c =
    let h = c.requires.shape_ready.1 in
    rw (offset_is c.args.y h) (h.offset_up, h.offset_down, offset_reach c.args.x.bits c.args.y.offset c.requires.shape_ready.0.bits_few h.offset_up h.offset_down)

pub term_shape-by_y-requires : goal.term_shape-by_y-requires
term_shape-by_y-requires c =
    let h = c.requires.shape_ready.0 in
    rw (offset_is c.args.x h) (h.offset_up, h.offset_down, offset_reach c.args.y.bits c.args.x.offset c.requires.shape_ready.1.bits_few h.offset_up h.offset_down)

pub term_shape-by_m-requires : goal.term_shape-by_m-requires
term_shape-by_m-requires c =
    (omega arith, omega arith, product_reach c.args.m.bits (omega (arith, c.requires.shape_ready.2.bits_few)))
