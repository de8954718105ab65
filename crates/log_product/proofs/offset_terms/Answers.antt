-- `log_product::offset_terms` meets its contract.
use mathlib.Core.Path.{◌∙◌}
use mathlib.Core.List.{[], ◌∷◌}
use native.Mathlib.Omega.{arith}
use lib.IntN.{negsuc}
use Rattle.log_encoding.specs.EncodeLinearLog.{weighted}
use Rattle.log_product.proofs.OffsetTerms.{four_fit, offset_is, offset_reach, product_reach}
use Rattle.log_product.proofs.offset_terms.Goals as goal

pub weighted_bits-product-requires-clause-coef_bound : goal.weighted_bits-product-requires-clause-coef_bound
weighted_bits-product-requires-clause-coef_bound c = let h = c.requires.len_bound in (omega arith, omega arith, product_reach c.args.xy.len h.0)

pub weighted_bits-by_x-requires-clause-coef_bound : goal.weighted_bits-by_x-requires-clause-coef_bound
weighted_bits-by_x-requires-clause-coef_bound c =
    let b = c.setting_bits.ensures in
    let h = c.requires.setting_ready.1 in rw (offset_is c.args.y.now h) (h.offset_up, h.offset_down, offset_reach c.setting_bits.result.len c.args.y.now.offset b.len h.offset_up h.offset_down)

pub weighted_bits-by_y-requires-clause-coef_bound : goal.weighted_bits-by_y-requires-clause-coef_bound
weighted_bits-by_y-requires-clause-coef_bound c =
    let b = c.setting_bits-2.ensures in
    let h = c.requires.setting_ready.0 in rw (offset_is c.args.x.now h) (h.offset_up, h.offset_down, offset_reach c.setting_bits-2.result.len c.args.x.now.offset b.len h.offset_up h.offset_down)

pub weighted_bits-by_m-requires-clause-coef_bound : goal.weighted_bits-by_m-requires-clause-coef_bound
weighted_bits-by_m-requires-clause-coef_bound c =
    let b = c.setting_bits-3.ensures in
    let l = b.len in (omega arith, omega arith, product_reach c.setting_bits-3.result.len (omega arith))

pub returns : goal.returns
returns c =
    let p = c.weighted_bits-product.ensures in
    let q = c.weighted_bits-by_x.ensures in
    let r = c.weighted_bits-by_y.ensures in
    let t = c.weighted_bits-by_m.ensures in
    let x = offset_is c.args.x.now c.requires.setting_ready.0 in
    let y = offset_is c.args.y.now c.requires.setting_ready.1 in
    let bx = c.setting_bits.ensures.bits in
    let by = c.setting_bits-2.ensures.bits in
    let bm = c.setting_bits-3.ensures.bits in
    let q₁ = q.0 ∙ (λ i. weighted (y i) (bx i)) in
    let r₁ = r.0 ∙ (λ i. weighted (x i) (by i)) in
    let t₁ = t.0 ∙ (λ i. weighted (negsuc 0) (bm i)) in
    ((λ i. p.0 i ∷ q₁ i ∷ r₁ i ∷ t₁ i ∷ []), four_fit p.1 q.1 r.1 t.1)
