-- `log_product::offsets_height` meets its contract.
use Prim.Native.Nat.{max}
use mathlib.Core.Path.{◌≡◌, ap, sym, ◌∙◌}
use mathlib.Core.List.{map}
use native.Mathlib.Omega.{arith}
use lib.IntN.{◌*ℤ◌, ◌-ℤ◌}
use lib.ListN.{length}
use mir.Syntax.{w32}
use mir.ValLaws.{to_z-of_z}
use Rattle.arithmetic.specs.Integers.{down, up}
use Rattle.norm_csp.specs.NormOp.{eq}
use Rattle.log_var.specs.Record.{encoding_of}
use Rattle.log_encoding.specs.VarSize.{setting_shape}
use Rattle.log_encoding.specs.AdderSize.{greatest_height}
use Rattle.log_linear.specs.Added.{bits_of}
use Rattle.log_encoding.specs.LinearSize.{linear_reached}
use Rattle.log_linear.proofs.Literals.{lits_long}
use Rattle.log_terms.specs.Terms.{weighted_of}
use Rattle.log_encoding.specs.EncodeMulLog.{mul_constant}
use Rattle.log_encoding.specs.MulSize.{multiplier_reached, offset_shapes}
use Rattle.log_product.proofs.OffsetSum.{shapes_reached}
use Rattle.log_weighted.proofs.Compared.{height_append}
use Rattle.log_product.proofs.OffsetTerms.{offset_is}
use Rattle.log_product.proofs.offsets_height.Goals as goal

pub returns : goal.returns
returns c =
    let p = c.requires in
    let w = c.mul_constant-k in
    let ex = encoding_of c.args.x.now in
    let ey = encoding_of c.args.y.now in
    let em = encoding_of c.args.m.now in
    let x = offset_is c.args.x.now p.0 in
    let y = offset_is c.args.y.now p.1 in
    let m = offset_is c.args.m.now p.2 in
    let xs = c.setting_bits-xs.ensures.count in
    let ys = c.setting_bits-ys.ensures.count in
    let k = to_z-of_z w32 w.result (record { sfits = w.type_inv }) ∙ w.ensures.0 ∙ (λ i. (x i *ℤ y i) -ℤ m i) in
    let b = c.product_bits-xy in
    let first = multiplier_reached (length ex.lits) (length ey.lits) 0 in
    let z = mul_constant ex ey em in
    let second = linear_reached eq (offset_shapes (setting_shape ex) (setting_shape ey) (setting_shape em)) (up z) (down z) in
    let l : length (bits_of b.result.bits) ≡ length first =
    lits_long b.result.bits.lits b.result.bits.len (omega (arith, b.ensures.few, b.ensures.long)) ∙ b.ensures.len
    ∙ (λ i. length (multiplier_reached (sym xs i) (sym ys i) 0)) in
    let t = c.offset_terms-ts in
    let own : c.multiplier_height-own.result ≡ greatest_height first = c.multiplier_height-own.ensures ∙ (λ i. greatest_height (multiplier_reached (sym xs i) (sym ys i) 0)) in
    let e = c.weighted_height.ensures ∙ ap greatest_height (shapes_reached ex ey em (map weighted_of t.result) (bits_of b.result.bits) _ t.ensures.0 l k) in
    c.max.ensures ∙ (λ i. max (own i) (e i)) ∙ sym (height_append first second)
