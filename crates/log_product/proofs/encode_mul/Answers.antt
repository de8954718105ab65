-- `log_product::encode_mul` meets its contract.
-- the test of the offsets
use mathlib.Core.Bool.{◌&&◌}
use mathlib.Core.Path.{◌≡◌, ap, sym, ◌∙◌}
use native.Mathlib.Omega.{arith}
use Rattle.log_var.specs.Record.{encoding_of}
use Rattle.log_encoding.specs.VarSize.{setting_shape}
use Rattle.log_encoding.specs.AdderSize.{too_tall}
use Rattle.log_terms.proofs.Gathering.{all_low}
use Rattle.log_gather.proofs.Slices.{slice_below}
use Rattle.log_encoding.specs.EncodeMulLog.{is_zero}
use Rattle.log_encoding.specs.MulSize.{multiplier_reached, no_offsets}
use Rattle.log_product.proofs.OffsetSum.{reached_zero}
use Rattle.log_product.proofs.OffsetTerms.{offset_is}
use Rattle.log_product.proofs.encode_mul.Goals as goal
use Rattle.log_product.proofs.encode_mul.Goals.{After-offsets_zero}

test : (c : After-offsets_zero)
    → c.offsets_zero.result ≡ no_offsets (setting_shape (encoding_of c.args.x.now)) (setting_shape (encoding_of c.args.y.now)) (setting_shape (encoding_of c.args.m.now))
test c =
    let p = c.requires.product_ready in
    let x = offset_is c.args.x.now p.x_ready in
    let y = offset_is c.args.y.now p.y_ready in
    let m = offset_is c.args.m.now p.m_ready in
    c.offsets_zero.ensures ∙ (λ i. is_zero (x i) && (is_zero (y i) && is_zero (m i)))

pub encode_product-requires : goal.encode_product-requires
encode_product-requires c =
    let p = c.requires.product_ready in
    let x = c.setting_bits-xs.ensures in
    let y = c.setting_bits-ys.ensures in
    let m = c.setting_bits-ms.ensures in
    let xl = c.as_slice.ensures.1 in
    let yl = c.as_slice-then-offsets_zero.ensures.1 in
    let ml = c.as_slice-then-offsets_zero-2.ensures.1 in
    record {
      x_len = omega (arith, xl, x.len);
      y_len = omega (arith, yl, y.len);
      m_len = omega (arith, ml, m.len);
      low = slice_below c.setting_bits-ms.result _ c.as_slice-then-offsets_zero-2.ensures.0 (all_low c.setting_bits-ms.result.lits m.small);
      vars = omega (arith, p.vars);
      lits = omega (arith, p.below);
      clauses = omega (arith, p.below);
      heights = (λ i. too_tall (multiplier_reached ((xl ∙ sym x.count) i) ((yl ∙ sym y.count) i) ((ml ∙ sym m.count) i)))
          ∙ sym (ap too_tall (reached_zero (encoding_of c.args.x.now) (encoding_of c.args.y.now) (encoding_of c.args.m.now) _ (test (goal.at.encode_product-requires c).After-offsets_zero) c.if-offsets_zero.true)) ∙ c.requires.heights;
    }
