-- `log_product::product_with_offsets` meets its contract.
-- the numbers to multiply
use mathlib.Core.List.{List, [], map}
use lib.ListN.{length}
use Rattle.sat.specs.declared.Lit.{Lit}
use Rattle.sat.specs.LitArray.{num}
use Rattle.log_linear.specs.Added.{bits_of}
use mathlib.Core.Path.{◌≡◌, ap, sym, ◌∙◌}
use native.Mathlib.Omega.{arith}
use lib.IntN.{◌*ℤ◌, ◌-ℤ◌}
use mir.Syntax.{w32}
use mir.Val.{of_z, to_z}
use mir.ValLaws.{to_z-of_z}
use Rattle.sat.specs.Encoded.{EncodedBits}
use Rattle.log_var.specs.Record.{encoding_of, lits_of}
use Rattle.log_encoding.specs.Adder2.{eq_adder}
use Rattle.log_encoding.specs.AdderSize.{too_tall}
use Rattle.log_encoding.specs.Linear.{gather}
use Rattle.log_terms.specs.Terms.{weighted_of}
use Rattle.log_encoding.specs.EncodeMulLog.{mul_constant, offset_terms}
use Rattle.log_encoding.specs.Multiply.{multiplier}
use Rattle.log_encoding.specs.MulSize.{multiplier_reached}
use Rattle.log_product.specs.Ready.{FactorsReady, multiply_then}
use Rattle.log_product.proofs.OffsetSum.{offsets_are, offsets_columns, offsets_multiplier, offsets_none, rule_as}
use Rattle.log_product.proofs.OffsetTerms.{offset_is}
use Rattle.log_product.proofs.product_with_offsets.Goals as goal
use Rattle.log_product.proofs.product_with_offsets.Goals.{After-eq_input-g, After-setting_bits-ys}

factors : (c : After-setting_bits-ys) (xs ys : List Lit) → length xs ≡ c.setting_bits-xs.result.len → length ys ≡ c.setting_bits-ys.result.len → FactorsReady xs ys c.args.set.now
factors c xs ys e f =
    let p = c.requires.product_ready in
    let a = c.setting_bits-xs.ensures in
    let b = c.setting_bits-ys.ensures in
    record {
      x_len = omega (arith, e, a.len);
      y_len = omega (arith, f, b.len);
      vars = omega (arith, p.vars);
      below = p.below;
      heights = (λ i. too_tall (multiplier_reached ((e ∙ sym a.count) i) ((f ∙ sym b.count) i) 0))
          ∙ offsets_multiplier (encoding_of c.args.x.now) (encoding_of c.args.y.now) (encoding_of c.args.m.now) c.requires.heights;
    }

-- the multiplier over the slices
multiplied : (c : After-setting_bits-ys) (xs ys : List Lit) → map num xs ≡ bits_of c.setting_bits-xs.result → map num ys ≡ bits_of c.setting_bits-ys.result
    → multiplier (map num xs) (map num ys) [] c.args.set.now.vars ≡ multiplier (lits_of c.args.x.now) (lits_of c.args.y.now) [] c.args.set.now.vars
multiplied c xs ys e f =
    λ i. multiplier ((e ∙ c.setting_bits-xs.ensures.bits) i) ((f ∙ c.setting_bits-ys.ensures.bits) i) [] c.args.set.now.vars

-- Eq's terms, constant and first variable
terms-are : (c : After-eq_input-g)
    → map weighted_of c.offset_terms-ts.result
    ≡ offset_terms (encoding_of c.args.x.now) (encoding_of c.args.y.now) (encoding_of c.args.m.now) (multiplier (lits_of c.args.x.now) (lits_of c.args.y.now) [] c.args.set.now.vars).bits
terms-are c =
    c.offset_terms-ts.ensures.0
    ∙ ap (offset_terms (encoding_of c.args.x.now) (encoding_of c.args.y.now) (encoding_of c.args.m.now))
    (c.product_bits-xy.ensures.bits (lits_of c.args.x.now) (lits_of c.args.y.now) c.setting_bits-xs.ensures.count c.setting_bits-ys.ensures.count)

constant-is : (c : After-eq_input-g)
    → to_z w32 (of_z w32 c.mul_constant-k.result) ≡ mul_constant (encoding_of c.args.x.now) (encoding_of c.args.y.now) (encoding_of c.args.m.now)
constant-is c =
    let p = c.requires.product_ready in
    let w = c.mul_constant-k in
    let x = offset_is c.args.x.now p.x_ready in
    let y = offset_is c.args.y.now p.y_ready in
    let m = offset_is c.args.m.now p.m_ready in
    to_z-of_z w32 w.result (record { sfits = w.type_inv }) ∙ w.ensures.0 ∙ (λ i. (x i *ℤ y i) -ℤ m i)

vars-are : (c : After-eq_input-g) → c.product_bits-xy.result.vars ≡ (multiplier (lits_of c.args.x.now) (lits_of c.args.y.now) [] c.args.set.now.vars).vars
vars-are c =
    c.product_bits-xy.ensures.vars (lits_of c.args.x.now) (lits_of c.args.y.now) c.setting_bits-xs.ensures.count c.setting_bits-ys.ensures.count

pub product_without_columns-requires-clause-factors_ready : goal.product_without_columns-requires-clause-factors_ready
product_without_columns-requires-clause-factors_ready c =
    factors (goal.at.product_without_columns-requires-clause-factors_ready c).After-setting_bits-ys _ _ c.as_slice.ensures.1 c.as_slice-then-g-eq0.ensures.1

pub product_without_columns-requires-clause-vars : goal.product_without_columns-requires-clause-vars
product_without_columns-requires-clause-vars c =
    let z = goal.at.product_without_columns-requires-clause-vars c in
    c.eq_input-g.ensures.vars ∙ vars-are z.After-eq_input-g ∙ sym (ap (λ (o : EncodedBits). o.vars) (multiplied z.After-setting_bits-ys _ _ c.as_slice.ensures.0 c.as_slice-then-g-eq0.ensures.0))

pub product_with_columns-requires-clause-factors_ready : goal.product_with_columns-requires-clause-factors_ready
product_with_columns-requires-clause-factors_ready c =
    factors (goal.at.product_with_columns-requires-clause-factors_ready c).After-setting_bits-ys _ _ c.as_slice-else-g-eq0.ensures.1 c.as_slice-else-g-eq0-2.ensures.1

pub product_with_columns-requires-clause-columns_ready : goal.product_with_columns-requires-clause-columns_ready
product_with_columns-requires-clause-columns_ready c =
    let z = (goal.at.product_with_columns-requires-clause-columns_ready c).After-eq_input-g in
    let a = c.args in
    offsets_columns (encoding_of a.x.now) (encoding_of a.y.now) (encoding_of a.m.now) a.set.now.vars _ c.eq_input-g.result (terms-are z) _ (constant-is z) _ (vars-are z) c.eq_input-g.ensures
    c.requires.heights (omega (arith, c.if-g-eq0.false)) (omega (arith, c.product_bits-xy.ensures.few_vars, c.requires.product_ready.vars))

pub returns-then-g-eq0 : goal.returns-then-g-eq0
returns-then-g-eq0 c =
    let z = goal.at.returns-then-g-eq0 c in
    let a = c.args in
    let g = c.eq_input-g.result in
    let mul = multiplied z.After-setting_bits-ys _ _ c.as_slice.ensures.0 c.as_slice-then-g-eq0.ensures.0 in
    rule_as c.product_without_columns.ensures
    (ap (λ (o : EncodedBits). multiply_then o (eq_adder [] g.x g.y g.vars)) mul
    ∙ offsets_none (encoding_of a.x.now) (encoding_of a.y.now) (encoding_of a.m.now) a.set.now.vars _ g (terms-are z.After-eq_input-g) _ (constant-is z.After-eq_input-g) _ (vars-are z.After-eq_input-g) c.eq_input-g.ensures c.if-g-eq0.true)

pub returns-else-g-eq0 : goal.returns-else-g-eq0
returns-else-g-eq0 c =
    let z = goal.at.returns-else-g-eq0 c in
    let a = c.args in
    let g = c.eq_input-g.result in
    let mul = multiplied z.After-setting_bits-ys _ _ c.as_slice-else-g-eq0.ensures.0 c.as_slice-else-g-eq0-2.ensures.0 in
    rule_as c.product_with_columns.ensures
    (ap (λ (o : EncodedBits). multiply_then o (eq_adder (gather (map weighted_of c.offset_terms-ts.result) []) g.x g.y g.vars)) mul
    ∙ offsets_are (encoding_of a.x.now) (encoding_of a.y.now) (encoding_of a.m.now) a.set.now.vars _ g (terms-are z.After-eq_input-g) _ (constant-is z.After-eq_input-g) _ (vars-are z.After-eq_input-g) c.eq_input-g.ensures)
