-- `log_product::product_with_columns` meets its contract.
use mathlib.Core.List.{[], map}
use mathlib.Core.Path.{refl}
use native.Mathlib.Omega.{arith}
use Rattle.sat.specs.LitArray.{num}
use Rattle.log_adder2.specs.EqState.{CarriesOrdered}
use Rattle.log_encoding.specs.Multiply.{multiplier}
use Rattle.log_product.proofs.Most.{factors_most, factors_ready, multiplied_most}
use Rattle.log_product.proofs.OffsetSum.{columns_fit, first_pass, from_vars, with_columns}
use Rattle.log_product.proofs.product_with_columns.Goals as goal
use Rattle.log_product.proofs.product_with_columns.Goals.{After-order_carries-carry}

-- the first pass
first : (c : After-order_carries-carry)
    → let s = c.args.set.now in
    CarriesOrdered (record { lits = s.lits; ends = s.ends; base = s.base; vars = c.args.g.vars; used = s.used }) c.gather-cols.result.counts c.args.g c.order_carries-carry.new.set c.order_carries-carry.result
first c = first_pass c.gather-cols.ensures c.args.g c.requires.columns_ready _ c.first_counts.ensures.0 _ refl c.order_carries-carry.ensures

pub order_carries-carry-requires-clause-y_value : goal.order_carries-carry-requires-clause-y_value
order_carries-carry-requires-clause-y_value c =
    rw c.first_counts.ensures.0 (columns_fit c.gather-cols.ensures c.args.g c.requires.columns_ready)

pub log_encoding_multiplier-requires : goal.log_encoding_multiplier-requires
log_encoding_multiplier-requires c =
    let f = c.requires.factors_ready in
    let o = first (goal.at.log_encoding_multiplier-requires c).After-order_carries-carry in
    let w = o.wrote c.gather-cols.result.lits c.gather-cols.ensures.arrays.wide in
    factors_ready f f.vars (omega (arith, f.below, o.lits, w.same_base)) (omega (arith, f.below, o.clauses))

pub push_returned_set-requires-clause-y_value : goal.push_returned_set-requires-clause-y_value
push_returned_set-requires-clause-y_value c = columns_fit c.gather-cols.ensures c.args.g c.requires.columns_ready

pub push_returned_set-requires-clause-carry_value : goal.push_returned_set-requires-clause-carry_value
push_returned_set-requires-clause-carry_value c = (first (goal.at.push_returned_set-requires-clause-carry_value c).After-order_carries-carry).carry

pub push_returned_set-requires-clause-lits_bound : goal.push_returned_set-requires-clause-lits_bound
push_returned_set-requires-clause-lits_bound c =
    let f = c.requires.factors_ready in
    let o = first (goal.at.push_returned_set-requires-clause-lits_bound c).After-order_carries-carry in
    let w = o.wrote c.gather-cols.result.lits c.gather-cols.ensures.arrays.wide in
    let u = c.log_encoding_multiplier.ensures in
    let m = multiplied_most (factors_most f c.args.set.now.vars) u in
    (omega (arith, m.0, o.lits, f.below, w.same_base, u.wrote.same_base), omega (arith, m.1, o.clauses, f.below))

pub returns : goal.returns
returns c =
    let a = c.args in
    let s = a.set.now in
    let t = c.order_carries-carry.new.set in
    let u = c.log_encoding_multiplier in
    let w = (first (goal.at.returns c).After-order_carries-carry).wrote c.gather-cols.result.lits c.gather-cols.ensures.arrays.wide in
    with_columns c.gather-cols.ensures a.g c.requires.columns_ready (multiplier (map num a.x.now) (map num a.y.now) [] s.vars)
    (from_vars s a.g.vars w) (from_vars t s.vars u.ensures.wrote) refl (from_vars u.new.set t.vars c.push_returned_set.ensures)
