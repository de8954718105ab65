-- `log_weighted::weighted_eq` meets its contract.
use mathlib.Core.Path.{◌∙◌, ap}
use mathlib.Core.List.{map}
use Prim.Native.Nat.{◌≤◌}
use native.Mathlib.Omega.{arith}
use Rattle.log_encoding.specs.AdderSize.{too_tall}
use Rattle.log_terms.specs.Terms.{weighted_of}
use Rattle.log_weighted.proofs.EqSum.{EqParts, eq_added, eq_parts, eq_reaches}
use Rattle.log_weighted.proofs.weighted_eq.Goals as goal
use Rattle.log_weighted.proofs.weighted_eq.Goals.{After-saturating_sub-y}

-- the columns' x and y
parts : (c : After-saturating_sub-y) → EqParts (map weighted_of c.args.ts.now.list.now) c.args.a c.args.b c.saturating_sub-x.result c.saturating_sub-y.result
parts c =
    let t = c.eq_target-target in
    eq_parts (map weighted_of c.args.ts.now.list.now) c.args.a c.args.b t.result c.saturating_sub-x.result c.saturating_sub-y.result t.ensures.0 c.saturating_sub-x.ensures c.saturating_sub-y.ensures

pub log_encoding_adder2-requires-clause-y_value : goal.log_encoding_adder2-requires-clause-y_value
log_encoding_adder2-requires-clause-y_value c =
    let p = parts (goal.at.log_encoding_adder2-requires-clause-y_value c).After-saturating_sub-y in
    let w = c.width_of-width in
    ap too_tall (eq_reaches (map weighted_of c.args.ts.now.list.now) c.gather.ensures w.result w.ensures.0 w.ensures.1 c.args.a c.args.b _ _ p) ∙ c.requires.b_value

pub returns-else-width-eq0 : goal.returns-else-width-eq0
returns-else-width-eq0 c =
    let ws = map weighted_of c.args.ts.now.list.now in
    let p = parts (goal.at.returns-else-width-eq0 c).After-saturating_sub-y in
    let w = c.width_of-width in
    let some = c.if-width-eq0.false in
    let one : 1 ≤ w.result = omega arith in
    eq_added ws c.gather.ensures w.result w.ensures.0 w.ensures.1 c.args.a c.args.b _ _ p one c.requires.b_value c.args.set.now.vars c.log_encoding_adder2.ensures
