-- `log_weighted::both_sums` meets its contract.
use mathlib.Core.Bool.{false, true}
use mathlib.Core.List.{map}
use Rattle.log_encoding.specs.Linear.{sign_adder}
use Rattle.log_encoding.specs.LinearSize.{sign_reached}
use Rattle.log_terms.specs.Terms.{shapes_all, weighted_of}
use Rattle.log_weighted.proofs.Compared.{both_fit, sums_added}
use Rattle.log_weighted.proofs.both_sums.Goals as goal

pub sign_adder-positive-requires-clause-constant_value : goal.sign_adder-positive-requires-clause-constant_value
sign_adder-positive-requires-clause-constant_value c =
    let h = shapes_all c.args.ts.now.list.now in (both_fit (sign_reached false h c.args.a) (sign_reached true h c.args.b) c.requires.b_value).0

pub sign_adder-negative-requires-clause-constant_value : goal.sign_adder-negative-requires-clause-constant_value
sign_adder-negative-requires-clause-constant_value c =
    let h = shapes_all c.args.ts.now.list.now in (both_fit (sign_reached false h c.args.a) (sign_reached true h c.args.b) c.requires.b_value).1

pub returns : goal.returns
returns c =
    let p = c.requires.a_bound in
    let ws = map weighted_of c.args.ts.now.list.now in
    sums_added (sign_adder false ws c.args.a c.args.set.now.vars) (sign_adder true ws c.args.b) c.sign_adder-positive.result c.sign_adder-negative.result
    p.2 p.3 c.sign_adder-positive.ensures c.sign_adder-negative.ensures
