-- `log_weighted::sign_adder` meets its contract.
use mathlib.Core.Path.{◌∙◌, ap}
use mathlib.Core.List.{map}
use Rattle.log_encoding.specs.AdderSize.{too_tall}
use Rattle.log_terms.specs.Terms.{weighted_of}
use Rattle.log_weighted.proofs.SignSum.{sign_reaches, sign_ready, sum_added}
use Rattle.log_weighted.proofs.sign_adder.Goals as goal

pub log_encoding_adder-requires-clause-adder_fits : goal.log_encoding_adder-requires-clause-adder_fits
log_encoding_adder-requires-clause-adder_fits c =
    let w = c.adder_width-width in
    let g = c.gather_sign-cols.ensures in
    sign_ready c.args.sign (map weighted_of c.args.ts.now.list.now) g c.args.constant w.result c.requires.constant_bound.0 w.ensures.0 w.ensures.1

pub log_encoding_adder-requires-clause-constant_value : goal.log_encoding_adder-requires-clause-constant_value
log_encoding_adder-requires-clause-constant_value c =
    let w = c.adder_width-width in
    let g = c.gather_sign-cols.ensures in
    ap too_tall (sign_reaches c.args.sign (map weighted_of c.args.ts.now.list.now) g c.args.constant w.result c.requires.constant_bound.0 w.ensures.0 w.ensures.1) ∙ c.requires.constant_value

pub returns : goal.returns
returns c =
    let w = c.adder_width-width in
    let g = c.gather_sign-cols.ensures in
    sum_added c.args.sign (map weighted_of c.args.ts.now.list.now) g c.args.constant w.result c.requires.constant_bound.0 w.ensures.0 w.ensures.1 c.requires.constant_value
    c.log_encoding_adder.result c.log_encoding_adder.ensures
