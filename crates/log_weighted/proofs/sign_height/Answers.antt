-- `log_weighted::sign_height` meets its contract.
use mathlib.Core.Path.{◌∙◌, ap}
use mathlib.Core.List.{List, map}
use native.Mathlib.Omega.{arith}
use Rattle.log_adder.proofs.Taken.{low_taken, shapes_taken}
use Rattle.log_encoding.specs.AdderSize.{ColumnShape, greatest_height, reached}
use Rattle.log_terms.specs.Terms.{weighted_of}
use Rattle.log_weighted.proofs.SignSum.{sign_reaches}
use Rattle.log_weighted.proofs.sign_height.Goals as goal

pub greatest_height-requires : goal.greatest_height-requires
greatest_height-requires c =
    let g = c.gather_sign-cols in
    low_taken c.adder_width-width.result g.result.counts (λ i. let k = g.ensures.few i in omega arith)

pub returns : goal.returns
returns c =
    let w = c.adder_width-width in
    let g = c.gather_sign-cols in
    c.greatest_height.ensures
    ∙ ap (λ (cs : List ColumnShape). greatest_height (reached cs 0)) (shapes_taken g.result.counts w.result c.args.constant (omega (arith, w.ensures.1, g.ensures.arrays.places)))
    ∙ ap greatest_height (sign_reaches c.args.sign (map weighted_of c.args.ts.now.list.now) g.ensures c.args.constant w.result c.requires w.ensures.0 w.ensures.1)
