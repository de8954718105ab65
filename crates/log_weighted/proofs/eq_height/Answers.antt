-- `log_weighted::eq_height` meets its contract.
use mathlib.Core.Path.{◌∙◌, ap}
use mathlib.Core.List.{map}
use native.Mathlib.Omega.{arith}
use Rattle.log_adder.proofs.Taken.{low_taken}
use Rattle.log_encoding.specs.AdderSize.{greatest_height}
use Rattle.log_terms.specs.Terms.{weighted_of}
use Rattle.log_weighted.proofs.EqSum.{eq_parts, eq_reaches}
use Rattle.log_weighted.proofs.eq_height.Goals as goal

pub eq_greatest_height-requires : goal.eq_greatest_height-requires
eq_greatest_height-requires c =
    let g = c.gather-cols in
    let x = c.saturating_sub.ensures in
    let y = c.saturating_sub-2.ensures in
    (omega (arith, x, c.requires), omega (arith, y, c.eq_target-target.ensures), low_taken c.width_of-width.result g.result.counts (λ i. let k = g.ensures.few i in omega arith))

pub returns : goal.returns
returns c =
    let ws = map weighted_of c.args.ts.now.list.now in
    let x = c.saturating_sub in
    let y = c.saturating_sub-2 in
    let t = c.eq_target-target in
    let w = c.width_of-width in
    c.eq_greatest_height.ensures
    ∙ ap greatest_height (eq_reaches ws c.gather-cols.ensures w.result w.ensures.0 w.ensures.1 c.args.a c.args.b x.result y.result
    (eq_parts ws c.args.a c.args.b t.result x.result y.result t.ensures.0 x.ensures y.ensures))
