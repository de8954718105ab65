-- `log_sum::linear_height` meets its contract.
use mathlib.Core.Path.{◌∙◌, ap}
use Prim.Native.Nat.{◌/◌}
use lib.ListN.{length, take}
use Rattle.norm_csp.specs.Operations.{normalized}
use Rattle.log_encoding.specs.AdderSize.{greatest_height}
use Rattle.log_sum.proofs.Settings.{offset_read, reached_is}
use Rattle.log_sum.proofs.linear_height.Goals as goal

pub returns : goal.returns
returns c =
    let w = c.offset_constant-k in
    let t = c.weighted_terms-ts in
    let zs = c.args.terms.now in
    let sum = offset_read c.args.encodings.now c.args.terms.now c.ranges.constant (record { sfits = w.type_inv }) w.ensures.0 in
    c.weighted_height.ensures
    ∙ ap greatest_height (reached_is c.args.encodings.now (normalized c.args.op) c.args.constant zs (take (length zs / 2) t.result) _ t.ensures.0 sum)
