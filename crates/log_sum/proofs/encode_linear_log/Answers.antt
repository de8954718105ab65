-- `log_sum::encode_linear_log` meets its contract.
use mathlib.Core.Path.{◌∙◌, ap}
use Prim.Native.Nat.{◌/◌}
use native.Mathlib.Omega.{arith}
use lib.ListN.{length, take}
use mir.Syntax.{w32}
use mir.ValLaws.{to_z-of_z}
use Rattle.sat.specs.Encoded.{EncodedRule}
use Rattle.clause_set.proofs.Writing.{wrote_as}
use Rattle.norm_csp.specs.Operations.{normalized}
use Rattle.log_encoding.specs.AdderSize.{too_tall}
use Rattle.log_sum.proofs.Settings.{encoded_is, offset_read, reached_is}
use Rattle.log_sum.proofs.encode_linear_log.Goals as goal

pub offset_constant-k-requires : goal.offset_constant-k-requires
offset_constant-k-requires c =
    let p = c.requires.constant_bound in record { terms_ready = c.requires.terms_ready; constant_bound = rw (to_z-of_z w32 c.args.constant c.ranges.constant) (p.0, p.1) }

pub encode_weighted-requires : goal.encode_weighted-requires
encode_weighted-requires c =
    let p = c.requires.constant_bound in
    let w = c.offset_constant-k in
    let t = c.weighted_terms-ts in
    let zs = c.args.terms.now in
    let r = to_z-of_z w32 w.result (record { sfits = w.type_inv }) in
    let sum = offset_read c.args.encodings.now c.args.terms.now c.ranges.constant (record { sfits = w.type_inv }) w.ensures.0 in
    let fits = ap too_tall (reached_is c.args.encodings.now (normalized c.args.op) c.args.constant zs (take (length zs / 2) t.result) _ t.ensures.0 sum) ∙ c.requires.terms_value in
    record { constant_bound = (rw r w.ensures.1, rw r w.ensures.2, omega (arith, p.2), p.3); constant_value = fits }

pub returns : goal.returns
returns c =
    let w = c.offset_constant-k in
    let t = c.weighted_terms-ts in
    let zs = c.args.terms.now in
    let sum = offset_read c.args.encodings.now c.args.terms.now c.ranges.constant (record { sfits = w.type_inv }) w.ensures.0 in
    let e = encoded_is c.args.encodings.now (normalized c.args.op) c.args.constant zs (take (length zs / 2) t.result) _ t.ensures.0 sum c.args.set.now.vars in
    wrote_as c.encode_weighted.ensures (ap (λ (r : EncodedRule). r.vars) e) (ap (λ (r : EncodedRule). r.clauses) e)
