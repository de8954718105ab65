-- `log_turned::encode_turned` meets its contract.
use mathlib.Core.Path.{◌≡◌, ◌∙◌}
use mir.Syntax.{w32}
use mir.Val.{of_z, to_z}
use mir.ValLaws.{to_z-of_z}
use Rattle.clause_set.proofs.Writing.{wrote_as}
use Rattle.norm_csp.specs.Operations.{compared}
use Rattle.log_encoding.specs.AdderSize.{too_tall}
use Rattle.log_encoding.specs.EncodeLinearLog.{encode_linear_log}
use Rattle.log_encoding.specs.LinearSize.{linear_log_reached}
use Rattle.log_var.specs.Record.{int_map_of}
use Rattle.log_var.specs.Settings.{shape_map_of}
use Rattle.log_turned.specs.Turning.{Turns}
use Rattle.log_turned.proofs.Handing.{constant_within, handed}
use Rattle.log_turned.proofs.Turning.{coefs_small}
use Rattle.log_turned.proofs.encode_turned.Goals as goal
use Rattle.log_turned.proofs.encode_turned.Goals.{After-turned-t, Start}

constant-is : (s : Start) → to_z w32 (of_z w32 s.args.constant) ≡ s.args.constant
constant-is s = to_z-of_z w32 s.args.constant s.ranges.constant

turns : (c : After-turned-t) → let a = c.args in Turns (compared a.op) a.constant a.terms.now c.turned-t.result
turns c = rw (constant-is c.before) at c.turned-t.ensures

pub turned-t-requires : goal.turned-t-requires
turned-t-requires c =
    let p = c.requires.constant_bound in
    record { coefs_small = coefs_small c.args.encodings.now c.args.terms.now c.requires.terms_ready; constant_bound = rw (constant-is (goal.at.turned-t-requires c).Start) (p.0, p.1) }

pub encode_linear_log-requires : goal.encode_linear_log-requires
encode_linear_log-requires c =
    let t = turns (goal.at.encode_linear_log-requires c).After-turned-t in
    let p = c.requires.constant_bound in
    let k = constant_within t p.0 p.1 in
    let fits = handed t p.0 p.1 (λ o z ts. too_tall (linear_log_reached (shape_map_of c.args.encodings.now) o z ts)) ∙ c.requires.terms_value in
    record { terms_ready = t.ready c.args.encodings.now c.requires.terms_ready; constant_bound = (k.0, k.1, p.2, p.3); terms_value = fits }

pub returns : goal.returns
returns c =
    let t = turns (goal.at.returns c).After-turned-t in
    let p = c.requires.constant_bound in
    let im = int_map_of c.args.encodings.now in
    let v = c.args.set.now.vars in
    wrote_as c.encode_linear_log.ensures (handed t p.0 p.1 (λ o z ts. (encode_linear_log im o z ts v).vars)) (handed t p.0 p.1 (λ o z ts. (encode_linear_log im o z ts v).clauses))
