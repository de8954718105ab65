-- `encoder_linear::Sum::write` meets its contract.
use mathlib.Core.Path.{◌≡◌, ap, ◌∙◌}
use native.Mathlib.Omega.{arith}
use mir.Syntax.{w32}
use mir.Val.{of_z, to_z}
use mir.ValLaws.{to_z-of_z}
use Rattle.norm_csp.specs.Rules.{terms_of}
use Rattle.log_encoding.specs.Turned.{encode_turned, turned_reached}
use Rattle.log_encoding.specs.AdderSize.{too_tall}
use Rattle.log_var.specs.Settings.{shape_map_of}
use Rattle.encoder_env.specs.WellFormed.{int_map}
use Rattle.log_sum.proofs.Offsets.{small_fits}
use Rattle.encoder_answer.proofs.Answering.{rule_wrote}
use Rattle.encoder_answer.proofs.Ready.{set_ready}
use Rattle.encoder_linear.proofs.Added.{SumKnown, sum_known}
use Rattle.encoder_linear.proofs.Ready.{terms_ready}
use Rattle.encoder_linear.proofs.SumAddingCall.write.Goals as goal
use Rattle.encoder_linear.proofs.SumAddingCall.write.Goals.{Start}

-- the sum passed its checks
known : (c : Start) → let s = c.args.self.now in SumKnown c.args.env c.requires.passed.0 c.requires.passed.1 s.op s.constant s.terms.now
known c = let s = c.args.self.now in let p = c.requires.passed in sum_known c.args.env p.0 p.1 s.op s.constant s.terms.now p.2

-- the constant, as `encode_turned` has it
same : (c : Start) → let s = c.args.self.now in to_z w32 (of_z w32 s.constant) ≡ s.constant
same c = let k = (known c).arguments in to_z-of_z w32 c.args.self.now.constant (small_fits c.args.self.now.constant (omega (arith, k.constant_small)) (omega (arith, k.constant_small)))

pub encode_turned-requires : goal.encode_turned-requires
encode_turned-requires c =
    let s = (goal.at.encode_turned-requires c).Start in
    let k = known s in
    let r = set_ready _ _ _ k.arguments.holds c.requires.job in
    rw (same s)
    (record {
      terms_ready = terms_ready _ _ _ _ _ _ k.arguments;
      constant_bound = (omega (arith, k.arguments.constant_small), omega (arith, k.arguments.constant_small), r.0, r.1);
      terms_value = ap (λ o. too_tall (turned_reached (shape_map_of c.args.env.encodings) o c.args.self.now.constant (terms_of c.args.self.now.terms.now))) c.from.ensures ∙ k.heights;
    })

pub returns : goal.returns
returns c =
    let constant = same (goal.at.returns c).Start in
    rule_wrote c.encode_turned.ensures
    (λ i. encode_turned (int_map c.args.env) (c.from.ensures i) (constant i) (terms_of c.args.self.now.terms.now) (c.requires.job.vars i))
