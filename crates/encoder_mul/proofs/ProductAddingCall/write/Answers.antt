-- `encoder_mul::Product::write` meets its contract.
use mathlib.Core.Path.{ap}
use Rattle.encoder_answer.proofs.Answering.{rule_wrote}
use Rattle.encoder_answer.proofs.Ready.{set_ready}
use Rattle.encoder_mul.proofs.Ready.{known_ready}
use Rattle.log_encoding.specs.EncodeMulLog.{encode_mul_log}
use Rattle.encoder_env.specs.WellFormed.{int_map}
use Rattle.encoder_mul.proofs.Added.{ProductKnown, product_known}
use Rattle.encoder_mul.proofs.ProductAddingCall.write.Goals as goal
use Rattle.encoder_mul.proofs.ProductAddingCall.write.Goals.{Start}

-- the product passed its checks
known : (c : Start) → let p = c.args.self.now in ProductKnown c.args.env c.requires.passed.0 c.requires.passed.1 p.x p.y p.m
known c = let p = c.args.self.now in let q = c.requires.passed in product_known c.args.env q.0 q.1 p.x p.y p.m q.2

pub encode_mul_log-requires : goal.encode_mul_log-requires
encode_mul_log-requires c =
    let k = known (goal.at.encode_mul_log-requires c).Start in
    record { products_ready = known_ready _ _ _ _ _ _ k; vars_bound = set_ready _ _ _ k.holds c.requires.job; heights = k.heights }

pub returns : goal.returns
returns c =
    let p = c.args.self.now in
    rule_wrote c.encode_mul_log.ensures (ap (encode_mul_log (int_map c.args.env) p.x p.y p.m) c.requires.job.vars)
