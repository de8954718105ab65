-- `log_var::encode_bit` meets its contract.
use Rattle.log_var.proofs.Bits.{fixed_added}
use Rattle.log_var.proofs.encode_bit.Goals as goal

pub returns-then-f-t : goal.returns-then-f-t
returns-then-f-t c = fixed_added c.args.f c.args.t c.args.cond.0 c.if-f-t.true c.as_lit.ensures c.push.ensures.added c.new_lit.ensures.wrote c.new_lit.ensures.new_lit
