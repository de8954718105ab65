-- `encoder_mul::Product::check` meets its contract.
use Rattle.encoder_mul.proofs.Ready.{mul_settles}
use Rattle.encoder_mul.proofs.ProductAddingCall.check.Goals as goal

pub returns-clause-settles : goal.returns-clause-settles
returns-clause-settles c = let a = c.args in let p = a.self.now in mul_settles a.env a.lits a.ends p.x p.y p.m
