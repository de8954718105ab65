-- `encoder_linear::Sum::check` meets its contract.
use Rattle.encoder_linear.proofs.Ready.{sum_settles}
use Rattle.encoder_linear.proofs.SumAddingCall.check.Goals as goal

pub returns-clause-settles : goal.returns-clause-settles
returns-clause-settles c = let a = c.args in let s = a.self.now in sum_settles a.env a.lits a.ends s.op s.constant s.terms.now
