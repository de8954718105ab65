-- `Clause::pop` meets its contract.
use native.Mathlib.Omega.{arith}
use Rattle.clause_set.proofs.Adding.{but_last}
use Rattle.clause_set.proofs.Clause.pop.Goals as goal

pub returns-clause-lits : goal.returns-clause-lits
returns-clause-lits c = λ xs x e. let s = c.args.self.now in but_last s.lits _ s.len xs x (omega arith) (omega arith) e
