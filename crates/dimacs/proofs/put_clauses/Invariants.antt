-- `dimacs::put_clauses` meets its contract.
use Rattle.std.proofs.Common.{◌-◌}
use Rattle.text.proofs.Laws.{Writing}
use Rattle.clause_set.specs.Stores.{clauses_from}
use Rattle.dimacs.specs.Dimacs.{clauses}
use Rattle.dimacs.proofs.put_clauses.Given as goal

abbrev pub invariant-loop-k : goal.invariant-loop-k
invariant-loop-k l =
    Writing l.initial.w (clauses (clauses_from l.lits l.ends 0 l.count)) l.w (clauses (clauses_from l.lits l.ends l.k (l.count - l.k)))
