-- `Clause::extend` meets its contract. The loop's invariant: the literals passed stand behind those of the clause.
use Rattle.std.proofs.Common.{◌≡◌, ◌++◌, ◌+◌, map, take}
use Rattle.sat.specs.LitArray.{num}
use Rattle.clause_set.specs.Clause.{clause_lits}
use Rattle.clause_set.proofs.Clause.extend.Given as goal

abbrev pub invariant-loop-l : goal.invariant-loop-l
invariant-loop-l l =
    (l.self.len ≡ l.initial.self.len + l.l-index) × (clause_lits l.self ≡ clause_lits l.initial.self ++ map num (take l.l-index l.more))
