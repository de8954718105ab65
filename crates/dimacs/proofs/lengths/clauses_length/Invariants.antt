-- `dimacs::lengths::clauses_length` meets its contract.
use mathlib.Core.Path.{◌≡◌}
use Prim.Native.Nat.{◌*◌, ◌+◌, ◌-◌, ◌≤◌}
use lib.ListN.{length}
use Rattle.clause_set.specs.Stores.{clauses_from}
use Rattle.dimacs.specs.Dimacs.{clauses}
use Rattle.dimacs.proofs.lengths.clauses_length.Given as goal

abbrev pub invariant-loop-k : goal.invariant-loop-k
invariant-loop-k l =
    (l.size ≤ 201326594 * l.k) × (l.size + length (clauses (clauses_from l.lits l.ends l.k (l.count - l.k))) ≡ length (clauses (clauses_from l.lits l.ends 0 l.count)))
