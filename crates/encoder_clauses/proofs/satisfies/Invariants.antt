-- `encoder_clauses::satisfies` meets its contract. The loop's invariant: the clauses passed hold, so what is left decides.
use Prim.Native.Nat.{◌-◌, ◌≤◌}
use mathlib.Core.Path.{◌≡◌}
use Rattle.clause_set.specs.Bytes.{all_hold}
use Rattle.clause_set.specs.Stores.{clauses_from}
use Rattle.encoder_clauses.proofs.satisfies.Given as goal

abbrev pub invariant-loop-k : goal.invariant-loop-k
invariant-loop-k l =
    (l.k ≤ l.k-end) × (all_hold l.assignment (clauses_from l.lits l.ends 0 l.k-end) ≡ all_hold l.assignment (clauses_from l.lits l.ends l.k (l.k-end - l.k)))
