-- `log_domain::add_gap` meets its contract. The loop's invariant: the clauses left, added next, come to all of them.
use mathlib.Core.Path.{◌≡◌}
use Prim.Native.Nat.{◌+◌, ◌-◌}
use Rattle.sat.specs.Fresh.{fresh}
use Rattle.clause_set.proofs.Writing.{Left}
use Rattle.log_encoding.specs.Domain.{gap}
use Rattle.log_domain.proofs.add_gap.Given as goal

abbrev pub invariant-loop-x : goal.invariant-loop-x
invariant-loop-x l =
    Left l.initial.set (gap (fresh l.n l.first.0) l.k l.many) l.set (gap (fresh l.n l.first.0) l.x (l.k + l.many - l.x))
    × (l.set.vars ≡ l.initial.set.vars)
