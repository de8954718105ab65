-- `log_domain::add_bound` meets its contract. The loop's invariant: the clauses left, added next, come to all of them.
use mathlib.Core.Path.{◌≡◌}
use Prim.Native.Nat.{◌+◌, ◌-◌, ◌<◌}
use Rattle.sat.specs.Fresh.{fresh}
use Rattle.clause_set.proofs.Writing.{Left}
use Rattle.log_domain.specs.Domain.{bound}
use Rattle.log_domain.proofs.add_bound.Given as goal

abbrev pub invariant-loop-i : goal.invariant-loop-i
invariant-loop-i l =
    Left l.initial.set (bound l.lower (fresh l.n l.first.0) l.k) l.set (bound l.lower (fresh (l.n - l.i) (l.first.0 + l.i)) l.x)
    × (l.set.vars ≡ l.initial.set.vars) × (l.x < 2147483648)
