-- `log_domain::add_gaps` meets its contract. The loop's invariant: the gaps left, added next, come to all of them.
use mathlib.Core.Path.{◌≡◌}
use Rattle.sat.specs.Fresh.{fresh}
use Rattle.clause_set.proofs.Writing.{Left}
use Rattle.log_domain.specs.Domain.{RisingAt, gaps_from}
use Rattle.log_domain.proofs.add_gaps.Given as goal

abbrev pub invariant-loop-i : goal.invariant-loop-i
invariant-loop-i l =
    Left l.initial.set (gaps_from (fresh l.n l.first.0) l.offset l.values 0) l.set (gaps_from (fresh l.n l.first.0) l.offset l.values l.i)
    × (l.set.vars ≡ l.initial.set.vars) × RisingAt l.offset l.values l.i
