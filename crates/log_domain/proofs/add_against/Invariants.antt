-- `log_domain::add_against` meets its contract. The loop's invariant: the literals left, stored next, come to all of them.
use mathlib.Core.Path.{◌≡◌}
use Prim.Native.Nat.{◌+◌, ◌-◌}
use lib.Seq.{sets}
use Rattle.sat.specs.Fresh.{fresh}
use Rattle.log_encoding.specs.Domain.{against}
use Rattle.log_domain.proofs.add_against.Given as goal

abbrev pub invariant-loop-i : goal.invariant-loop-i
invariant-loop-i l =
    sets l.initial.lits l.from (against (fresh l.n l.first.0) l.k) ≡ sets l.lits (l.from + l.i) (against (fresh (l.n - l.i) (l.first.0 + l.i)) l.x)
