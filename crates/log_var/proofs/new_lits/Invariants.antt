-- `log_var::new_lits` meets its contract.
use mathlib.Core.Path.{◌≡◌}
use mathlib.Core.List.{[], map}
use Prim.Native.Nat.{◌+◌, ◌-◌}
use lib.Seq.{sets}
use Rattle.sat.specs.Fresh.{fresh}
use Rattle.sat.specs.LitArray.{lit}
use Rattle.clause_set.specs.Stores.{Wrote}
use Rattle.log_var.proofs.new_lits.Given as goal

-- the literals left, placed next, come to all of them
abbrev pub invariant-loop-i : goal.invariant-loop-i
invariant-loop-i l =
    let v = l.initial.set.vars in
    Wrote l.initial.set (v + l.i) [] l.set × (sets l.initial.out 0 (map lit (fresh l.n v)) ≡ sets l.out l.i (map lit (fresh (l.n - l.i) (v + l.i))))
