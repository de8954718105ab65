-- `log_linear::push_ne` meets its contract.
use mathlib.Core.List.{[], map}
use Prim.Native.Nat.{◌+◌}
use mathlib.Core.Path.{◌≡◌}
use lib.ListN.{drop, length}
use Rattle.clause_set.specs.Clause.{clause_lits}
use Rattle.sat.specs.LitArray.{num}
use Rattle.log_encoding.specs.Compare.{ne_bits}
use Rattle.log_linear.proofs.Comparing.{RuleLeft}
use Rattle.log_linear.proofs.push_ne.Given as goal

abbrev pub invariant-loop-p : goal.invariant-loop-p
invariant-loop-p l =
    let i = length l.yielded in
    RuleLeft l.initial.set (ne_bits (map num l.ps) (map num l.ns) [] l.initial.set.vars) l.set (ne_bits (drop i (map num l.ps)) (drop i (map num l.ns)) (clause_lits l.clause) l.set.vars) i
    × (l.clause.len ≡ i) × (l.set.vars ≡ l.initial.set.vars + i)
