-- `log_linear::push_ge` meets its contract.
use mathlib.Core.List.{map}
use Prim.Native.Nat.{◌+◌, ◌≤◌}
use mathlib.Core.Path.{◌≡◌}
use lib.ListN.{drop, length}
use Rattle.sat.specs.LitArray.{num}
use Rattle.log_encoding.specs.Linear.{ge_bits}
use Rattle.log_linear.specs.SubLit.{ge_left, sub_lits, sub_of}
use Rattle.log_linear.proofs.Comparing.{RuleLeft}
use Rattle.log_linear.proofs.push_ge.Given as goal

abbrev pub invariant-loop-p : goal.invariant-loop-p
invariant-loop-p l =
    let i = length l.yielded in
    RuleLeft l.initial.set (ge_bits (map num l.ps) (map num l.ns) l.initial.set.vars) l.set (ge_left (sub_of l.sub) (drop i (map num l.ps)) (drop i (map num l.ns)) l.set.vars) i
    × (length (sub_lits (sub_of l.sub)) ≤ i) × (l.set.vars ≡ l.initial.set.vars + i)
