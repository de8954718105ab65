-- `log_adder2::push_ordering` meets its contract. The loop's invariant: the ordering clauses left.
use mathlib.Core.Path.{◌≡◌}
use Prim.Native.Nat.{◌≤◌}
use Rattle.clause_set.proofs.Writing.{Left}
use Rattle.log_encoding.specs.Adder2.{ordering}
use Rattle.log_adder.specs.ColumnInfo.{range_lits}
use Rattle.log_adder2.proofs.Ordering.{ordering_left}
use Rattle.log_adder2.proofs.push_ordering.Given as goal

abbrev pub invariant-loop-i : goal.invariant-loop-i
invariant-loop-i l =
    let p = l.fn.carry in
    Left l.fn.set (ordering (range_lits p)) l.set (ordering_left p.count p.first.0 l.i) × (l.set.vars ≡ l.fn.set.vars) × (1 ≤ l.i)
