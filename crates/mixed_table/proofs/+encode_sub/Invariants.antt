-- `mixed_table::encode_sub` meets its contract: it adds the clauses that the table tells, in their order. The measure is the number of
-- terms left. The loop's invariant: what is left to add are the clauses of the thresholds left.
use mathlib.Core.Path.{◌≡◌}
use Prim.Native.Nat.{◌≤◌}
use Rattle.clause_set.specs.Clause.{clause_lits}
use Rattle.clause_set.proofs.Writing.{Left}
use Rattle.mixed_table.specs.Table.{top_of, walk, walk_rows}
use Rattle.mixed_table.proofs.+encode_sub.Given as goal

abbrev pub decreases-encode_sub : goal.decreases-encode_sub
decreases-encode_sub l = l.left

abbrev pub invariant-loop-below : goal.invariant-loop-below
invariant-loop-below l =
    (l.below ≤ top_of l.tab l.left)
    × Left l.initial.set (walk l.tab l.left l.slack (clause_lits l.initial.clause)) l.set (walk_rows l.tab l.below l.slack (clause_lits l.initial.clause))
    × (l.set.vars ≡ l.initial.set.vars)
    × (clause_lits l.clause ≡ clause_lits l.initial.clause)
    × (l.clause.len ≡ l.initial.clause.len)
