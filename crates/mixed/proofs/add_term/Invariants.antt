-- `mixed::add_term` meets its contract. The loop's invariant: the rows of the last i thresholds are in the table.
use mathlib.Core.Path.{◌≡◌}
use Prim.Native.Nat.{◌+◌, ◌*◌}
use Rattle.mixed.specs.Filling.{put_rows}
use Rattle.mixed.proofs.add_term.Given as goal

abbrev pub invariant-loop-i : goal.invariant-loop-i
invariant-loop-i l =
    (l.cost ≡ l.t.weight * l.i)
    × (l.tab ≡ record { rows = put_rows l.initial.tab.rows l.t (l.terms + 1) l.left l.lost l.i; ends = l.initial.tab.ends; tops = l.initial.tab.tops })
