-- `mixed::add_last` meets its contract. The loop's invariant: the literals of the first slacks are in the table.
use mathlib.Core.Path.{◌≡◌}
use Rattle.mixed.specs.Filling.{put_ends}
use Rattle.mixed.proofs.add_last.Given as goal

abbrev pub invariant-loop-slack : goal.invariant-loop-slack
invariant-loop-slack l =
    l.tab ≡ record { rows = l.initial.tab.rows; ends = put_ends l.initial.tab.ends l.t l.slack; tops = l.initial.tab.tops }
