-- `solver_reading::State::after_lines` meets its contract.
use lib.ListN.{length}
use mathlib.Core.Path.{◌≡◌}
use Rattle.lines.specs.Reading.{split}
use Rattle.solver_reading.specs.Reading.{after_lines, run}
use Rattle.solver_reading.proofs.State.after_lines.Given as goal

abbrev pub invariant-loop-end : goal.invariant-loop-end
invariant-loop-end l = after_lines (length l.given) (run l.here l.given) (split 10 l.rest) ≡ after_lines (length l.initial.given) (run l.initial.here l.initial.given) (split 10 l.text)

abbrev pub decreases-loop-end : goal.decreases-loop-end
decreases-loop-end l = length l.rest
