-- `solver_reading::State::on_values` meets its contract.
use lib.ListN.{drop, length}
use mathlib.Core.Path.{◌≡◌}
use Rattle.lines.specs.Reading.{split}
use Rattle.solver_reading.specs.Reading.{after_pieces, run}
use Rattle.solver_reading.proofs.State.on_values.Given as goal

abbrev pub invariant-loop-piece : goal.invariant-loop-piece
invariant-loop-piece l = after_pieces (length l.given) (run l.here l.given) (drop (length l.yielded) (split 32 l.numbers)) ≡ after_pieces (length l.initial.given) (run l.initial.here l.initial.given) (split 32 l.numbers)
