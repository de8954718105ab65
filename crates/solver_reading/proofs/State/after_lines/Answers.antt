-- `solver_reading::State::after_lines` meets its contract.
use lib.ListN.{length}
use mathlib.Core.Path.{◌∙◌, ap}
use Rattle.std.proofs.Common.{rules, tests}
use Rattle.solver_reading.specs.Reading.{run}
use Rattle.solver_reading.specs.declared.State.{State}
use Rattle.solver_reading.proofs.Lines.{behind_feed, lines_broken, lines_end, lines_turn}
use Rattle.solver_reading.proofs.State.after_lines.Goals as goal

pub loop-end-preserved : goal.loop-end-preserved
loop-end-preserved c =
    let l = c.loop-end in
    lines_turn (length l.given) (run l.here l.given) l.rest.now l.invariant c.line_end.ensures c.in-Some.is (search rules) c.split_at.ensures.front (behind_feed l.rest.now _ c.in-Some.end c.split_at.ensures.back) c.take_line.ensures

pub returns-then-is_empty : goal.returns-then-is_empty
returns-then-is_empty c =
    let l = c.loop-end in
    lines_end (length l.given) (run l.here l.given) l.rest.now l.invariant (search (tests, rules))

pub returns : goal.returns
returns c =
    let l = c.loop-end in
    ap (λ (s : State). run s l.given) c.in_phase.ensures
    ∙ lines_broken (length l.given) (run l.here l.given) l.rest.now l.invariant c.line_end.ensures c.in_default.is (search (tests, rules))
