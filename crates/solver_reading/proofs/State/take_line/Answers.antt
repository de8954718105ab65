-- `solver_reading::State::take_line` meets its contract.
use lib.ListN.{length}
use mathlib.Core.Path.{◌∙◌, ap, sym}
use Rattle.solver_lines.specs.Lines.{verdict}
use Rattle.solver_reading.specs.Reading.{after_word, run}
use Rattle.solver_reading.specs.declared.State.{State}
use Rattle.solver_reading.proofs.State.take_line.Goals as goal

pub returns-in-Comment : goal.returns-in-Comment
unfolding after_word
returns-in-Comment c =
    let a = c.args in
    ap (after_word (length a.given.now) (run a.self.now a.given.now)) c.in-Comment.ensures

pub returns-in-Verdict-true : goal.returns-in-Verdict-true
unfolding after_word
returns-in-Verdict-true c =
    let a = c.args in
    let w = c.in-Verdict-true in
    ap (λ (s : State). run s a.given.now) c.on_verdict.ensures
    ∙ ap (after_word (length a.given.now) (run a.self.now a.given.now)) (ap verdict (sym w.field-0-test) ∙ w.ensures)

pub returns-in-Verdict-false : goal.returns-in-Verdict-false
unfolding after_word
returns-in-Verdict-false c =
    let a = c.args in
    let w = c.in-Verdict-false in
    ap (λ (s : State). run s a.given.now) c.on_verdict-in-Verdict-false.ensures
    ∙ ap (after_word (length a.given.now) (run a.self.now a.given.now)) (ap verdict (sym w.field-0-test) ∙ w.ensures)

pub returns-in-Values : goal.returns-in-Values
unfolding after_word
returns-in-Values c =
    let a = c.args in
    c.on_values.ensures ∙ ap (after_word (length a.given.now) (run a.self.now a.given.now)) c.in-Values.ensures

pub returns-in-Broken : goal.returns-in-Broken
unfolding after_word
returns-in-Broken c =
    let a = c.args in
    ap (λ (s : State). run s a.given.now) c.in_phase.ensures ∙ ap (after_word (length a.given.now) (run a.self.now a.given.now)) c.in-Broken.ensures
