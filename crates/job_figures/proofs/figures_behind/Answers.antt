-- `job_figures::figures_behind` meets its contract.
use borrow.Author.Rules.{rules}
use borrow.Author.Tests.{ne_eqb}
use mathlib.Core.Path.{◌≡◌, ◌∙◌}
use native.Mathlib.Omega.{arith}
use Rattle.std.specs.Prelude.{Ok, Err}
use Rattle.refusal.specs.Number.{number}
use Rattle.encoder_answer.proofs.Statuses.{number_some}
use Rattle.job_figures.specs.FieldFigures.{file_figures}
use Rattle.job_figures.proofs.figures_behind.Goals as goal

pub returns-in_err-run : goal.returns-in_err-run
unfolding file_figures
returns-in_err-run c =
    let x = c.in_err-run.field-0.0 in
    let some = number_some x in
    let was : c.args.run.answer ≡ Err x = search rules in
    let is : c.from_residual.result ≡ Err x = search rules in
    rw (is, was, ne_eqb (number x) 0 (λ z. omega arith))

pub returns : goal.returns
unfolding file_figures
returns c =
    let was : c.args.run.answer ≡ Ok tt = search rules in
    c.field_figures.ensures ∙ rw was
