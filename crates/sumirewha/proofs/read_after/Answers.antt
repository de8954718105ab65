-- `sumirewha::read_after` meets its contract.
use borrow.Author.Rules.{rules}
use mathlib.Core.Path.{◌≡◌}
use Rattle.std.specs.Prelude.{Ok, Err}
use Rattle.refusal.specs.Number.{status}
use Rattle.job_file.specs.Run.{job_run}
use Rattle.sumirewha.proofs.Answering.{file_refused, found, none_found, read_refused}
use Rattle.sumirewha.proofs.read_after.Goals as goal
use Rattle.sumirewha.proofs.read_after.Goals.{In_ok-run}

-- the file was accepted
accepted : (c : In_ok-run) → status c.args.run.answer ≡ 0
accepted c = let was : c.args.run.answer ≡ Ok tt = search rules in rw was

pub returns-in_err-run : goal.returns-in_err-run
returns-in_err-run c =
    let a = c.args in
    let was : a.run.answer ≡ Err c.in_err-run.field-0.0 = search rules in
    let is : c.from_residual.result ≡ Err c.in_err-run.field-0.0 = search rules in
    rw is (file_refused (job_run a.run a.lits.now a.ends.now) _ a.assignment.now _ (rw was))

pub returns-in_err-read_answer : goal.returns-in_err-read_answer
returns-in_err-read_answer c =
    let a = c.args in
    let is : c.from_residual-in_err-read_answer.result ≡ Err c.in_err-read_answer.field-0.0 = search rules in
    rw is (read_refused (job_run a.run a.lits.now a.ends.now) a.text.now a.assignment.now (accepted (goal.at.returns-in_err-read_answer c).In_ok-run) _ c.in_err-read_answer.ensures)

pub returns-in-Assignment : goal.returns-in-Assignment
returns-in-Assignment c =
    let a = c.args in
    found (job_run a.run a.lits.now a.ends.now) a.text.now a.assignment.now (accepted (goal.at.returns-in-Assignment c).In_ok-run) (rw c.in-Assignment.is at c.in_ok-read_answer.ensures)

pub returns-in-Unsatisfiable : goal.returns-in-Unsatisfiable
returns-in-Unsatisfiable c =
    let a = c.args in
    none_found (job_run a.run a.lits.now a.ends.now) a.text.now a.assignment.now (accepted (goal.at.returns-in-Unsatisfiable c).In_ok-run) (rw c.in-Unsatisfiable.is at c.in_ok-read_answer.ensures)
