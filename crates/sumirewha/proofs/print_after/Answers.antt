-- `sumirewha::print_after` meets its contract.
use borrow.Author.Rules.{rules}
use mathlib.Core.Path.{◌≡◌}
use Rattle.std.specs.Prelude.{Ok, Err}
use Rattle.refusal.specs.Number.{status}
use Rattle.encoder_solution.proofs.Printing.{text_small}
use Rattle.job_file.specs.Run.{job_run}
use Rattle.sumirewha.proofs.Answering.{file_refused, print_refused, printed}
use Rattle.sumirewha.proofs.print_after.Goals as goal
use Rattle.sumirewha.proofs.print_after.Goals.{In_ok-run}

-- the file was accepted
accepted : (c : In_ok-run) → status c.args.run.answer ≡ 0
accepted c = let was : c.args.run.answer ≡ Ok tt = search rules in rw was

pub returns-in_err-run : goal.returns-in_err-run
returns-in_err-run c =
    let a = c.args in
    let was : a.run.answer ≡ Err c.in_err-run.field-0.0 = search rules in
    let is : c.from_residual.result ≡ Err c.in_err-run.field-0.0 = search rules in
    rw is (file_refused (job_run a.run a.lits.now a.ends.now) _ a.out.now _ (rw was))

pub returns-in_err-size : goal.returns-in_err-size
returns-in_err-size c =
    let a = c.args in
    let is : c.from_residual-in_err-size.result ≡ Err c.in_err-size.field-0.0 = search rules in
    rw is (print_refused (job_run a.run a.lits.now a.ends.now) a.assignment.now a.out.now (accepted (goal.at.returns-in_err-size c).In_ok-run) _ c.in_err-size.ensures)

pub overflow_cast-result : goal.overflow_cast-result
overflow_cast-result c =
    let a = c.args in
    let small = text_small a.run.env a.lits.now a.ends.now a.assignment.now a.out.now c.in_ok-size.size c.in_ok-size.ensures.answer in
    search rules

pub returns : goal.returns
returns c =
    let a = c.args in
    printed (job_run a.run a.lits.now a.ends.now) a.assignment.now a.out.now (accepted (goal.at.returns c).In_ok-run) _ c.in_ok-size.ensures
