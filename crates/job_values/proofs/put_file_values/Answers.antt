-- `job_values::put_file_values` meets its contract.
use Rattle.job_values.proofs.Printing.{file_answered, file_refused, left_formed}
use borrow.Author.Rules.{rules}
use Rattle.job_values.proofs.put_file_values.Goals as goal

pub returns-in-Err : goal.returns-in-Err
returns-in-Err c =
    let a = c.args in
    let g = c.run-a in
    let f = c.print_refused in
    file_refused a.file.now a.lits.now a.ends.now a.answer.now g.result _ _ g.ensures a.out.now f.new.out f.result c.in-Err.e c.in-Err.is (search rules) c.requires (search rules) (rw c.number.ensures.number at f.ensures)

pub put_job_values-requires : goal.put_job_values-requires
put_job_values-requires c =
    let a = c.args in
    let g = c.run-a in
    (left_formed a.file.now a.lits.now a.ends.now a.answer.now g.result _ _ g.ensures (rw c.in-Ok.is), c.requires)

pub returns-in-Ok : goal.returns-in-Ok
returns-in-Ok c =
    let a = c.args in
    let g = c.run-a in
    let f = c.put_job_values in
    file_answered a.file.now a.lits.now a.ends.now a.answer.now g.result _ _ g.ensures a.out.now f.new.out f.result (rw c.in-Ok.is) f.ensures
