-- `job_values::put_answer_values` meets its contract.
use Rattle.job_values.proofs.Printing.{answer_refused, assigned, none_found}
use borrow.Author.Rules.{rules}
use Rattle.job_values.proofs.put_answer_values.Goals as goal

pub returns-in-Ok-Assignment : goal.returns-in-Ok-Assignment
returns-in-Ok-Assignment c =
    let a = c.args in
    let h = c.requires in
    let f = c.put_tested_values in
    assigned a.env a.field a.lits.now a.ends.now a.answer.now a.assignment.now c.read_answer.ensures h.1 h.0 (search rules) a.out.now f.new.out f.result h.2 (search rules) (search rules) f.ensures

pub returns-in-Ok-Unsatisfiable : goal.returns-in-Ok-Unsatisfiable
returns-in-Ok-Unsatisfiable c =
    let a = c.args in
    let h = c.requires in
    let f = c.put_none in
    none_found a.env a.field a.lits.now a.ends.now a.answer.now a.assignment.now c.read_answer.ensures h.1 h.0 (search rules) a.out.now f.new.out f.result h.2 (search rules) (search rules) f.ensures

pub returns-in-Err : goal.returns-in-Err
returns-in-Err c =
    let a = c.args in
    let h = c.requires in
    let f = c.print_refused in
    answer_refused a.env a.field a.lits.now a.ends.now a.answer.now a.assignment.now c.read_answer.ensures h.1 h.0 (search rules) a.out.now f.new.out f.result h.2 (search rules) c.in-Err.e c.in-Err.is (rw c.number.ensures.number at f.ensures)
