-- `job_values::put_tested_values` meets its contract.
use Rattle.job_values.proofs.Printing.{test_refused, values_stand}
use borrow.Author.Rules.{rules}
use Rattle.job_values.proofs.put_tested_values.Goals as goal

pub returns-in-Err : goal.returns-in-Err
returns-in-Err c =
    let a = c.args in
    let t = c.test_assignment-tested in
    let f = c.print_refused in
    test_refused a.env a.field a.lits.now a.ends.now a.assignment.now _ t.ensures a.out.now f.new.out f.result c.requires.1 (search rules) c.in-Err.e (rw c.in-Err.is) (search rules) (rw c.number.ensures.number at f.ensures)

pub returns : goal.returns
returns c =
    let a = c.args in
    let t = c.test_assignment-tested in
    let f = c.put_values in
    values_stand a.env a.field a.lits.now a.ends.now a.assignment.now _ t.ensures a.out.now f.new.out f.result c.requires.1 (search rules) (rw c.in_default.is) c.requires.0 f.ensures
