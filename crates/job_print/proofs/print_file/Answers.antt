-- `job_print::print_file` meets its contract.
use native.Mathlib.Omega.{arith}
use borrow.Author.Rules.{rules}
use Rattle.job_print.proofs.Whole.{clauses_printed, refusal_printed, store_within}
use Rattle.job_print.proofs.print_file.Goals as goal

pub print_dimacs-requires : goal.print_dimacs-requires
print_dimacs-requires c =
    let a = c.args in
    let g = c.run-a in
    store_within a.bytes.now a.lits.now a.ends.now g.result _ _ g.ensures (rw c.in-Ok.is)

pub returns-in-Ok : goal.returns-in-Ok
returns-in-Ok c =
    let a = c.args in
    let g = c.run-a in
    let f = c.print_dimacs in
    clauses_printed a.bytes.now a.lits.now a.ends.now g.result _ _ g.ensures (search rules) (rw c.in-Ok.is (omega arith)) a.out.now f.new.out f.result c.in-Ok.is f.ensures

pub returns-in-Err : goal.returns-in-Err
returns-in-Err c =
    let a = c.args in
    let g = c.run-a in
    let f = c.print_refused in
    let n = c.number.ensures in
    refusal_printed a.bytes.now a.lits.now a.ends.now g.result _ _ g.ensures (search rules) (rw c.in-Err.is (omega arith)) a.out.now f.new.out f.result c.in-Err.e c.in-Err.is (rw n.number at f.ensures)
