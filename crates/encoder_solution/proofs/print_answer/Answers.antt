-- `encoder_solution::print_answer` meets its contract.
use mathlib.Core.Path.{◌≡◌}
use Rattle.std.proofs.Common.{rules}
use Rattle.std.specs.Prelude.{Err}
use Rattle.encoder_solution.proofs.Printing.{assignment_small, print_refused, print_short, print_whole}
use Rattle.encoder_solution.proofs.print_answer.Goals as goal

pub returns-in_err-assignment_checks : goal.returns-in_err-assignment_checks
returns-in_err-assignment_checks c =
    let a = c.args in
    let is : c.from_residual.result ≡ Err c.in_err-assignment_checks.field-0.0 = search rules in
    print_refused a.env a.lits.now a.ends.now a.assignment.now a.out.now c.assignment_checks.ensures c.in_err-assignment_checks.was is

pub print_assignment-size-requires : goal.print_assignment-size-requires
print_assignment-size-requires c =
    let a = c.args in
    assignment_small a.env a.lits.now a.ends.now a.assignment.now a.out.now c.assignment_checks.ensures c.in_ok-assignment_checks.was

pub returns-then-out-size : goal.returns-then-out-size
returns-then-out-size c =
    let a = c.args in
    print_short a.env a.lits.now a.ends.now a.assignment.now a.out.now c.assignment_checks.ensures c.in_ok-assignment_checks.was c.print_assignment-size.ensures (search rules)

pub returns : goal.returns
returns c =
    let a = c.args in
    print_whole a.env a.lits.now a.ends.now a.assignment.now a.out.now c.assignment_checks.ensures c.in_ok-assignment_checks.was c.print_assignment-size.ensures (search rules)
