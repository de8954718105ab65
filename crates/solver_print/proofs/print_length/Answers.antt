-- `solver_print::print_length` meets its contract.
use borrow.Author.Rules.{rules}
use Rattle.solver_print.proofs.Counting.{none_counted, values_long, values_longer}
use Rattle.solver_print.proofs.print_length.Goals as goal

pub loop-i-init : goal.loop-i-init
loop-i-init c = (search rules, none_counted _)

pub loop-i-preserved : goal.loop-i-preserved
loop-i-preserved c =
    let l = c.loop-i in
    (search rules, values_longer c.args.assignment.now l.i l.size c.loop-i-test.true c.signed_length.ensures.0 l.invariant.1)

pub returns : goal.returns
returns c =
    let l = c.loop-i in values_long c.args.assignment.now l.i l.size c.loop-i-test.false l.invariant.1
