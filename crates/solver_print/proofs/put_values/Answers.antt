-- `solver_print::put_values` meets its contract.
use Rattle.text.proofs.Laws.{writing_none}
use Rattle.solver_print.proofs.Printing.{values_end, values_turn}
use Rattle.solver_print.proofs.put_values.Goals as goal

pub loop-i-init : goal.loop-i-init
loop-i-init c = writing_none c.args.w.now _

pub loop-i-preserved : goal.loop-i-preserved
loop-i-preserved c =
    values_turn c.args.assignment.now c.loop-i.i c.loop-i-test.true c.loop-i.invariant c.put.ensures c.put_signed.ensures

pub returns : goal.returns
returns c = values_end c.args.assignment.now c.loop-i.i c.loop-i-test.false c.loop-i.invariant c.put_bytes.ensures
