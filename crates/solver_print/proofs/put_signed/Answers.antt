-- `solver_print::put_signed` meets its contract.
use Rattle.solver_print.proofs.Printing.{wrote_false, wrote_true}
use Rattle.solver_print.proofs.put_signed.Goals as goal
use Rattle.solver_print.proofs.put_signed.Goals.{then-b-eq0, else-b-eq0}

pub returns : goal.returns
returns c =
    let a = c.args in
    elim c.if-b-eq0.branch [
      | then-b-eq0 w ↦ wrote_false a.x a.b c.put_decimal.ensures w.if-b-eq0.true w.w-is w.put.ensures
      | else-b-eq0 w ↦ wrote_true a.x a.b c.put_decimal.ensures w.if-b-eq0.false w.w-is
    ]
