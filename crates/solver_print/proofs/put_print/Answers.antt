-- `solver_print::put_print` meets its contract.
use Rattle.solver_print.proofs.Printing.{wrote_print}
use Rattle.solver_print.proofs.put_print.Goals as goal

pub returns : goal.returns
returns c = wrote_print _ c.put_bytes.ensures c.put_values.ensures
