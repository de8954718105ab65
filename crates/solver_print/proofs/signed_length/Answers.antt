-- `solver_print::signed_length` meets its contract.
use Rattle.solver_print.proofs.Counting.{signed_long}
use Rattle.solver_print.proofs.signed_length.Goals as goal

pub returns : goal.returns
returns c = signed_long c.args.x c.args.b c.decimal_length.ensures c.from.ensures
