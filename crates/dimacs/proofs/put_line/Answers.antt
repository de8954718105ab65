-- `dimacs::put_line` meets its contract.
use Rattle.dimacs.proofs.Printing.{wrote_line}
use Rattle.dimacs.proofs.put_line.Goals as goal

pub returns : goal.returns
returns c = wrote_line _ _ _ c.put_bytes.ensures c.put_decimal.ensures c.put.ensures c.put_decimal-2.ensures c.put-2.ensures
