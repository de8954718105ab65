-- `dimacs::put_refused` meets its contract.
use Rattle.dimacs.proofs.Printing.{wrote_refused}
use Rattle.dimacs.proofs.put_refused.Goals as goal

pub returns : goal.returns
returns c = wrote_refused _ _ c.put_line.ensures
