-- `dimacs::put_dimacs` meets its contract.
use Rattle.dimacs.proofs.Printing.{wrote_print}
use Rattle.dimacs.proofs.put_dimacs.Goals as goal

pub returns : goal.returns
returns c = wrote_print c.args.env c.args.lits.now c.args.ends.now c.put_line.ensures c.put_clauses.ensures
