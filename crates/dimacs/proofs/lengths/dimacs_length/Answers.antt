-- `dimacs::lengths::dimacs_length` meets its contract.
use Rattle.dimacs.proofs.Counting.{print_long}
use Rattle.dimacs.proofs.lengths.dimacs_length.Goals as goal

pub returns : goal.returns
returns c =
    let a = c.args in
    print_long a.env a.lits.now a.ends.now c.line_length.ensures.0 c.clauses_length.ensures.0
