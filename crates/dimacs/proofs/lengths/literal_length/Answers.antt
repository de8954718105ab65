-- `dimacs::lengths::literal_length` meets its contract.
use Rattle.dimacs.proofs.Counting.{literal_long}
use Rattle.dimacs.proofs.lengths.literal_length.Goals as goal

pub returns : goal.returns
returns c = literal_long _ c.number.ensures c.decimal_length.ensures (rw c.is_negated.ensures at c.from.ensures)
