-- `dimacs::lengths::refused_length` meets its contract.
use Rattle.dimacs.proofs.Counting.{refusal_long}
use Rattle.dimacs.proofs.lengths.refused_length.Goals as goal

pub returns : goal.returns
returns c = refusal_long _ _ c.line_length.ensures.0
