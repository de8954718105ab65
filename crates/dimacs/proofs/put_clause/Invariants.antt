-- `dimacs::put_clause` meets its contract.
use Rattle.std.proofs.Common.{drop}
use Rattle.text.proofs.Laws.{Writing}
use Rattle.dimacs.specs.Dimacs.{clause}
use Rattle.dimacs.proofs.put_clause.Given as goal

abbrev pub invariant-loop-l : goal.invariant-loop-l
invariant-loop-l l = Writing l.initial.w (clause l.part) l.w (clause (drop l.l-index l.part))
