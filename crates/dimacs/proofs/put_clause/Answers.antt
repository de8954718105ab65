-- `dimacs::put_clause` meets its contract.
use Rattle.text.proofs.Laws.{writing_none}
use Rattle.dimacs.proofs.Printing.{clause_end, clause_turn}
use Rattle.dimacs.proofs.put_clause.Goals as goal

pub loop-l-init : goal.loop-l-init
loop-l-init c = writing_none c.args.w.now _

pub loop-l-preserved : goal.loop-l-preserved
loop-l-preserved c = clause_turn _ c.loop-l.l-index c.loop-l-test.true c.loop-l.invariant c.put_literal.ensures c.put.ensures

pub returns : goal.returns
returns c = clause_end _ c.loop-l.l-index c.loop-l-test.false c.loop-l.invariant c.put_bytes.ensures
