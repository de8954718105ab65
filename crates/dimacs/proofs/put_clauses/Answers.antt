-- `dimacs::put_clauses` meets its contract.
use native.Mathlib.Numerals.{unary_clauses}
use Rattle.text.proofs.Laws.{writing_none}
use Rattle.dimacs.proofs.Printing.{clauses_end, clauses_turn}
use Rattle.dimacs.proofs.put_clauses.Goals as goal

pub loop-k-init : goal.loop-k-init
loop-k-init c = simp unary_clauses (writing_none c.args.w.now _)

pub loop-k-preserved : goal.loop-k-preserved
loop-k-preserved c =
    let a = c.args in
    clauses_turn a.lits.now a.ends.now c.loop-k.k a.count c.loop-k-test.true c.loop-k.invariant c.clause_at.ensures c.put_clause.ensures

pub returns : goal.returns
returns c =
    let a = c.args in
    clauses_end a.lits.now a.ends.now c.loop-k.k a.count c.loop-k-test.false c.loop-k.invariant
