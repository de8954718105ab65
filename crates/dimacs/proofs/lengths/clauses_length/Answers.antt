-- `dimacs::lengths::clauses_length` meets its contract.
use borrow.Author.Rules.{rules}
use native.Mathlib.Omega.{arith}
use Rattle.dimacs.proofs.Counting.{clauses_long, clauses_longer}
use Rattle.dimacs.proofs.lengths.clauses_length.Goals as goal

pub loop-k-preserved : goal.loop-k-preserved
loop-k-preserved c =
    let l = c.loop-k in
    let a = c.args in
    (search rules, clauses_longer a.lits.now a.ends.now l.k a.count l.size c.loop-k-test.true c.clause_at.ensures c.clause_length-size.ensures.0 l.invariant.1)

pub returns : goal.returns
returns c =
    let l = c.loop-k in
    let a = c.args in
    (clauses_long a.lits.now a.ends.now l.k a.count l.size c.loop-k-test.false l.invariant.1, omega (arith, l.invariant))
