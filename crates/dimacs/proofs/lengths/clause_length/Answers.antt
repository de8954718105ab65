-- `dimacs::lengths::clause_length` meets its contract.
use borrow.Author.Rules.{rules}
use native.Mathlib.Omega.{arith}
use Rattle.dimacs.proofs.Counting.{clause_long, clause_longer}
use Rattle.dimacs.proofs.lengths.clause_length.Goals as goal

pub loop-l-preserved : goal.loop-l-preserved
loop-l-preserved c =
    let l = c.loop-l in
    (search rules, clause_longer c.args.part.now l.l-index l.size c.loop-l-test.true c.literal_length.ensures.0 l.invariant.1)

pub returns : goal.returns
returns c =
    let l = c.loop-l in
    (clause_long c.args.part.now l.l-index l.size c.loop-l-test.false l.invariant.1, omega (arith, l.invariant, c.requires))
