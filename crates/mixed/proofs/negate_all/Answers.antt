-- `mixed::negate_all` meets its contract.
use native.Mathlib.Omega.{arith}
use Rattle.mixed.proofs.Infos.{negated_end, negated_more}
use Rattle.mixed.proofs.negate_all.Goals as goal

pub loop-i-preserved : goal.loop-i-preserved
loop-i-preserved c = rw c.neg.ensures (negated_more c.args.ts.now c.loop-i.out c.loop-i.i c.loop-i.invariant c.loop-i-test.true)

pub returns : goal.returns
returns c = negated_end c.args.ts.now c.loop-i.out c.loop-i.i c.loop-i.invariant (omega (arith, c.loop-i-test.false))
