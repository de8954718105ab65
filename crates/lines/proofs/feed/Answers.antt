-- `lines::feed` meets its contract.
use Rattle.lines.proofs.Steps.{feeding_none, feeding_more}
use Rattle.lines.proofs.feed.Goals as goal

pub loop-i-init : goal.loop-i-init
loop-i-init c = feeding_none _ _ _ c.requires

pub loop-i-preserved : goal.loop-i-preserved
loop-i-preserved c = feeding_more c.loop-i.invariant c.loop-i-test.true c.if-s-i-eq10.false c.line_more-line.ensures
