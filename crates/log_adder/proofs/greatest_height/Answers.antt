-- `log_adder::greatest_height` meets its contract.
use Rattle.log_encoding.proofs.Heights.{heights_end, heights_turn}
use Rattle.log_adder.proofs.greatest_height.Goals as goal

pub loop-count-preserved : goal.loop-count-preserved
loop-count-preserved c =
    let l = c.loop-count in
    heights_turn _ _ _ l.invariant c.max-most.result c.max-most.ensures c.loop-count-test.true (c.requires l.count-index)

pub returns : goal.returns
returns c = heights_end _ _ _ c.loop-count.invariant c.loop-count-test.false
