-- `log_adder2::eq_greatest_height` meets its contract.
use Rattle.log_adder2.proofs.EqHeights.{heights_start, heights_turn}
use Rattle.log_adder2.proofs.eq_greatest_height.Goals as goal

pub loop-count-init : goal.loop-count-init
loop-count-init c = heights_start c.args.counts.now c.args.x c.args.y c.requires.0 c.requires.1

pub loop-count-preserved : goal.loop-count-preserved
loop-count-preserved c =
    let l = c.loop-count in
    heights_turn _ _ _ l.invariant c.max-most.result c.max-most.ensures c.loop-count-test.true (c.requires.2 l.count-index) c.if-height-odd.false
