-- `adder_size::AdderSize::extended` meets its contract.
use Rattle.adder_size.proofs.Left.{past_end, past_turn}
use Rattle.adder_size.proofs.AdderSize.extended.Goals as goal

pub loop-s-preserved : goal.loop-s-preserved
loop-s-preserved c = past_turn _ c.loop-s.invariant c.with_column-s.result c.loop-s-test.true c.with_column-s.ensures

pub returns : goal.returns
returns c = past_end _ c.loop-s.invariant c.loop-s-test.false
