-- `adder_size::adder_size` meets its contract.
use Rattle.adder_size.proofs.Left.{columns_turn}
use Rattle.adder_size.proofs.adder_size.Goals as goal

pub loop-own-preserved : goal.loop-own-preserved
loop-own-preserved c = columns_turn _ _ _ c.loop-own.invariant c.with_column-s.result c.loop-own-test.true c.with_column-s.ensures
