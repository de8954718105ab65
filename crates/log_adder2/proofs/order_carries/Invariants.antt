-- `log_adder2::order_carries` meets its contract.
use Prim.Native.Nat.{◌-◌}
use lib.ListN.{length}
use Rattle.log_adder2.proofs.OrderingPass.{OrderingLeft}
use Rattle.log_adder2.proofs.order_carries.Given as goal

abbrev pub invariant-loop-count : goal.invariant-loop-count
invariant-loop-count l =
    OrderingLeft l.counts (length l.counts - 1) l.initial.set l.x l.y l.set l.a l.b l.carry l.count-index
