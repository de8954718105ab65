-- `adder_size::adder_size` meets its contract.
use lib.ListN.{length}
use Rattle.adder_size.proofs.Left.{ColumnsLeft}
use Rattle.adder_size.proofs.adder_size.Given as goal

abbrev pub invariant-loop-own : goal.invariant-loop-own
invariant-loop-own l = ColumnsLeft l.counts (length l.counts) l.initial.k l.own-index l.k l.s
