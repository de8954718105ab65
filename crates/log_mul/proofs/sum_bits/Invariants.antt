-- `log_mul::sum_bits` meets its contract.
use lib.ListN.{length}
use Rattle.log_encoding.specs.AdderSize.{input_shapes, reached}
use Rattle.log_mul.proofs.Numbered.{ColumnsLeft, PastLeft}
use Rattle.log_mul.proofs.sum_bits.Given as goal

abbrev pub invariant-loop-own : goal.invariant-loop-own
invariant-loop-own l = ColumnsLeft l.counts l.vars l.s l.own-index

abbrev pub invariant-loop-s : goal.invariant-loop-s
invariant-loop-s l = PastLeft (reached (input_shapes (length l.counts) 0 l.counts 0) 0) l.vars l.s

abbrev pub decreases-loop-s : goal.decreases-loop-s
decreases-loop-s l = l.s.carry
