-- `log_counts::Shapes::negated_bits` meets its contract.
use mathlib.Core.Path.{◌≡◌}
use Prim.Native.Nat.{◌+◌, ◌*◌, ◌≤◌}
use lib.ListN.{drop}
use Rattle.log_encoding.specs.LinearSize.{negated_bits}
use Rattle.log_counts.specs.Counted.{shapes_of}
use Rattle.log_counts.proofs.Shapes.negated_bits.Given as goal

abbrev pub invariant-loop-t : goal.invariant-loop-t
invariant-loop-t l =
    (negated_bits (shapes_of l.self.list.now) ≡ l.sum + negated_bits (drop l.t-index (shapes_of l.self.list.now))) × (l.sum ≤ 33554432 * l.t-index)
