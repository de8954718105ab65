-- `log_terms::Terms::negated_constant` meets its contract.
use mathlib.Core.Path.{◌≡◌}
use mathlib.Core.List.{map}
use Prim.Native.Nat.{◌+◌, ◌*◌, ◌≤◌}
use lib.ListN.{drop}
use Rattle.log_encoding.specs.Linear.{negated_constant}
use Rattle.log_terms.specs.Terms.{weighted_of}
use Rattle.log_terms.proofs.Terms.negated_constant.Given as goal

abbrev pub invariant-loop-t : goal.invariant-loop-t
invariant-loop-t l =
    (negated_constant (map weighted_of l.self.list.now) ≡ l.sum + negated_constant (drop l.t-index (map weighted_of l.self.list.now))) × (l.sum ≤ 33554432 * l.t-index)
