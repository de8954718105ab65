-- `log_linear::none_of` meets its contract.
use mathlib.Core.List.{map}
use mathlib.Core.Path.{◌≡◌}
use lib.ListN.{drop}
use Rattle.sat.specs.LitArray.{num}
use Rattle.clause_set.proofs.Writing.{Left}
use Rattle.log_encoding.specs.Compare.{none_of}
use Rattle.log_linear.proofs.none_of.Given as goal

abbrev pub invariant-loop-l : goal.invariant-loop-l
invariant-loop-l l =
    Left l.initial.set (none_of (map num l.bits)) l.set (none_of (drop l.l-index (map num l.bits))) × (l.set.vars ≡ l.initial.set.vars)
