-- `log_mul::consecutive` meets its contract.
use mathlib.Core.Path.{◌≡◌}
use lib.ListN.{length}
use Rattle.sat.specs.LitArray.{first_lits}
use Rattle.sat.specs.Fresh.{fresh}
use Rattle.log_adder.specs.ColumnInfo.{AllLow}
use Rattle.log_mul.proofs.consecutive.Given as goal

abbrev pub invariant-loop-j : goal.invariant-loop-j
invariant-loop-j l = (length l.lits ≡ 32) × (first_lits l.lits l.j ≡ fresh l.j l.v) × AllLow l.lits
