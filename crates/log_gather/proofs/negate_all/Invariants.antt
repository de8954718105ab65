-- `log_gather::negate_all` meets its contract.
use mathlib.Core.Path.{◌≡◌}
use mathlib.Core.List.{map}
use lib.ListN.{length}
use Rattle.sat.specs.Lit.{neg}
use Rattle.log_adder.specs.ColumnInfo.{AllLow}
use Rattle.sat.specs.LitArray.{first_lits}
use Rattle.log_gather.proofs.negate_all.Given as goal

abbrev pub invariant-loop-i : goal.invariant-loop-i
invariant-loop-i l = (length l.out ≡ 32) × (first_lits l.out l.i ≡ map neg (first_lits l.lits l.i)) × AllLow l.out
