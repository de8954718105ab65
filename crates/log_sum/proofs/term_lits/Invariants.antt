-- `log_sum::term_lits` meets its contract.
use mathlib.Core.Path.{◌≡◌}
use lib.ListN.{length}
use Rattle.sat.specs.LitArray.{first_lits}
use Rattle.log_gather.specs.Arrays.{AllSmall}
use Rattle.log_sum.proofs.term_lits.Given as goal

abbrev pub invariant-loop-i : goal.invariant-loop-i
invariant-loop-i l = (length l.out ≡ 32) × (first_lits l.out l.i ≡ first_lits l.lits l.i) × AllSmall l.out
