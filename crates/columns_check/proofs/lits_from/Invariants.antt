-- `columns_check::lits_from` meets its contract.
use Rattle.log_adder.specs.ColumnInfo.{AllLow}
use Rattle.std.proofs.Common.{length, ◌≡◌}
use Rattle.columns_check.proofs.lits_from.Given as goal

abbrev pub invariant-loop-i : goal.invariant-loop-i
invariant-loop-i l = (length l.lits ≡ 32) × AllLow l.lits
