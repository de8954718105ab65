-- `columns_check::print::digest_clause` meets its contract.
use Rattle.std.proofs.Common.{◌<◌}
use Rattle.columns_check.proofs.print.digest_clause.Given as goal

abbrev pub invariant-loop-l : goal.invariant-loop-l
invariant-loop-l l = l.sum < 2147483647
