-- `columns_check::print::digest_clauses` meets its contract.
use Rattle.std.proofs.Common.{◌<◌}
use Rattle.columns_check.proofs.print.digest_clauses.Given as goal

abbrev pub invariant-loop-k : goal.invariant-loop-k
invariant-loop-k l = l.sum < 2147483647
