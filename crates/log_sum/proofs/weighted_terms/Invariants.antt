-- `log_sum::weighted_terms` meets its contract.
use Rattle.log_var.specs.Record.{int_map_of}
use Rattle.log_sum.proofs.Settings.{Weighing}
use Rattle.log_sum.proofs.weighted_terms.Given as goal

abbrev pub invariant-loop-i : goal.invariant-loop-i
invariant-loop-i l = Weighing (int_map_of l.encodings) l.terms l.ts l.i
