-- `sum_size::term_shapes` meets its contract.
use Rattle.log_var.specs.Settings.{shape_map_of}
use Rattle.sum_size.proofs.Shaping.{Shaping}
use Rattle.sum_size.proofs.term_shapes.Given as goal

abbrev pub invariant-loop-i : goal.invariant-loop-i
invariant-loop-i l = Shaping (shape_map_of l.encodings) l.terms l.ts l.i
