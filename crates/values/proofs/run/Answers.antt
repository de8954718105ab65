-- What is printed stands in the buffer.
use lib.ListN.{length-take}
use native.Mathlib.Omega.{arith}
use Rattle.job_values.proofs.Printing.{text_within}
use Rattle.values.proofs.run.Goals as goal

pub slice_bounds-out-end : goal.slice_bounds-out-end
slice_bounds-out-end g c = text_within _ _ _ _ _ _ c.in-Ok-print_program_values.is c.print_program_values.ensures

pub slice_bounds-write_all-end : goal.slice_bounds-write_all-end
slice_bounds-write_all-end g c =
    grind (arith, length-take, text_within _ _ _ _ _ _ c.in-Ok-print_program_values.is c.print_program_values.ensures)
