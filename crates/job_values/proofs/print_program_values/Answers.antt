-- `job_values::print_program_values` meets its contract.
use native.Mathlib.Omega.{arith}
use mathlib.Core.Path.{refl}
use lib.Seq.{length-take-le}
use Rattle.job_values.specs.Values.{Told}
use Rattle.job_values.proofs.print_program_values.Goals as goal

pub returns-then-m-gt1048576 : goal.returns-then-m-gt1048576
unfolding Told
returns-then-m-gt1048576 c = (rw (length-take-le _ _ c.requires.answer_read) (omega (arith, c.if-m-gt1048576.true)), refl)

pub returns : goal.returns
unfolding Told
returns c = (rw (length-take-le _ _ c.requires.answer_read) (omega (arith, c.if-m-gt1048576.false)), c.put_program_values.ensures)
