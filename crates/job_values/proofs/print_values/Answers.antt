-- `job_values::print_values` meets its contract.
use mathlib.Core.Path.{refl}
use Rattle.job_values.specs.Values.{Told}
use Rattle.job_values.proofs.print_values.Goals as goal

pub returns-then-answer-gt1048576 : goal.returns-then-answer-gt1048576
unfolding Told
returns-then-answer-gt1048576 c = (c.if-answer-gt1048576.true, refl)

pub returns : goal.returns
unfolding Told
returns c = (c.if-answer-gt1048576.false, c.put_program_values.ensures)
