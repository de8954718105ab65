-- `job_values::put_program_values` meets its contract.
use Rattle.job_values.specs.Values.{program_values}
use Rattle.job_values.proofs.put_program_values.Goals as goal

pub returns : goal.returns
unfolding program_values
returns c = c.put_file_values.ensures
