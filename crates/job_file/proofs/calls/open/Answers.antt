-- `job_file::calls::open` meets its contract.
use Rattle.job_file.specs.Calls.{switches_in}
use Rattle.job_file.proofs.calls.open.Goals as goal

pub returns : goal.returns
unfolding switches_in
returns c = rw (← c.from-switches.ensures) c.«open».ensures
