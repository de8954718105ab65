-- `log_gather::no_columns` meets its contract.
use Rattle.log_gather.proofs.Pushing.{nothing_held}
use Rattle.log_gather.proofs.no_columns.Goals as goal

pub returns : goal.returns
returns c = nothing_held
