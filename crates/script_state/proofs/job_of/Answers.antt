-- `script_state::job_of` meets its contract.
use Rattle.script_state.proofs.Tables.{job_made, unsigned_read}
use Rattle.script_state.proofs.job_of.Goals as goal

pub returns : goal.returns
returns c = job_made c.args.nums.now c.records.ensures
    (unsigned_read _ _ _ c.number_at.ensures c.unwrap_or.ensures) (unsigned_read _ _ _ c.number_at-2.ensures c.unwrap_or-2.ensures)
    (unsigned_read _ _ _ c.number_at-3.ensures c.unwrap_or-3.ensures) (unsigned_read _ _ _ c.number_at-4.ensures c.unwrap_or-4.ensures)
    (unsigned_read _ _ _ c.number_at-5.ensures c.unwrap_or-5.ensures)
