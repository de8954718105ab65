-- `script_state::record_at` meets its contract.
use Rattle.script_state.proofs.Tables.{record_made, signed_read, unsigned_read}
use Rattle.script_state.proofs.record_at.Goals as goal

pub returns : goal.returns
returns c =
    record_made c.args.nums.now c.args.at c.lits_at.ensures (unsigned_read _ _ _ c.number_at.ensures c.unwrap_or.ensures)
    (signed_read _ _ _ c.number_at-2.ensures c.unwrap_or-2.ensures c.unwrap_or-2.type_inv)
    (signed_read _ _ _ c.number_at-3.ensures c.unwrap_or-3.ensures c.unwrap_or-3.type_inv)
    (signed_read _ _ _ c.number_at-4.ensures c.unwrap_or-4.ensures c.unwrap_or-4.type_inv)
