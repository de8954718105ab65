-- `script_state::is_signed_place` meets its contract.
use Rattle.script_state.proofs.Tables.{place_count, place_record}
use Rattle.script_state.proofs.is_signed_place.Goals as goal

pub returns-then-i-ge5 : goal.returns-then-i-ge5
returns-then-i-ge5 c = place_record _ c.if-i-ge5.true

pub returns-else-i-ge5 : goal.returns-else-i-ge5
returns-else-i-ge5 c = place_count _ c.if-i-ge5.false
