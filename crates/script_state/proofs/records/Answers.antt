-- `script_state::records` meets its contract.
use Rattle.script_state.proofs.Tables.{filling_none, filling_more, filling_end}
use Rattle.script_state.specs.Job.{record_from, records_from}
use Prim.Native.Nat.{ℕ, ◌+◌, ◌*◌}
use mathlib.Core.Path.{refl}
use Rattle.script_state.proofs.records.Goals as goal

pub loop-i-init : goal.loop-i-init
loop-i-init c = filling_none 32 _ _ refl

pub loop-i-preserved : goal.loop-i-preserved
loop-i-preserved c = let a = c.args in filling_more 32 (λ (k : ℕ). record_from a.nums.now (5 + 16 * k)) _ c.loop-i.invariant c.loop-i-test.true c.record_at.ensures

pub returns : goal.returns
unfolding records_from
returns c = let a = c.args in filling_end 32 (λ (k : ℕ). record_from a.nums.now (5 + 16 * k)) c.loop-i.invariant c.loop-i-test.false
