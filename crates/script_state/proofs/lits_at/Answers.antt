-- `script_state::lits_at` meets its contract.
use Rattle.script_state.proofs.Tables.{filling_none, filling_more, filling_end, unsigned_read}
use Rattle.script_state.specs.Job.{lit_from, lits_from}
use Prim.Native.Nat.{ℕ}
use mathlib.Core.Path.{refl, ap}
use Rattle.script_state.proofs.lits_at.Goals as goal

pub loop-i-init : goal.loop-i-init
loop-i-init c = filling_none 12 _ _ refl

pub loop-i-preserved : goal.loop-i-preserved
loop-i-preserved c = let a = c.args in filling_more 12 (lit_from a.nums.now a.at) _ c.loop-i.invariant c.loop-i-test.true (ap (λ (x : ℕ). record { 0 = x }) (unsigned_read _ _ _ c.number_at.ensures c.unwrap_or.ensures))

pub returns : goal.returns
unfolding lits_from
returns c = let a = c.args in filling_end 12 (lit_from a.nums.now a.at) c.loop-i.invariant c.loop-i-test.false
