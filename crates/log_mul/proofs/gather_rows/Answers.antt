-- `log_mul::gather_rows` meets its contract.
use Prim.Native.Nat.{◌+◌}
use mathlib.Core.Path.{◌∙◌}
use native.Mathlib.Omega.{arith}
use lib.ListN.{length}
use Rattle.log_gather.proofs.Slices.{slice_below}
use Rattle.log_gather.proofs.Steps.{shl_more}
use Rattle.log_mul.proofs.RowColumns.{gathering_turn}
use Rattle.log_mul.proofs.gather_rows.Goals as goal

pub push_scaled-requires-clause-steps_bound : goal.push_scaled-requires-clause-steps_bound
push_scaled-requires-clause-steps_bound c =
    let h = c.consecutive-row.ensures in
    let s = c.as_slice in
    let n = length s.result.now in
    let reach = shl_more (c.loop-i.i + n) 24 1 (omega (arith, c.loop-i-test.true, c.requires, s.ensures.1, h.1)) in
    (omega arith, omega (arith, reach), slice_below c.consecutive-row.result s.result.now s.ensures.0 h.2)

pub loop-i-preserved : goal.loop-i-preserved
loop-i-preserved c =
    let h = c.consecutive-row.ensures in
    let s = c.as_slice.ensures in
    gathering_turn c.args.x c.args.y c.args.vars c.loop-i.invariant c.loop-i-test.true _ _ _ (s.0 ∙ h.0) (s.1 ∙ h.1) c.push_scaled.ensures
