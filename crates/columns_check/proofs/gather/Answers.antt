-- `columns_check::gather` meets its contract.
use native.Mathlib.Nat.{zero-add}
use native.Mathlib.Omega.{arith}
use lib.ListN.{length}
use Rattle.log_gather.proofs.Slices.{slice_below}
use Rattle.log_gather.proofs.Steps.{shl_more}
use Rattle.columns_check.proofs.Laws.{gathered_more, gathered_none}
use Rattle.columns_check.proofs.gather.Goals as goal

pub loop-at-init : goal.loop-at-init
loop-at-init c = let e = c.no_columns-cols.ensures in (omega arith, gathered_none c.args.from (e.0, e.1))

pub loop-at-preserved : goal.loop-at-preserved
loop-at-preserved c =
    let l = c.loop-at in
    let r = c.in_ok-r in
    (r.ensures.within, gathered_more (omega (arith, r.ensures.len, c.as_slice.ensures.1)) l.at r.r.end r.ensures.onward l.invariant.1 c.push_scaled.ensures)

pub push_scaled-requires-clause-steps_bound : goal.push_scaled-requires-clause-steps_bound
push_scaled-requires-clause-steps_bound c =
    let q = c.in_ok-r.r in
    let r = c.in_ok-r.ensures in
    let s = c.as_slice in
    let n = length s.result.now in
    let b = shl_more n 12 q.coef (omega (arith, s.ensures.1, r.len)) in
    (omega arith, rw (zero-add n) (omega (arith, r.coef)), slice_below q.bits s.result.now s.ensures.0 r.low)
