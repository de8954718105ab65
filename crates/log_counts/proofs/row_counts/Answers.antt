-- `log_counts::row_counts` meets its contract.
use mathlib.Core.List.{[]}
use native.Mathlib.Nat.{sub-zero}
use native.Mathlib.Omega.{arith}
use Rattle.log_encoding.specs.AdderSize.{push_counts}
use Rattle.log_counts.proofs.Growing.{growing_counted, growing_end, growing_start, growing_turn, none_counted}
use Rattle.log_counts.proofs.Steps.{rows_end, rows_step}
use Rattle.log_counts.proofs.row_counts.Goals as goal

pub loop-i-init : goal.loop-i-init
loop-i-init c = growing_start _ _ _ (λ hs. rw (sub-zero c.args.x))

pub push-c-requires : goal.push-c-requires
push-c-requires c =
    let l = c.loop-i in
    (omega (arith, c.loop-i-test.true, c.requires), growing_counted l.invariant {m = 0} (record { list = []; holds = rw c.none-c.ensures (none_counted 0 (omega arith)) }) (omega (arith, c.requires.0)))

pub loop-i-preserved : goal.loop-i-preserved
loop-i-preserved c =
    let l = c.loop-i in
    let h = c.loop-i-test.true in
    growing_turn l.invariant (push_counts l.i c.args.y) _ _ (λ hs. rows_step c.args.x c.args.y l.i hs h) (omega arith) c.push-c.ensures

pub returns : goal.returns
returns c =
    let l = c.loop-i in
    (growing_end l.invariant {n = 10000} (λ hs. rows_end c.args.x c.args.y l.i hs c.loop-i-test.false) (omega (arith, c.requires.0))
    ).holds 0 [] (rw c.none-c.ensures (none_counted 0 (omega arith)))
