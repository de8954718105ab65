-- `log_counts::ColumnCounts::push` meets its contract.
use mathlib.Core.Path.{◌≡◌}
use Prim.Native.Nat.{◌+◌, ◌-◌, ◌<◌}
use lib.ListN.{length}
use Rattle.std.proofs.Common.{arith, rules}
use Rattle.log_counts.proofs.Pushing.{pushing_end, pushing_start, pushing_turn}
use Rattle.log_counts.proofs.ColumnCounts.push.Goals as goal

pub loop-w-init : goal.loop-w-init
loop-w-init c = let e : c.args.from - c.args.from ≡ 0 = omega arith in rw e (pushing_start _ _)

pub overflow_add-counts : goal.overflow_add-counts
overflow_add-counts c =
    let l = c.loop-w in
    let r = l.invariant.few 1000000 c.requires.1.holds.few l.w in
    omega (arith, r, c.requires.0, c.loop-w-test.true)

pub loop-w-preserved : goal.loop-w-preserved
loop-w-preserved c =
    let l = c.loop-w in
    let f = c.args.from in
    let e : f + (l.w - f) ≡ l.w = omega (arith, l.auto.w) in
    let n : l.w + 1 - f ≡ (l.w - f) + 1 = omega (arith, l.auto.w) in
    let w : f + (l.w - f) < length l.counts = omega (arith, l.invariant.long, c.requires.1.holds.long, c.requires.0, c.loop-w-test.true, e) in
    rw n (rw e at (pushing_turn l.invariant w))

pub returns : goal.returns
returns c =
    let l = c.loop-w in
    let e : l.w - c.args.from ≡ c.args.n = search rules in
    pushing_end c.requires.0 (rw e at l.invariant) c.max.ensures
