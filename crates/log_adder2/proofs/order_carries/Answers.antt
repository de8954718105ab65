-- `log_adder2::order_carries` meets its contract.
use mathlib.Core.Bool.{false}
use mathlib.Core.Path.{◌≡◌, refl}
use Prim.Native.Nat.{suc, ◌-◌}
use native.Mathlib.Omega.{arith}
use lib.ListN.{length, take}
use lib.Seq.{get_or-take, length-take-le}
use mathlib.Core.List.{List}
use Prim.Native.Nat.{ℕ, ◌<◌}
use Rattle.log_adder2.proofs.EqHeights.{all_reached, tall_from}
use Rattle.log_adder2.proofs.OrderingPass.{ordering_dead, ordering_end, ordering_start, ordering_turn}
use Rattle.log_adder2.proofs.order_carries.Goals as goal
use Rattle.log_adder2.proofs.order_carries.Goals.{Start}

-- the heights, as the laws of the pass ask for them
fits : (s : Start) → tall_from s.args.counts.now (suc (length s.args.counts.now - 1)) 0 s.args.x s.args.y 0 ≡ false
fits s = all_reached s.args.counts.now s.args.x s.args.y s.requires.width.0 s.requires.y_value

-- all but the last
long : (counts : List ℕ) → length (take (length counts - 1) counts) ≡ length counts - 1
long counts = length-take-le (length counts - 1) counts (omega arith)

pub loop-count-init : goal.loop-count-init
loop-count-init c =
    let r = c.requires in
    ordering_start c.args.counts.now (length c.args.counts.now - 1) c.args.set.now c.args.x c.args.y (fits (goal.at.loop-count-init c).Start) r.width.2 r.width.3 r.vars_bound.0

pub returns-then-odd-height : goal.returns-then-odd-height
returns-then-odd-height c =
    let l = c.loop-count in
    let n = length c.args.counts.now - 1 in
    let h : l.count-index < n = omega (arith, long c.args.counts.now, c.loop-count-test.true) in
    ordering_dead l.invariant refl c.requires.width.1 (fits (goal.at.returns-then-odd-height c).Start) h _ (get_or-take n c.args.counts.now l.count-index 0 h) c.if-odd-height.true

pub loop-count-preserved : goal.loop-count-preserved
loop-count-preserved c =
    let l = c.loop-count in
    let n = length c.args.counts.now - 1 in
    let h : l.count-index < n = omega (arith, long c.args.counts.now, c.loop-count-test.true) in
    let w = c.push_ordering.ensures in
    ordering_turn _ _ l.invariant h _ (get_or-take n c.args.counts.now l.count-index 0 h) c.if-odd-height.false _
    record { same_lits = w.same_lits; same_ends = w.same_ends; same_base = w.same_base; vars_are = w.vars_are; stores_are = w.stores_are }

pub returns : goal.returns
returns c = ordering_end c.loop-count.invariant refl c.requires.width.1 (fits (goal.at.returns c).Start) (omega (arith, long c.args.counts.now, c.loop-count-test.false))
