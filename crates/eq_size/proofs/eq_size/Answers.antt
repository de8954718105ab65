-- `eq_size::eq_size` meets its contract.
use native.Mathlib.Omega.{arith}
use Rattle.eq_size.proofs.Columns.{columns_dead, columns_start, columns_turn, others_at}
use Rattle.eq_size.proofs.eq_size.Goals as goal

pub loop-own-init : goal.loop-own-init
loop-own-init c =
    let a = c.args in
    rw c.start-s.ensures (columns_start a.counts.now a.x a.y (omega (arith, c.in-Some.ensures.cases.1)) c.requires.width_bound.1 c.requires.width_bound.2 c.requires.y_value)

pub returns-then-own-s : goal.returns-then-own-s
returns-then-own-s c =
    let a = c.args in
    let l = c.loop-own in
    let s = c.in-Some.ensures.cases in
    let o = others_at _ _ _ s.0 l.own-index c.loop-own-test.true in
    columns_dead a.counts.now a.x a.y l.invariant c.dead_end.result c.requires.width_bound.0 (omega (arith, s.1, c.loop-own-test.true)) (rw o c.if-own-s.true) c.dead_end.ensures

pub loop-own-preserved : goal.loop-own-preserved
loop-own-preserved c =
    let a = c.args in
    let l = c.loop-own in
    let s = c.in-Some.ensures.cases in
    let o = others_at _ _ _ s.0 l.own-index c.loop-own-test.true in
    columns_turn a.counts.now a.x a.y l.invariant c.next_column-s.result (omega (arith, s.1, c.loop-own-test.true)) (rw o c.if-own-s.false) (rw o c.next_column-s.ensures)
