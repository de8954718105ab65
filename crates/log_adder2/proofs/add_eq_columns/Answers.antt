-- `log_adder2::add_eq_columns` meets its contract.
use mathlib.Core.Path.{◌≡◌}
use native.Mathlib.Omega.{arith}
use Rattle.log_adder2.proofs.ColumnsPass.{columns_end, columns_fit, columns_start, columns_turn, last_ready}
use Rattle.log_adder2.proofs.EqHeights.{all_fit}
use Rattle.log_adder2.proofs.add_eq_columns.Goals as goal
use Rattle.log_adder2.proofs.add_eq_columns.Goals.{After-own-2}

pub loop-i-init : goal.loop-i-init
loop-i-init c =
    let f = c.requires.eq_fits in
    let g = c.args.g in
    let counts = c.args.cols.now.counts in
    rw c.requires.last.0
    (columns_start c.args.cols.now.lits counts c.args.set.now g c.args.carry (all_fit counts g.width g.x g.y f.some c.requires.last.1 c.requires.y_value)
    c.requires.carry_value f.x f.y f.vars)

pub loop-i-preserved : goal.loop-i-preserved
loop-i-preserved c =
    let f = c.requires.eq_fits in
    rw c.add_next_column-s.ensures.state
    (columns_turn _ _ _ _ c.loop-i.invariant (omega (arith, c.requires.last.0, f.some, f.width)) f.own _ c.own.ensures c.loop-i-test.true c.add_next_column-s.ensures.added)

pub add_next_column-s-requires-clause-alive : goal.add_next_column-s-requires-clause-alive
add_next_column-s-requires-clause-alive c = omega (arith, c.own.ensures.1, columns_fit _ _ _ _ c.loop-i.invariant c.loop-i-test.true)

-- the loop ends before the last column
at_last : (c : After-own-2) → c.loop-i.i ≡ c.args.last
at_last c = omega (arith, c.loop-i.invariant.within, c.loop-i-test.false)

pub add_last_column-requires-clause-ready : goal.add_last_column-requires-clause-ready
add_last_column-requires-clause-ready c =
    let f = c.requires.eq_fits in
    last_ready _ _ _ _ c.loop-i.invariant (omega (arith, c.requires.last.0, f.some, f.width)) f.own _ (rw (at_last c) c.own-2.ensures) c.loop-i-test.false

pub returns : goal.returns
returns c =
    let f = c.requires.eq_fits in
    let e = at_last (goal.at.returns c).After-own-2 in
    rw (← c.requires.last.0)
    (columns_end _ _ _ _ c.loop-i.invariant (omega (arith, c.requires.last.0, f.some, f.width)) f.own _ (rw e c.own-2.ensures) c.loop-i-test.false c.add_last_column.ensures)
