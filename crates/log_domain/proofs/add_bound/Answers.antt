-- `log_domain::add_bound` meets its contract.
use mathlib.Core.Path.{refl, ◌∙◌}
use native.Mathlib.Omega.{arith}
use Rattle.clause_set.proofs.Writing.{left_as, left_end, left_fits, left_start, left_turn, wrote_as}
use Rattle.log_domain.proofs.Steps.{bound_end, bound_passed, bound_start, bound_taken}
use Rattle.log_domain.proofs.add_bound.Goals as goal
use Rattle.log_domain.proofs.add_bound.Goals.{then-x-lower, else-x-lower}

pub loop-i-init : goal.loop-i-init
loop-i-init c =
    let a = c.args in
    (left_as (left_start a.set.now _ c.requires.fits) (bound_start a.lower a.n a.first.0 a.k), refl, c.requires.n_bound.1)

pub add_against-requires : goal.add_against-requires
add_against-requires c =
    let a = c.args in
    let l = c.loop-i in
    let turn = bound_taken a.lower a.n a.first.0 l.i l.x c.loop-i-test.true c.if-x-lower.true in
    record { n_bound = omega arith; fits = left_fits _ _ (left_as l.invariant.0 turn) }

pub loop-i-preserved : goal.loop-i-preserved
loop-i-preserved c =
    let a = c.args in
    let l = c.loop-i in
    elim c.if-x-lower.branch [
      | then-x-lower w ↦
          let turn = bound_taken a.lower a.n a.first.0 l.i l.x c.loop-i-test.true w.if-x-lower.true in
          let added = w.add_against.ensures in
          rw w.set-is (left_turn _ _ (left_as l.invariant.0 turn) added, added.vars_are ∙ l.invariant.1, omega arith)
      | else-x-lower w ↦
          let turn = bound_passed a.lower a.n a.first.0 l.i l.x c.loop-i-test.true w.if-x-lower.false in
          rw w.set-is (left_as l.invariant.0 turn, l.invariant.1, omega arith)
    ]

pub returns : goal.returns
returns c =
    let a = c.args in
    let l = c.loop-i in
    wrote_as (left_end (left_as l.invariant.0 (bound_end a.lower a.n a.first.0 l.i l.x c.loop-i-test.false))) l.invariant.1 refl
