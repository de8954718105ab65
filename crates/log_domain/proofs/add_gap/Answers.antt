-- `log_domain::add_gap` meets its contract.
use mathlib.Core.Path.{refl, ◌∙◌}
use Prim.Native.Nat.{◌+◌}
use Rattle.sat.specs.Fresh.{fresh}
use Rattle.clause_set.proofs.Writing.{left_as, left_end, left_fits, left_start, left_turn, wrote_as}
use Rattle.log_domain.proofs.Steps.{gap_end, gap_start, gap_step}
use Rattle.log_domain.proofs.add_gap.Goals as goal

pub loop-x-init : goal.loop-x-init
loop-x-init c =
    let a = c.args in
    (left_as (left_start a.set.now _ c.requires.fits) (gap_start (fresh a.n a.first.0) a.k a.many), refl)

pub add_against-requires : goal.add_against-requires
add_against-requires c =
    let a = c.args in
    let l = c.loop-x in
    record { n_bound = c.requires.n_bound.0; fits = left_fits _ _ (left_as l.invariant.0 (gap_step (fresh a.n a.first.0) l.x (a.k + a.many) c.loop-x-test.true)) }

pub loop-x-preserved : goal.loop-x-preserved
loop-x-preserved c =
    let a = c.args in
    let l = c.loop-x in
    let added = c.add_against.ensures in
    (left_turn _ _ (left_as l.invariant.0 (gap_step (fresh a.n a.first.0) l.x (a.k + a.many) c.loop-x-test.true)) added, added.vars_are ∙ l.invariant.1)

pub returns : goal.returns
returns c =
    let a = c.args in
    let l = c.loop-x in
    wrote_as (left_end (left_as l.invariant.0 (gap_end (fresh a.n a.first.0) l.x (a.k + a.many) c.loop-x-test.false))) l.invariant.1 refl
