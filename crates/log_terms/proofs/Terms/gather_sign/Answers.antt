-- `log_terms::Terms::gather_sign` meets its contract.
use mathlib.Core.Path.{ap, refl, ◌∙◌}
use mathlib.Core.Bool.{beq, cond}
use mathlib.Core.List.{List}
use Prim.Native.Nat.{ℕ}
use native.Mathlib.Omega.{arith}
use lib.ListN.{get_or}
use Rattle.log_encoding.specs.Gather.{Grid, push_scaled}
use Rattle.log_gather.specs.Arrays.{Pushed}
use Rattle.log_linear.specs.Added.{bits_of}
use Rattle.log_encoding.specs.Linear.{Weighted, gather_sign}
use Rattle.log_terms.specs.Terms.{no_term}
use Rattle.log_gather.proofs.Pushing.{pushed_nothing}
use Rattle.log_terms.proofs.Gathering.{all_low, empty_column, enough, pushed_as, terms_next, terms_none, gathering_few, gathering_end, gathering_start, gathering_turn, may_push, term_small}
use Rattle.log_terms.proofs.Terms.gather_sign.Goals as goal
use Rattle.log_terms.proofs.Terms.gather_sign.Goals.{then-sign-t, else-sign-t}

pub loop-t-init : goal.loop-t-init
loop-t-init c =
    let e = c.no_columns-cols.ensures in
    gathering_start e.0 e.1 (empty_column e.0 e.2)

pub as_slice-requires : goal.as_slice-requires
as_slice-requires c = (c.args.self.now.fits.fits c.loop-t.t-index c.loop-t-test.true).len

pub push_scaled-requires-clause-steps_bound : goal.push_scaled-requires-clause-steps_bound
push_scaled-requires-clause-steps_bound c =
    let t = get_or c.args.self.now.list.now c.loop-t.t-index no_term in
    let fits = c.args.self.now.fits.fits c.loop-t.t-index c.loop-t-test.true in
    let s = c.as_slice.ensures in
    let ls = c.as_slice.result.now in
    may_push t fits c.args.self.now.fits.steps_fit ls s.1 (all_low ls (term_small t fits ls s.0))

pub push_scaled-requires-clause-arrays : goal.push_scaled-requires-clause-arrays
push_scaled-requires-clause-arrays c = let g = c.loop-t.invariant in (g.arrays, gathering_few g (omega (arith, c.args.self.now.fits.few, c.loop-t-test.true)))

pub loop-t-preserved : goal.loop-t-preserved
loop-t-preserved c =
    let l = c.loop-t in
    let f = c.args.self.now.fits in
    let go = c.loop-t-test.true in
    let t = get_or c.args.self.now.list.now l.t-index no_term in
    let fits = f.fits l.t-index go in
    let step : Grid → Grid = λ g. cond (beq c.args.sign t.negative) (push_scaled 12 t.coef 0 (bits_of t.bits) g) g in
    let pushed : Pushed 384 l.cols step c.if-sign-t.cols =
    elim c.if-sign-t.branch [
      | then-sign-t v ↦
          let s = v.as_slice.ensures in
          rw v.cols-is
          (pushed_as t fits f.steps_fit s.1 _ step
          (λ g. ap (λ (ls : List ℕ). push_scaled c.args.self.now.steps t.coef 0 ls g) s.0 ∙ rw v.if-sign-t.true (enough t fits f.steps_fit (bits_of t.bits) g)) v.push_scaled.ensures)
      | else-sign-t v ↦ rw v.cols-is (pushed_nothing 384 step (λ g. rw v.if-sign-t.false) l.invariant.arrays)
    ] in
    let e = terms_next c.args.self.now.list.now l.t-index go in
    gathering_turn l.invariant step (ap (λ (ps : List Weighted). gather_sign c.args.sign ps l.invariant.left.grid) e) pushed

pub returns : goal.returns
returns c =
    let l = c.loop-t in
    gathering_end l.invariant (omega (arith, l.auto.t-index-end, c.args.self.now.fits.few)) (λ g. refl) (terms_none c.args.self.now.list.now l.t-index c.loop-t-test.false)
