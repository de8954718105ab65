-- `log_terms::Terms::gather` meets its contract.
use mathlib.Core.Path.{ap, refl}
use mathlib.Core.List.{List}
use native.Mathlib.Omega.{arith}
use lib.ListN.{get_or}
use Rattle.log_encoding.specs.Linear.{Weighted, gather, positive_lits, push_scaled_some}
use Rattle.log_terms.specs.Terms.{no_term, weighted_of}
use Rattle.log_terms.proofs.Gathering.{gathering_end, gathering_few, gathering_start, gathering_turn, terms_next, terms_none}
use Rattle.log_terms.proofs.Terms.gather.Goals as goal

pub loop-t-init : goal.loop-t-init
loop-t-init c =
    let e = c.no_columns-cols.ensures in
    gathering_start e.0 e.1 e.2

pub push_eq_term-requires-clause-arrays : goal.push_eq_term-requires-clause-arrays
push_eq_term-requires-clause-arrays c = let g = c.loop-t.invariant in (g.arrays, gathering_few g (omega (arith, c.args.self.now.fits.few, c.loop-t-test.true)))

pub push_eq_term-requires-clause-steps_bound : goal.push_eq_term-requires-clause-steps_bound
push_eq_term-requires-clause-steps_bound c = (c.args.self.now.fits.steps_fit, c.args.self.now.fits.fits c.loop-t.t-index c.loop-t-test.true)

pub loop-t-preserved : goal.loop-t-preserved
loop-t-preserved c =
    let l = c.loop-t in
    let t = get_or c.args.self.now.list.now l.t-index no_term in
    gathering_turn l.invariant (push_scaled_some t.coef (positive_lits (weighted_of t)))
    (ap (λ (ps : List Weighted). gather ps l.invariant.left.grid) (terms_next c.args.self.now.list.now l.t-index c.loop-t-test.true)) c.push_eq_term.ensures

pub returns : goal.returns
returns c =
    let l = c.loop-t in
    gathering_end l.invariant (omega (arith, l.auto.t-index-end, c.args.self.now.fits.few)) (λ g. refl) (terms_none c.args.self.now.list.now l.t-index c.loop-t-test.false)
