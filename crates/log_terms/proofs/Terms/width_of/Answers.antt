-- `log_terms::Terms::width_of` meets its contract.
use mathlib.Core.Path.{◌≡◌, ◌∙◌, ap, refl, sym}
use mathlib.Core.List.{List, [], map}
use Prim.Native.Nat.{ℕ}
use native.Mathlib.Omega.{arith}
use lib.ListN.{get_or, length}
use Rattle.log_encoding.specs.Linear.{Weighted, gather, positive_lits, push_scaled_some}
use Rattle.log_terms.specs.Terms.{no_term, some_width, weighted_of}
use Rattle.log_encoding.proofs.LinearSize.{length_positive}
use Rattle.log_terms.proofs.Gathering.{terms_next, terms_none, some_length, term_long, width_end, width_start, width_turn}
use Rattle.log_terms.proofs.Terms.width_of.Goals as goal

pub loop-t-init : goal.loop-t-init
loop-t-init c = (width_start gather (map weighted_of c.args.self.now.list.now) [], omega arith)

pub loop-t-preserved : goal.loop-t-preserved
loop-t-preserved c =
    let l = c.loop-t in
    let k = c.loop-t-test.true in
    let t = get_or c.args.self.now.list.now l.t-index no_term in
    let n : length (positive_lits (weighted_of t)) ≡ t.bits.len = length_positive (weighted_of t) ∙ term_long t (c.args.self.now.fits.fits l.t-index k) in (
      width_turn l.invariant.0 (push_scaled_some t.coef (positive_lits (weighted_of t))) _
          (ap (λ (ps : List Weighted). gather ps l.invariant.0.left.grid) (terms_next c.args.self.now.list.now l.t-index k))
          (c.width_with_eq_term-w.ensures.0 ∙ ap (some_width t.coef t.bits.len) l.invariant.0.long
          ∙ ap (λ (x : ℕ). some_width t.coef x (length l.invariant.0.left.grid)) (sym n)
          ∙ sym (some_length t.coef (positive_lits (weighted_of t)) l.invariant.0.left.grid)),
      c.width_with_eq_term-w.ensures.1,
    )

pub returns : goal.returns
returns c = let l = c.loop-t in (width_end l.invariant.0 (λ g. refl) (terms_none c.args.self.now.list.now l.t-index c.loop-t-test.false), l.invariant.1)
