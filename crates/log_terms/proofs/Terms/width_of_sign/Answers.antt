-- `log_terms::Terms::width_of_sign` meets its contract.
use mathlib.Core.Path.{◌≡◌, ◌∙◌, ap, refl, sym}
use mathlib.Core.Bool.{beq, cond}
use mathlib.Core.List.{List, [], ◌∷◌, map}
use Prim.Native.Nat.{ℕ}
use native.Mathlib.Omega.{arith}
use lib.ListN.{get_or, length}
use Rattle.log_encoding.specs.Gather.{push_scaled}
use Rattle.log_gather.specs.Arrays.{widths}
use Rattle.log_linear.specs.Added.{bits_of}
use Rattle.log_encoding.specs.Linear.{Weighted, gather_sign}
use Rattle.log_terms.specs.Terms.{no_term, weighted_of}
use Rattle.log_terms.proofs.Gathering.{terms_next, terms_none, sign_length, term_long, width_end, width_start, width_turn}
use Rattle.log_terms.proofs.Terms.width_of_sign.Goals as goal

pub loop-t-init : goal.loop-t-init
loop-t-init c = (width_start (gather_sign c.args.sign) (map weighted_of c.args.self.now.list.now) ([] ∷ []), omega arith)

pub loop-t-preserved : goal.loop-t-preserved
loop-t-preserved c =
    let l = c.loop-t in
    let k = c.loop-t-test.true in
    let t = get_or c.args.self.now.list.now l.t-index no_term in
    let n : length (bits_of t.bits) ≡ t.bits.len = term_long t (c.args.self.now.fits.fits l.t-index k) in (
      width_turn l.invariant.0 (λ g. cond (beq c.args.sign t.negative) (push_scaled 12 t.coef 0 (bits_of t.bits) g) g) _
          (ap (λ (ps : List Weighted). gather_sign c.args.sign ps l.invariant.0.left.grid) (terms_next c.args.self.now.list.now l.t-index k))
          (c.width_with_term-w.ensures.0 ∙ ap (λ (x : ℕ). cond (beq c.args.sign t.negative) (widths 12 t.coef 0 t.bits.len x) x) l.invariant.0.long
          ∙ sym (rw n at (sign_length c.args.sign (weighted_of t) l.invariant.0.left.grid))),
      c.width_with_term-w.ensures.1,
    )

pub returns : goal.returns
returns c = let l = c.loop-t in (width_end l.invariant.0 (λ g. refl) (terms_none c.args.self.now.list.now l.t-index c.loop-t-test.false), l.invariant.1)
