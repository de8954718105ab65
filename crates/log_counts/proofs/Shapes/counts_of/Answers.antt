-- `log_counts::Shapes::counts_of` meets its contract.
use mathlib.Core.List.{List}
use mathlib.Core.Path.{◌∙◌, sym}
use Prim.Native.Nat.{ℕ}
use native.Mathlib.Omega.{arith}
use lib.ListN.{get_or, replicate}
use Rattle.log_encoding.specs.AdderSize.{push_scaled_counts}
use Rattle.log_counts.specs.Counted.{no_shape}
use Rattle.log_counts.proofs.Growing.{counted_more, counted_same, grown_else, grown_where, none_counted}
use Rattle.log_counts.proofs.Terms.{terms_end, terms_start, terms_turn}
use Rattle.log_counts.proofs.Shapes.counts_of.Goals as goal
use Rattle.log_counts.proofs.Shapes.counts_of.Goals.{then-chosen, else-chosen}

pub loop-t-init : goal.loop-t-init
loop-t-init g c =
    let n = none_counted c.args.width c.requires.width_bound in
    (rw c.none-c.ensures (record { list = replicate c.args.width 0; holds = n }), λ rule tells. terms_start _ _ _)

pub push_scaled-c-requires : goal.push_scaled-c-requires
push_scaled-c-requires g c =
    let l = c.loop-t in
    ((c.args.self.now.fits.fits l.t-index c.loop-t-test.true).reach, counted_same l.invariant.0 (omega (arith, c.args.self.now.fits.few, c.loop-t-test.true)))

pub loop-t-preserved : goal.loop-t-preserved
loop-t-preserved g c =
    let l = c.loop-t in
    let h = c.loop-t-test.true in
    let t = get_or c.args.self.now.list.now l.t-index no_shape in
    let f : List ℕ → List ℕ = push_scaled_counts 12 t.coef 0 t.bits in (
      elim c.if-chosen.branch [
        | then-chosen v ↦ rw v.c-is (counted_more l.invariant.0 v.push_scaled-c.ensures (omega arith))
        | else-chosen v ↦ rw v.c-is (counted_same l.invariant.0 (omega arith))
      ],
      λ rule tells.
          let e = tells t c.chosen.result c.chosen.ensures in
          terms_turn (l.invariant.1 rule tells) h c.if-chosen.c
          (elim c.if-chosen.branch [
            | then-chosen v ↦ rw v.c-is (grown_where f (sym e ∙ v.if-chosen.true) v.push_scaled-c.ensures)
            | else-chosen v ↦ rw v.c-is (grown_else 300 f (sym e ∙ v.if-chosen.false))
          ]),
    )

pub returns : goal.returns
returns g c =
    let l = c.loop-t in
    λ rule tells.
    terms_end (l.invariant.1 rule tells) c.args.self.now.fits.few c.loop-t-test.false (replicate c.args.width 0) (rw c.none-c.ensures (none_counted c.args.width c.requires.width_bound))
