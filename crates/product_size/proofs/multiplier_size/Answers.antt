-- `product_size::multiplier_size` meets its contract.
use mathlib.Core.List.{List}
use mathlib.Core.Path.{◌∙◌, ◌≡◌, ap, subst, sym}
use native.Mathlib.Omega.{arith}
use borrow.Author.Tests.{le-ltb, lt-ltb}
use Prim.Native.Nat.{ℕ, ◌≤◌}
use lib.ListN.{take}
use Rattle.terms_size.specs.Measured.{reached_by}
use Rattle.log_encoding.specs.AdderSize.{ColumnShape, Reached, greatest_height, input_shapes, reached}
use Rattle.log_encoding.specs.MulSize.{multiplier_reached}
use Rattle.adder_size.specs.Counted.{Counted}
use Rattle.log_counts.proofs.Reached.{padded_length, padded_reached, padded_width, taken_input}
use Rattle.product_size.proofs.Multiplying.{multiplied_fits}
use Rattle.product_size.proofs.multiplier_size.Goals as goal
use Rattle.product_size.proofs.multiplier_size.Goals.{After-max-width}

-- as many columns as the multiplier has
wide : (c : After-max-width) → let k = c.row_counts-c.ensures in (c.max-width.result ≤ 25) × (reached (input_shapes c.max-width.result 0 c.row_counts-c.result.counts 0) 0 ≡ multiplier_reached c.args.x c.args.y c.args.given)
wide c =
    let k = c.row_counts-c.ensures in
    let w = c.max-width.ensures ∙ sym (padded_length k c.args.given) in
    (padded_width k c.args.given c.max-width.result c.requires.2 w, padded_reached k c.args.given c.max-width.result c.requires.2 w)

-- and so have the columns in use
taken : (c : After-max-width) → reached_by (take c.max-width.result c.row_counts-c.result.counts) 0 ≡ multiplier_reached c.args.x c.args.y c.args.given
taken c =
    let w = wide c in
    ap (λ (cs : List ColumnShape). reached cs 0) (taken_input c.max-width.result 0 c.row_counts-c.result.counts (omega (arith, w.0, c.row_counts-c.ensures.long))) ∙ w.1

height_is : (c : After-max-width) (h : ℕ) → h ≡ greatest_height (reached_by (take c.max-width.result c.row_counts-c.result.counts) 0)
    → h ≡ greatest_height (multiplier_reached c.args.x c.args.y c.args.given)
height_is c h e = e ∙ ap greatest_height (taken c)

low_height : (c : After-max-width) (h : ℕ) → h ≡ greatest_height (reached_by (take c.max-width.result c.row_counts-c.result.counts) 0) → h ≤ 12
    → greatest_height (multiplier_reached c.args.x c.args.y c.args.given) ≤ 12
low_height c h e k = omega (arith, height_is c h e)

pub returns-then-greatest_height-gt12 : goal.returns-then-greatest_height-gt12
returns-then-greatest_height-gt12 c =
    let h = height_is (goal.at.returns-then-greatest_height-gt12 c).After-max-width c.greatest_height.result c.greatest_height.ensures in
    lt-ltb 12 (greatest_height (multiplier_reached c.args.x c.args.y c.args.given)) (omega (arith, h, c.if-greatest_height-gt12.true))

pub adder_size-s-requires-clause-constant_value : goal.adder_size-s-requires-clause-constant_value
adder_size-s-requires-clause-constant_value c =
    let at = (goal.at.adder_size-s-requires-clause-constant_value c).After-max-width in
    rw (taken at) (le-ltb 12 _ (low_height at c.greatest_height.result c.greatest_height.ensures c.if-greatest_height-gt12.false))

pub returns : goal.returns
returns c =
    let at = (goal.at.returns c).After-max-width in
    rw c.plus.ensures
    (multiplied_fits c.args.x c.args.y c.args.given c.adder_size-s.result c.saturating_sub.result c.requires.0 c.requires.1
    (low_height at c.greatest_height.result c.greatest_height.ensures c.if-greatest_height-gt12.false)
    (subst (λ (rs : List Reached). Counted rs c.adder_size-s.result) (taken at) c.adder_size-s.ensures) c.saturating_sub.ensures)
