-- `terms_size::equation_size` meets its contract.
use Prim.Native.Nat.{◌+◌, ℕ}
use borrow.Author.Tests.{lt-ltb}
use mathlib.Core.Path.{◌∙◌, ◌≡◌, ap}
use native.Mathlib.Omega.{arith}
use Rattle.norm_csp.specs.NormOp.{eq}
use Rattle.log_encoding.specs.AdderSize.{eq_reached, greatest_height}
use Rattle.log_encoding.specs.LinearSize.{linear_reached}
use Rattle.log_counts.specs.Counted.{shapes_of}
use Rattle.log_counts.proofs.Reached.{taken}
use Rattle.terms_size.proofs.Equates.{eq_reaches, equation_measured}
use Rattle.terms_size.proofs.equation_size.Goals as goal
use Rattle.terms_size.proofs.equation_size.Goals.{After-eq_greatest_height}

-- the columns reached
reaches : (c : After-eq_greatest_height)
    → eq_reached c.columns-columns.result.now c.saturating_sub-x.result c.saturating_sub-y.result 0 ≡ linear_reached eq (shapes_of c.args.ts.now.list.now) c.args.a c.args.b
reaches c =
    eq_reaches (shapes_of c.args.ts.now.list.now) c.args.a c.args.b _ c.saturating_sub-x.result c.saturating_sub-y.result _
    (c.columns-columns.ensures ∙ taken c.eq_counts-counts.ensures) (ap (λ (n : ℕ). c.args.b + n) c.negated_bits.ensures.0) c.saturating_sub-x.ensures c.saturating_sub-y.ensures

height-is : (c : After-eq_greatest_height) → c.eq_greatest_height.result ≡ greatest_height (linear_reached eq (shapes_of c.args.ts.now.list.now) c.args.a c.args.b)
height-is c = c.eq_greatest_height.ensures ∙ ap greatest_height (reaches c)

pub returns-else-eq_greatest_height-le12 : goal.returns-else-eq_greatest_height-le12
returns-else-eq_greatest_height-le12 c =
    lt-ltb 12 (greatest_height (linear_reached eq (shapes_of c.args.ts.now.list.now) c.args.a c.args.b)) (omega (arith, height-is (goal.at.returns-else-eq_greatest_height-le12 c).After-eq_greatest_height, c.if-eq_greatest_height-le12.false))

pub returns-then-eq_greatest_height-le12 : goal.returns-then-eq_greatest_height-le12
returns-then-eq_greatest_height-le12 c =
    equation_measured (shapes_of c.args.ts.now.list.now) c.args.a c.args.b _ c.saturating_sub-x.result c.saturating_sub-y.result _
    (c.columns-columns.ensures ∙ taken c.eq_counts-counts.ensures) (ap (λ (n : ℕ). c.args.b + n) c.negated_bits.ensures.0) c.saturating_sub-x.ensures c.saturating_sub-y.ensures
    c.eq_size.result (omega (arith, height-is (goal.at.returns-then-eq_greatest_height-le12 c).After-eq_greatest_height, c.if-eq_greatest_height-le12.true)) c.eq_size.ensures
