-- `terms_size::comparison_size` meets its contract.
use Prim.Native.Nat.{ℕ}
use borrow.Author.Tests.{le-ltb, lt-ltb}
use mathlib.Core.Bool.{false, true}
use mathlib.Core.List.{List, ◌++◌}
use mathlib.Core.Path.{◌∙◌, ◌≡◌, ap, subst}
use native.Mathlib.Omega.{arith}
use Rattle.log_encoding.specs.AdderSize.{Reached, greatest_height}
use Rattle.log_encoding.specs.LinearSize.{sign_reached}
use Rattle.log_weighted.proofs.Compared.{height_append}
use Rattle.adder_size.specs.Counted.{Counted}
use Rattle.log_counts.specs.Counted.{shapes_of}
use Rattle.terms_size.specs.Measured.{reached_by}
use Rattle.terms_size.proofs.Compares.{comparison_measured}
use Rattle.terms_size.proofs.comparison_size.Goals as goal
use Rattle.terms_size.proofs.comparison_size.Goals.{After-max}

-- the columns of either sign
abbrev positive : After-max → List Reached
positive c = sign_reached false (shapes_of c.args.ts.now.list.now) c.args.a

abbrev negative : After-max → List Reached
negative c = sign_reached true (shapes_of c.args.ts.now.list.now) c.args.b

-- the higher part decides
height-is : (c : After-max) → c.max.result ≡ greatest_height (positive c ++ negative c)
height-is c =
    omega (arith, c.max.ensures, c.sign_columns-p.ensures.height_is, c.sign_columns-m.ensures.height_is, height_append (positive c) (negative c))

pub returns-then-max-gt12 : goal.returns-then-max-gt12
returns-then-max-gt12 c =
    let s = (goal.at.returns-then-max-gt12 c).After-max in
    lt-ltb 12 (greatest_height (positive s ++ negative s)) (omega (arith, height-is s, c.if-max-gt12.true))

pub adder_size-positive-requires-clause-constant_value : goal.adder_size-positive-requires-clause-constant_value
adder_size-positive-requires-clause-constant_value c =
    let p = c.sign_columns-p.ensures in
    let e = ap (λ (hs : List ℕ). reached_by hs c.args.a) c.columns.ensures ∙ p.reach in
    rw e (le-ltb 12 _ (omega (arith, p.height_is, c.max.ensures, c.if-max-gt12.false)))

pub adder_size-negative-requires-clause-constant_value : goal.adder_size-negative-requires-clause-constant_value
adder_size-negative-requires-clause-constant_value c =
    let m = c.sign_columns-m.ensures in
    let e = ap (λ (hs : List ℕ). reached_by hs c.args.b) c.columns-2.ensures ∙ m.reach in
    rw e (le-ltb 12 _ (omega (arith, m.height_is, c.max.ensures, c.if-max-gt12.false)))

pub returns : goal.returns
returns c =
    let x = c.adder_size-positive in
    let y = c.adder_size-negative in
    let p = ap (λ (hs : List ℕ). reached_by hs c.args.a) c.columns.ensures ∙ c.sign_columns-p.ensures.reach in
    let n = ap (λ (hs : List ℕ). reached_by hs c.args.b) c.columns-2.ensures ∙ c.sign_columns-m.ensures.reach in
    comparison_measured (shapes_of c.args.ts.now.list.now) c.args.a c.args.b x.result y.result c.compare_size.result
    (subst (λ (rs : List Reached). Counted rs x.result) p x.ensures) (subst (λ (rs : List Reached). Counted rs y.result) n y.ensures)
    c.args.is_ne (omega (arith, height-is (goal.at.returns c).After-max, c.if-max-gt12.false)) c.compare_size.ensures
