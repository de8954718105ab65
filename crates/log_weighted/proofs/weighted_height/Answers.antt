-- `log_weighted::weighted_height` meets its contract.
use mathlib.Core.Path.{◌≡◌, ap, ◌∙◌}
use mathlib.Core.Bool.{false, true}
use Prim.Native.Nat.{max, ℕ}
use mir.Syntax.{w32}
use mir.ValLaws.{to_z-of_z}
use Rattle.arithmetic.specs.Integers.{down, up}
use Rattle.log_encoding.specs.AdderSize.{greatest_height}
use Rattle.log_encoding.specs.LinearSize.{sign_reached}
use Rattle.log_terms.specs.Terms.{shapes_all}
use Rattle.log_weighted.proofs.Operations.{higher_part}
use Rattle.log_weighted.proofs.weighted_height.Goals as goal
use Rattle.log_weighted.proofs.weighted_height.Goals.{After-down-b, After-up-a}

a-is : (c : After-up-a) → c.up-a.result ≡ up c.args.constant
a-is c = c.up-a.ensures ∙ ap up (to_z-of_z w32 c.args.constant c.ranges.constant)

b-is : (c : After-down-b) → c.down-b.result ≡ down c.args.constant
b-is c = c.down-b.ensures ∙ ap down (to_z-of_z w32 c.args.constant c.ranges.constant)

pub returns-in-Ne : goal.returns-in-Ne
returns-in-Ne c =
    let h = shapes_all c.args.ts.now.list.now in
    let p = c.sign_height-positive.ensures ∙ ap (λ (x : ℕ). greatest_height (sign_reached false h x)) (a-is (goal.at.returns-in-Ne c).After-up-a) in
    let m = c.sign_height-negative.ensures ∙ ap (λ (x : ℕ). greatest_height (sign_reached true h x)) (b-is (goal.at.returns-in-Ne c).After-down-b) in
    c.max.ensures ∙ (λ i. max (p i) (m i)) ∙ higher_part h (up c.args.constant) (down c.args.constant) c.in-Ne.is
