-- `encoder_env::bounds_hold` meets its contract.
use mathlib.Core.Path.{◌≡◌, ◌∙◌, ap, sym}
use mathlib.Core.Bool.{false, true}
use Prim.Native.Nat.{ℕ}
use lib.Dec.{leb}
use mir.Syntax.{w32}
use mir.Val.{SFits}
use mir.ValLaws.{to_z-of_z}
use Rattle.arithmetic.specs.Offset.{code, offset_of}
use Rattle.encoder_env.specs.WellFormed.{bounds_hold, in_range, lez}
use Rattle.encoder_env.proofs.Tests.{coded, le_no, le_yes}
use Rattle.encoder_env.proofs.bounds_hold.Goals as goal
use Rattle.encoder_env.proofs.bounds_hold.Goals.{After-code, After-in_range, After-in_range-2, After-offset_of, Else-high-low, Else-not-in_range, Else-not-in_range-2}

-- the answers of `in_range`
low-tested : (c : After-in_range) → c.in_range.result ≡ in_range c.args.low
low-tested c = c.in_range.ensures ∙ ap in_range (to_z-of_z w32 c.args.low c.ranges.low)

low-inside : (c : Else-not-in_range) → in_range c.args.low ≡ true
low-inside c =
    let low-tested_it : (c.in_range.result ≡ in_range c.args.low) = (c.in_range.ensures ∙ ap in_range (to_z-of_z w32 c.args.low c.ranges.low)) in
    sym (low-tested_it) ∙ c.if-not-in_range.false

high-tested : (c : After-in_range-2) → c.in_range-2.result ≡ in_range c.args.high
high-tested c = c.in_range-2.ensures ∙ ap in_range (to_z-of_z w32 c.args.high c.ranges.high)

high-inside : (c : Else-not-in_range-2) → in_range c.args.high ≡ true
high-inside c =
    let high-tested_it : (c.in_range-2.result ≡ in_range c.args.high) = (c.in_range-2.ensures ∙ ap in_range (to_z-of_z w32 c.args.high c.ranges.high)) in
    sym (high-tested_it) ∙ c.if-not-in_range-2.false

ordered : (c : Else-high-low) → lez c.args.low c.args.high ≡ true
ordered c = le_yes c.ranges.low c.ranges.high c.if-high-low.false

-- the offset that the code works out
offset-is : (c : After-offset_of) → c.offset_of.result ≡ offset_of c.args.low
offset-is c = c.offset_of.ensures ∙ ap offset_of (to_z-of_z w32 c.args.low c.ranges.low)

-- the code of high
code_is : (c : After-code) → let a = c.args in c.code.result ≡ code (offset_of a.low) a.high
code_is c =
    let offset-is_it : (c.offset_of.result ≡ offset_of c.args.low) = (c.offset_of.ensures ∙ ap offset_of (to_z-of_z w32 c.args.low c.ranges.low)) in
    let o = c.offset_of in
    let g : SFits w32 o.result = record { sfits = o.type_inv } in
    c.code.ensures ∙ rw (to_z-of_z w32 c.args.high c.ranges.high, to_z-of_z w32 o.result g, offset-is_it)

pub returns-then-not-in_range : goal.returns-then-not-in_range
unfolding bounds_hold
returns-then-not-in_range c = rw (← low-tested (goal.at.returns-then-not-in_range c).After-in_range, c.if-not-in_range.true)

pub returns-then-not-in_range-2 : goal.returns-then-not-in_range-2
unfolding bounds_hold
returns-then-not-in_range-2 c = rw (low-inside (goal.at.returns-then-not-in_range-2 c).Else-not-in_range, ← high-tested (goal.at.returns-then-not-in_range-2 c).After-in_range-2, c.if-not-in_range-2.true)

pub returns-then-high-low : goal.returns-then-high-low
unfolding bounds_hold
returns-then-high-low c =
    let n : lez c.args.low c.args.high ≡ false = le_no c.ranges.low c.ranges.high c.if-high-low.true in
    rw (low-inside (goal.at.returns-then-high-low c).Else-not-in_range, high-inside (goal.at.returns-then-high-low c).Else-not-in_range-2, n)

pub code-requires : goal.code-requires
code-requires c =
    let g : SFits w32 c.offset_of.result = record { sfits = c.offset_of.type_inv } in
    let k = coded c.args.low c.args.high (low-inside (goal.at.code-requires c).Else-not-in_range) (high-inside (goal.at.code-requires c).Else-not-in_range-2) (ordered (goal.at.code-requires c).Else-high-low) in
    rw (to_z-of_z w32 c.args.high c.ranges.high, to_z-of_z w32 c.offset_of.result g, offset-is (goal.at.code-requires c).After-offset_of) (k.above, k.high_small, k.offset_small)

pub returns : goal.returns
unfolding bounds_hold
returns c = rw (low-inside (goal.at.returns c).Else-not-in_range, high-inside (goal.at.returns c).Else-not-in_range-2, ordered (goal.at.returns c).Else-high-low) (ap (λ (k : ℕ). leb k 4095) (code_is (goal.at.returns c).After-code))
