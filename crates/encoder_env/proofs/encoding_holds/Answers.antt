-- `encoder_env::encoding_holds` meets its contract.
use borrow.Author.Rules.{rules}
use borrow.Author.Tests.{eq-eqb, ne_eqb}
use mathlib.Core.Path.{◌≡◌, ◌∙◌, ap, sym}
use mathlib.Core.Bool.{true}
use mir.Syntax.{w32}
use mir.Val.{SFits}
use mir.ValLaws.{to_z-of_z}
use Rattle.arithmetic.specs.Bits.{bit_length}
use Rattle.arithmetic.specs.Offset.{code, offset_of}
use Rattle.encoder_env.specs.WellFormed.{bounds_hold, encoding_holds, eqz}
use Rattle.encoder_env.proofs.Tests.{bounds_coded, eq_no, eq_yes}
use Rattle.encoder_env.proofs.encoding_holds.Goals as goal
use Rattle.encoder_env.proofs.encoding_holds.Goals.{After-bit_length, After-bounds_hold, After-offset_of-offset, Else-e-offset, Else-not-bounds_hold}

-- the answer of `bounds_hold`
bounds : (c : After-bounds_hold) → let e = c.args.e in c.bounds_hold.result ≡ bounds_hold e.low e.high
bounds c =
    let e = c.args.e in
    let f : SFits w32 e.low = search rules in
    let g : SFits w32 e.high = search rules in
    c.bounds_hold.ensures ∙ rw (to_z-of_z w32 e.low f, to_z-of_z w32 e.high g)

-- and that it was yes
within : (c : Else-not-bounds_hold) → let e = c.args.e in bounds_hold e.low e.high ≡ true
within c =
    let bounds_it : (let e = c.args.e in c.bounds_hold.result ≡ bounds_hold e.low e.high) = (let e = c.args.e in
    let f : SFits w32 e.low = search rules in
    let g : SFits w32 e.high = search rules in
    c.bounds_hold.ensures ∙ rw (to_z-of_z w32 e.low f, to_z-of_z w32 e.high g)) in
    sym (bounds_it) ∙ c.if-not-bounds_hold.false

-- the offset that the code works out
offset-is : (c : After-offset_of-offset) → c.offset_of-offset.result ≡ offset_of c.args.e.low
offset-is c =
    let e = c.args.e in
    let f : SFits w32 e.low = search rules in
    c.offset_of-offset.ensures ∙ ap offset_of (to_z-of_z w32 e.low f)

-- the offset is that of low
agrees : (c : Else-e-offset) → let e = c.args.e in eqz e.offset (offset_of e.low) ≡ true
agrees c =
    let offset-is_it : (c.offset_of-offset.result ≡ offset_of c.args.e.low) = (let e = c.args.e in
    let f : SFits w32 e.low = search rules in
    c.offset_of-offset.ensures ∙ ap offset_of (to_z-of_z w32 e.low f)) in
    let e = c.args.e in
    let f : SFits w32 e.offset = search rules in
    rw (← offset-is_it) (eq_yes f (record { sfits = c.offset_of-offset.type_inv }) c.if-e-offset.false)

-- the bit length that the code works out
bits : (c : After-bit_length) → let e = c.args.e in c.bit_length.result ≡ bit_length (code (offset_of e.low) e.high)
bits c =
    let offset-is_it : (c.offset_of-offset.result ≡ offset_of c.args.e.low) = (let e = c.args.e in
    let f : SFits w32 e.low = search rules in
    c.offset_of-offset.ensures ∙ ap offset_of (to_z-of_z w32 e.low f)) in
    let e = c.args.e in
    let o = c.offset_of-offset in
    let f : SFits w32 e.high = search rules in
    let g : SFits w32 o.result = record { sfits = o.type_inv } in
    let k : c.code.result ≡ code (offset_of e.low) e.high = c.code.ensures ∙ rw (to_z-of_z w32 e.high f, to_z-of_z w32 o.result g, offset-is_it) in
    c.bit_length.ensures ∙ ap bit_length k

pub returns-then-not-bounds_hold : goal.returns-then-not-bounds_hold
unfolding encoding_holds
returns-then-not-bounds_hold c = rw (← bounds (goal.at.returns-then-not-bounds_hold c).After-bounds_hold, c.if-not-bounds_hold.true)

pub returns-then-e-offset : goal.returns-then-e-offset
unfolding encoding_holds
returns-then-e-offset c =
    let e = c.args.e in
    let n = eq_no e.offset c.offset_of-offset.result c.if-e-offset.true in
    rw (within (goal.at.returns-then-e-offset c).Else-not-bounds_hold, ← offset-is (goal.at.returns-then-e-offset c).After-offset_of-offset, n)

pub code-requires : goal.code-requires
code-requires c =
    let e = c.args.e in
    let o = c.offset_of-offset in
    let f : SFits w32 e.high = search rules in
    let g : SFits w32 o.result = record { sfits = o.type_inv } in
    let k = bounds_coded e.low e.high (within (goal.at.code-requires c).Else-not-bounds_hold) in
    rw (to_z-of_z w32 e.high f, to_z-of_z w32 o.result g, offset-is (goal.at.code-requires c).After-offset_of-offset) (k.above, k.high_small, k.offset_small)

pub returns-then-len-bit_length : goal.returns-then-len-bit_length
unfolding encoding_holds
returns-then-len-bit_length c =
    let e = c.args.e in
    rw (within (goal.at.returns-then-len-bit_length c).Else-not-bounds_hold, agrees (goal.at.returns-then-len-bit_length c).Else-e-offset, ← bits (goal.at.returns-then-len-bit_length c).After-bit_length, ne_eqb e.len c.bit_length.result c.if-len-bit_length.true)

pub returns : goal.returns
unfolding encoding_holds
returns c =
    let e = c.args.e in
    rw (within (goal.at.returns c).Else-not-bounds_hold, agrees (goal.at.returns c).Else-e-offset, ← bits (goal.at.returns c).After-bit_length, eq-eqb e.len c.bit_length.result c.if-len-bit_length.false) c.lits_fit.ensures
