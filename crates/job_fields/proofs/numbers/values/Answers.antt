-- `job_fields::numbers::values` meets its contract.
use Prim.Native.Nat.{◌/◌}
use lib.ListN.{length}
use mathlib.Core.Path.{◌≡◌, refl}
use mir.Syntax.{w32}
use mir.Val.{SFits}
use mir.ValLaws.{to_z-of_z}
use native.Mathlib.Omega.{arith}
use Rattle.job_fields.proofs.NumbersRead.{putting_end, putting_more, values_end, values_more}
use Rattle.job_fields.proofs.numbers.values.Goals as goal

pub loop-i-preserved : goal.loop-i-preserved
loop-i-preserved c =
    let s = c.args.s.now in
    let l = c.loop-i in
    let h = c.loop-i-test.true in
    let p = rw (values_more s l.i h) at l.invariant.1 in
    let z : SFits w32 c.signed_word.result = record { sfits = c.signed_word.type_inv } in
    (omega arith, rw (to_z-of_z w32 c.signed_word.result z, c.signed_word.ensures) (putting_more l.i _ (omega arith) p))

pub returns : goal.returns
returns c =
    let s = c.args.s.now in
    let l = c.loop-i in
    let e : l.i ≡ length s / 2 = omega (arith, l.invariant.0, c.loop-i-test.false) in
    let p = rw (values_end s l.i c.loop-i-test.false) at l.invariant.1 in
    (refl, omega (arith, p.long), rw e at (putting_end p))
