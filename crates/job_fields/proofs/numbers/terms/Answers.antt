-- `job_fields::numbers::terms` meets its contract.
use Prim.Native.Nat.{◌*◌, ◌+◌, ◌/◌}
use lib.ListN.{get_or, length}
use mathlib.Core.Path.{◌≡◌, refl}
use mir.Syntax.{w32}
use mir.Val.{SFits}
use mir.ValLaws.{to_z-of_z, to_z_pos}
use native.Mathlib.Omega.{arith}
use Rattle.job_fields.proofs.NumbersRead.{putting_end, putting_more, terms_end, terms_more}
use Rattle.job_fields.proofs.numbers.terms.Goals as goal

pub loop-i-preserved : goal.loop-i-preserved
loop-i-preserved c =
    let s = c.args.s.now in
    let l = c.loop-i in
    let h = c.loop-i-test.true in
    let p = rw (terms_more s l.i h) at l.invariant.1 in
    let z : SFits w32 c.signed_word.result = record { sfits = c.signed_word.type_inv } in
    let e : 2 * (l.i + 1) ≡ 2 * l.i + 1 + 1 = omega arith in
    let x = c.from.ensures in
    let n = to_z_pos w32 (get_or s (3 * l.i) 0) (omega (arith, c.type_inv.s (3 * l.i))) in
    (omega arith, rw (e, to_z-of_z w32 c.signed_word.result z, c.signed_word.ensures, x, n) (putting_more (2 * l.i + 1) _ (omega arith) (putting_more (2 * l.i) _ (omega arith) p)))

pub returns : goal.returns
returns c =
    let s = c.args.s.now in
    let l = c.loop-i in
    let e : l.i ≡ length s / 3 = omega (arith, l.invariant.0, c.loop-i-test.false) in
    let p = rw (terms_end s l.i c.loop-i-test.false) at l.invariant.1 in
    (refl, omega (arith, p.long), rw e at (putting_end p))
