-- `log_turned::signed_terms` meets its contract.
use Prim.Native.Nat.{◌+◌}
use mathlib.Core.Path.{◌≡◌, ◌∙◌, ap}
use Rattle.std.proofs.Common.{arith, rules}
use lib.IntN.{pos, ℤ}
use lib.ListN.{get_or, length, length-set, set, take}
use lib.Seq.{take_all}
use mir.Syntax.{w32}
use mir.Val.{of_z, to_z}
use mir.ValLaws.{to_z-of_z}
use Rattle.log_turned.specs.Turning.{entry_of, signed_terms}
use Rattle.log_turned.proofs.Turning.{signed_long, signed_more}
use Rattle.log_turned.proofs.signed_terms.Goals as goal

pub loop-i-preserved : goal.loop-i-preserved
loop-i-preserved c =
    let l = c.loop-i in
    let terms = c.args.terms.now in
    let z-is : to_z w32 (of_z w32 (get_or terms l.i (pos 0))) ≡ get_or terms l.i (pos 0) = to_z-of_z w32 _ (search rules) in
    let value = to_z-of_z w32 c.entry.result (record { sfits = c.entry.type_inv }) ∙ c.entry.ensures ∙ ap (entry_of c.args.negate l.i) z-is in (
      length-set l.out l.i _ ∙ l.invariant.0,
      ap (λ (z : ℤ). take (l.i + 1) (set l.out l.i z)) value
          ∙ signed_more c.args.negate terms l.out l.i (omega (arith, l.invariant.0, c.requires.few, c.loop-i-test.true)) c.loop-i-test.true l.invariant.1,
    )

pub returns : goal.returns
returns c =
    let l = c.loop-i in
    let e : l.i ≡ length c.args.terms.now = omega (arith, l.auto.i-end, c.loop-i-test.false) in
    let all = take_all l.i (signed_terms c.args.negate c.args.terms.now) (omega (arith, signed_long c.args.negate c.args.terms.now)) in
    (rw (← e) (l.invariant.1 ∙ all), l.invariant.0)
