-- `log_sum::weighted_setting` meets its contract.
use mathlib.Core.Path.{◌∙◌, ap}
use Prim.Native.Nat.{◌+◌, ◌≤◌}
use native.Mathlib.Omega.{arith}
use lib.IntN.{pos, ℤ}
use lib.ListN.{length-take}
use lib.Signed.{lt_z}
use mir.Syntax.{w32}
use mir.ValLaws.{to_z-of_z}
use Rattle.arithmetic.specs.Integers.{down, up}
use Rattle.arithmetic.proofs.Integers.{apart_read}
use Rattle.log_gather.proofs.Steps.{shl_more}
use Rattle.log_sum.proofs.Settings.{weighted_is}
use Rattle.log_sum.proofs.weighted_setting.Goals as goal

pub returns : goal.returns
returns c =
    let e = to_z-of_z w32 c.args.coef c.ranges.coef in
    let m = c.magnitude.ensures ∙ ap (λ (z : ℤ). up z + down z) e in
    let a = apart_read c.args.coef in
    let t = c.term_lits.ensures in
    let own = c.args.e.now in
    let few : c.term_lits.result.len ≤ 12 = omega (arith, t.bits.1, length-take own.len own.lits, c.requires.setting_ready.len) in
    let b = shl_more c.term_lits.result.len 12 c.magnitude.result few in (
      (λ i. record { negative = lt_z (e i) (pos 0); coef = m i; lits = t.bits.0 i }) ∙ weighted_is c.args.coef _,
      record { len = omega arith; long = t.small.0; coef = omega (arith, m, c.requires.coef_bound, a); reach = omega (arith, m, c.requires.coef_bound, a, b); small = t.small.1 },
    )
