-- `log_sum::offset_constant` meets its contract.
use mathlib.Core.Path.{◌≡◌, ◌∙◌, ap, sym}
use Prim.Native.Nat.{ℕ, ◌+◌, ◌*◌, ◌≤◌, ◌<◌}
use native.Mathlib.Omega.{arith}
use lib.IntN.{◌*ℤ◌, ◌+ℤ◌, pos, ℤ}
use lib.ListN.{get_or, length}
use mir.Syntax.{w32}
use mir.Val.{of_z, to_z}
use mir.ValLaws.{to_z-of_z}
use Rattle.arithmetic.specs.Integers.{down, up}
use Rattle.norm_csp.specs.Rules.{linear_sum, terms_of}
use Rattle.log_var.specs.Record.{int_map_of, record_at}
use Rattle.log_sum.proofs.Offsets.{small_fits, sum_turn, terms_done, terms_from}
use Rattle.log_sum.proofs.offset_constant.Goals as goal
use Rattle.log_sum.proofs.offset_constant.Goals.{After-coef_at, In-loop-i, Start}

-- the coefficient and the offset as the machine reads them
coef-is : (c : After-coef_at) → to_z w32 (of_z w32 c.coef_at.result) ≡ get_or c.args.terms.now (2 * c.loop-i.i + 1) (pos 0)
coef-is c = to_z-of_z w32 c.coef_at.result (record { sfits = c.coef_at.type_inv }) ∙ c.coef_at.ensures

offset-is : (s : Start) (x : ℕ) → x < 32 → to_z w32 (of_z w32 (record_at s.args.encodings.now x).offset) ≡ (record_at s.args.encodings.now x).offset
offset-is s x lt = let h = s.requires.terms_ready.settings x lt in to_z-of_z w32 _ (small_fits (record_at s.args.encodings.now x).offset (omega (arith, h.offset_up)) (omega (arith, h.offset_down)))

constant-is : (s : Start) → to_z w32 (of_z w32 s.args.constant) ≡ s.args.constant
constant-is s = to_z-of_z w32 s.args.constant s.ranges.constant

in_list : (c : In-loop-i) → 2 * c.loop-i.i + 1 < length c.args.terms.now
in_list c = omega (arith, c.loop-i-test.true)

pub loop-i-preserved : goal.loop-i-preserved
loop-i-preserved c =
    let l = c.loop-i in
    let w = c.add_offset-sum in
    let r = to_z-of_z w32 w.result (record { sfits = w.type_inv }) in
    let x = c.setting_at-x in
    let number : ℕ → ℤ = λ j. (int_map_of c.args.encodings.now j).offset in
    let e : w.result ≡ (get_or c.args.terms.now (2 * l.i + 1) (pos 0) *ℤ number (up (get_or c.args.terms.now (2 * l.i) (pos 0)))) +ℤ (to_z w32 l.sum-bits) =
    w.ensures.0 ∙ (λ i. (coef-is (goal.at.loop-i-preserved c).After-coef_at i *ℤ offset-is (goal.at.loop-i-preserved c).Start x.result x.ensures.1 i) +ℤ (to_z w32 l.sum-bits)) ∙ (λ i. (get_or c.args.terms.now (2 * l.i + 1) (pos 0) *ℤ number (x.ensures.0 i)) +ℤ (to_z w32 l.sum-bits)) in
    rw r (
      sum_turn number _ c.args.terms.now l.i (to_z w32 l.sum-bits) (in_list (goal.at.loop-i-preserved c).In-loop-i) l.invariant.0 ∙ ap (λ (z : ℤ). linear_sum number z (terms_from c.args.terms.now (l.i + 1))) (sym e),
      omega (arith, l.invariant.1, w.ensures.1),
      omega (arith, l.invariant.2, w.ensures.2),
    )

pub returns : goal.returns
returns c =
    let l = c.loop-i in
    let p = c.requires.constant_bound in
    let q = constant-is (goal.at.returns c).Start in
    let number : ℕ → ℤ = λ j. (int_map_of c.args.encodings.now j).offset in
    let u : up (to_z w32 (of_z w32 c.args.constant)) ≤ 1000001 = rw q p.0 in
    let d : down (to_z w32 (of_z w32 c.args.constant)) ≤ 1000001 = rw q p.1 in
    let none = terms_done c.args.terms.now l.i c.loop-i-test.false in (
      sym (ap (λ (z : ℤ). linear_sum number z (terms_of c.args.terms.now)) (sym q) ∙ l.invariant.0 ∙ ap (linear_sum number (to_z w32 l.sum-bits)) none),
      omega (arith, l.invariant.1, l.auto.i-end, u, c.requires.terms_ready.few),
      omega (arith, l.invariant.2, l.auto.i-end, d, c.requires.terms_ready.few),
    )
