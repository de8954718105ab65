-- `sum_size::term_shapes` meets its contract.
use mathlib.Core.Path.{◌≡◌, ◌∙◌, ap}
use Prim.Native.Nat.{◌+◌, ◌*◌, ◌<◌}
use native.Mathlib.Omega.{arith}
use lib.IntN.{pos}
use lib.ListN.{get_or, length}
use mir.Syntax.{w32}
use mir.Val.{of_z, to_z}
use mir.ValLaws.{to_z-of_z}
use Rattle.arithmetic.specs.Integers.{down, up}
use Rattle.arithmetic.proofs.Integers.{apart_read}
use Rattle.log_encoding.specs.LinearSize.{weighted_shape}
use Rattle.log_encoding.specs.VarSize.{SettingShape}
use Rattle.log_gather.proofs.Steps.{shl_more}
use Rattle.log_var.specs.Settings.{shape_map_of}
use Rattle.sum_size.proofs.Shaping.{shaping_end, shaping_turn}
use Rattle.sum_size.proofs.term_shapes.Goals as goal
use Rattle.sum_size.proofs.term_shapes.Goals.{After-coef_at, In-loop-i}

-- a term of the list
in_list : (c : In-loop-i) → 2 * c.loop-i.i + 1 < length c.args.terms.now
in_list c = omega (arith, c.loop-i-test.true)

-- the coefficient as the machine reads it
coef-is : (c : After-coef_at) → to_z w32 (of_z w32 c.coef_at.result) ≡ get_or c.args.terms.now (2 * c.loop-i.i + 1) (pos 0)
coef-is c = to_z-of_z w32 c.coef_at.result (record { sfits = c.coef_at.type_inv }) ∙ c.coef_at.ensures

pub term_shape-requires : goal.term_shape-requires
term_shape-requires c =
    let l = c.loop-i in
    let t = c.requires.terms l.i (in_list (goal.at.term_shape-requires c).In-loop-i) in
    let k = get_or c.args.terms.now (2 * l.i + 1) (pos 0) in
    let b = shl_more c.setting_shape-s.result.bits 12 (up k + down k) c.setting_shape-s.ensures.1.bits_few in
    rw (coef-is (goal.at.term_shape-requires c).After-coef_at) (omega (arith, t.coef_up), omega (arith, t.coef_down), omega (arith, b, t.coef_up, t.coef_down, apart_read k))

pub loop-i-preserved : goal.loop-i-preserved
loop-i-preserved c =
    let l = c.loop-i in
    let t = c.term_shape.ensures in
    let e = coef-is (goal.at.loop-i-preserved c).After-coef_at in
    let b = ap (λ (z : SettingShape). z.bits) c.setting_shape-s.ensures.0 in
    let x = c.setting_at-x.ensures.0 in
    shaping_turn (shape_map_of c.args.encodings.now) l.invariant c.requires.few c.term_shape.result (c.loop-i-test.true)
    (t.0 ∙ (λ i. weighted_shape (e i) (b i)) ∙ (λ i. weighted_shape (get_or c.args.terms.now (2 * l.i + 1) (pos 0)) (shape_map_of c.args.encodings.now (x i)).bits)) t.1

pub returns : goal.returns
returns c =
    let l = c.loop-i in
    shaping_end (shape_map_of c.args.encodings.now) l.invariant c.requires.few (c.loop-i-test.false)
