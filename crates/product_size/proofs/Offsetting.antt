-- Products with offsets: the multiplier, then Eq over its bits.
use Prim.Native.Nat.{◌+◌, ◌<◌, suc, zero, ℕ}
use borrow.Author.Tests.{le-ltb, lt-ltb, ltb-false, ltb-true}
use lib.IntN.{ℤ}
use lib.ListN.{get_or}
use mathlib.Core.Bool.{false, true}
use mathlib.Core.List.{List, [], ◌++◌, ◌∷◌}
use mathlib.Core.Path.{◌≡◌}
use mir.Syntax.{w32}
use mir.Val.{of_z, to_z}
use mir.ValLaws.{to_z-of_z}
use native.Mathlib.Omega.{arith}
use Rattle.arithmetic.specs.Integers.{down, up}
use Rattle.norm_csp.specs.NormOp.{eq}
use Rattle.log_encoding.specs.AdderSize.{Reached, greatest_height, too_tall}
use Rattle.log_encoding.specs.LinearSize.{linear_reached}
use Rattle.log_encoding.specs.MulSize.{multiplier_reached, offset_shapes, offsets_constant, offsets_reached}
use Rattle.log_encoding.specs.VarSize.{SettingShape}
use Rattle.log_sum.proofs.Offsets.{small_fits}
use Rattle.log_weighted.proofs.Compared.{height_append}
use Rattle.log_counts.specs.Counted.{ShapeFits, ShapesFit, no_shape}
use Rattle.log_counts.specs.declared.TermShape.{TermShape}
use Rattle.terms_size.specs.Measured.{Measured}
use Rattle.log_linear.specs.declared.RuleCounts.{RuleCounts}
use Rattle.std.specs.Prelude.{None, Some}
use Rattle.sum_size.specs.Shapes.{ShapeReady}
use Rattle.sum_size.specs.declared.SettingShape.{SettingShape as Shape}
use Rattle.product_size.specs.Multiplied.{Multiplied, OffsetsEquation, offsets_size}
use Rattle.product_size.specs.declared.MultiplierSize.{MultiplierSize}

-- an offset as the machine reads it
pub offset_is : (s : Shape) → ShapeReady s → to_z w32 (of_z w32 s.offset) ≡ s.offset
offset_is s h = to_z-of_z w32 s.offset (small_fits s.offset (omega (arith, h.offset_up)) (omega (arith, h.offset_down)))

-- four terms
pub four_fit : (p q r s : TermShape) → ShapeFits p → ShapeFits q → ShapeFits r → ShapeFits s → ShapesFit (p ∷ q ∷ r ∷ s ∷ [])
four_fit p q r s a b c d = record { few = omega arith; fits = fits }
  where
    fits : (i : ℕ) → i < 4 → ShapeFits (get_or (p ∷ q ∷ r ∷ s ∷ []) i no_shape)
    fits zero h = a
    fits (suc zero) h = b
    fits (suc (suc zero)) h = c
    fits (suc (suc (suc zero))) h = d
    fits (suc (suc (suc (suc i)))) h = absurd (omega arith)

-- the columns of two parts: one is too tall, or neither is
first_tall : (rs qs : List Reached) → too_tall rs ≡ true → too_tall (rs ++ qs) ≡ true
first_tall rs qs e = let h = ltb-true 12 (greatest_height rs) e in lt-ltb 12 (greatest_height (rs ++ qs)) (omega (arith, h, height_append rs qs))

second_tall : (rs qs : List Reached) → too_tall qs ≡ true → too_tall (rs ++ qs) ≡ true
second_tall rs qs e = let h = ltb-true 12 (greatest_height qs) e in lt-ltb 12 (greatest_height (rs ++ qs)) (omega (arith, h, height_append rs qs))

neither_tall : (rs qs : List Reached) → too_tall rs ≡ false → too_tall qs ≡ false → too_tall (rs ++ qs) ≡ false
neither_tall rs qs e f =
    let h = ltb-false 12 (greatest_height rs) e in
    let k = ltb-false 12 (greatest_height qs) f in
    le-ltb 12 (greatest_height (rs ++ qs)) (omega (arith, h, k, height_append rs qs))

module _ (x y m : SettingShape) where
  abbrev constant : ℤ
  constant = offsets_constant x y m

  -- the multiplier's columns, and Eq's
  abbrev first : List Reached
  first = multiplier_reached x.bits y.bits 0

  abbrev second : List Reached
  second = linear_reached eq (offset_shapes x y m) (up constant) (down constant)

  pub multiplier_tall : Multiplied x.bits y.bits 0 None → Measured 2 (offsets_reached x y m) (offsets_size x y m) None
  multiplier_tall t = first_tall first second t

  pub equation_tall : OffsetsEquation x y m None → Measured 2 (offsets_reached x y m) (offsets_size x y m) None
  equation_tall t = second_tall first second t

  pub offsets_measured : (s : MultiplierSize) (r : RuleCounts) → Multiplied x.bits y.bits 0 (Some s) → OffsetsEquation x y m (Some r)
      → Measured 2 (offsets_reached x y m) (offsets_size x y m)
      (Some (record { vars = s.vars + r.vars; used = record { clauses = s.used.clauses + r.used.clauses; lits = s.used.lits + r.used.lits } }))
  offsets_measured s r h k =
      let g = h.1 in
      let e = k.1 in
      let c = g.counted in
      let d = e.sized in (
        neither_tall first second h.0 k.0,
        record {
          sized =
              record {
                vars_are = omega (arith, c.vars, d.vars_are);
                clauses_are = omega (arith, c.clauses, d.clauses_are);
                lits_are = omega (arith, c.lits, d.lits_are);
              };
          few_vars = omega (arith, g.few_vars, e.few_vars);
          few_clauses = omega (arith, g.few_clauses, e.few_clauses);
          few_lits = omega (arith, g.few_lits, e.few_lits);
        },
      )
