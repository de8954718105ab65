-- A product with offsets: Eq's ordering clauses, the multiplier's clauses and Eq's returned set are the definition's.
use mathlib.Core.Path.{◌≡◌, refl, ap, subst, sym, ◌∙◌}
use mathlib.Core.Bool.{Bool, false, true}
use mathlib.Core.List.{List, [], ◌∷◌, ◌++◌, map}
use Prim.Native.Nat.{ℕ, ◌+◌, ◌-◌, ◌≤◌}
use native.Mathlib.Omega.{arith}
use lib.IntN.{ℤ}
use lib.ListN.{length, take}
use Rattle.arithmetic.specs.Integers.{down, up}
use Rattle.sat.specs.Clause.{Clauses}
use Rattle.sat.specs.Encoded.{EncodedBits, EncodedRule}
use Rattle.clause_set.specs.Stores.{AddedRule, Wrote}
use Rattle.clause_set.specs.declared.ClauseSet.{ClauseSet}
use Rattle.clause_set.proofs.Writing.{wrote_as, wrote_then}
use Rattle.log_adder.specs.declared.Columns.{Columns}
use Rattle.norm_csp.specs.NormOp.{eq}
use Rattle.log_encoding.specs.LogEncoding.{LogEncoding}
use Rattle.log_encoding.specs.VarSize.{setting_shape}
use Rattle.log_encoding.specs.Adder2.{Adder2Output, EncodedEq, adder2, eq_adder, eq_columns, last_column, returned_set}
use Rattle.log_encoding.specs.Gather.{Grid}
use Rattle.log_encoding.specs.AdderSize.{eq_reached, own_counts, too_tall}
use Rattle.log_adder2.specs.EqState.{CarriesOrdered, EqFits, eq_input, eq_output}
use Rattle.log_adder2.specs.declared.Column.{Column}
use Rattle.log_adder2.proofs.OrderingPass.{ordered_taken}
use Rattle.log_adder2.specs.declared.EqInput.{EqInput}
use Rattle.log_encoding.specs.EncodeLinearLog.{eq_rule}
use Rattle.log_encoding.specs.Linear.{Weighted, gather, negated_constant}
use Rattle.log_encoding.specs.LinearSize.{gather_counts, linear_reached, shape_of}
use Rattle.log_linear.specs.declared.Bits.{Bits}
use Rattle.log_encoding.proofs.LinearSize.{gather_counts_are, negated_bits_are}
use Rattle.log_terms.specs.Gathered.{Gathered}
use Rattle.log_weighted.proofs.Columns.{counts_are, eq_output_is}
use Rattle.log_weighted.proofs.Compared.{both_fit}
use Rattle.log_mul.specs.Added.{MultiplierAdded}
use Rattle.log_encoding.specs.EncodeMulLog.{mul_constant, offset_terms, product_with_offsets}
use Rattle.log_encoding.specs.Multiply.{multiplier}
use Rattle.log_encoding.specs.MulSize.{mul_reached, multiplier_reached, no_offsets, offset_shapes, offsets_reached}
use Rattle.log_encoding.proofs.MulSize.{multiplier_size, offset_shapes_are}
use Rattle.log_product.specs.Ready.{ColumnsReady, EqInputReady, multiply_then}

-- Variables counted anew ----------------------------------------------------------------------------------------------

-- what was written does not hang on how many variables there were
pub from_vars : (s : ClauseSet) (n : ℕ) {t : ClauseSet} {v : ℕ} {cs : Clauses} → Wrote (record { lits = s.lits; ends = s.ends; base = s.base; vars = n; used = s.used }) v cs t
    → Wrote s v cs t
from_vars s n w =
    record { same_lits = w.same_lits; same_ends = w.same_ends; same_base = w.same_base; vars_are = w.vars_are; stores_are = w.stores_are }

pub rule_as : {s t : ClauseSet} {r q : EncodedRule} → AddedRule s r t → r ≡ q → AddedRule s q t
rule_as w e = wrote_as w (ap (λ (x : EncodedRule). x.vars) e) (ap (λ (x : EncodedRule). x.clauses) e)

-- The clauses ---------------------------------------------------------------------------------------------------------

-- without columns nothing is sent at once
pub without_columns : {s t u : ClauseSet} (mul : EncodedBits) (x y v : ℕ) {r : Bits} → MultiplierAdded s mul t r → v ≡ mul.vars
    → AddedRule t (eq_rule (eq_adder [] x y t.vars)) u → AddedRule s (multiply_then mul (eq_adder [] x y v)) u
without_columns mul x y v m e h = wrote_as (wrote_then m.wrote h) (m.wrote.vars_are ∙ sym e) refl

-- with columns, the two passes
some_columns : (grid : Grid) (x y v : ℕ) → 1 ≤ length grid
    → let out = adder2 (eq_columns grid x y) (last_column grid x y) [] v in
    record { sent = out.sent; returned = returned_set out.returned; vars = out.vars } ≡ eq_adder grid x y v
some_columns [] x y v h = absurd (omega arith)
some_columns (c ∷ grid) x y v h = refl

module _ {grid : Grid} {cols : Columns} (h : Gathered grid cols) (g : EqInput) (ready : ColumnsReady grid g) where
  -- what the two passes ask
  pub columns_fit : too_tall (eq_reached (take g.width cols.counts) g.x g.y 0) ≡ false
  columns_fit = ap (λ (hs : List ℕ). too_tall (eq_reached hs g.x g.y 0)) (counts_are h g.width ready.width (omega (arith, ready.few))) ∙ ready.heights

  pub columns_ready : EqFits cols g
  columns_ready =
      record { some = ready.some; width = omega (arith, ready.few); x = ready.x_low; y = ready.y_low; vars = ready.vars; own = h.arrays.low; wide = h.arrays.wide }

  -- the first pass over the counts as a slice
  pub first_pass : (counts : List ℕ) → counts ≡ take g.width cols.counts → (s : ClauseSet) → s.vars ≡ g.vars → {t : ClauseSet} {c : Column}
      → CarriesOrdered s counts (eq_input (length counts) g.x g.y s.vars) t c → CarriesOrdered s cols.counts g t c
  first_pass counts e s v {t} {c} o =
      let n : g.width ≤ length cols.counts = omega (arith, ready.few, h.arrays.places) in
      let all : CarriesOrdered s (take g.width cols.counts) (eq_input (length (take g.width cols.counts)) g.x g.y s.vars) t c =
      rw (← e) o in
      subst (λ m. CarriesOrdered s cols.counts (eq_input g.width g.x g.y m) t c) v (ordered_taken cols.counts g.width g.x g.y ready.some n all)

  encoded : record { sent = (eq_output cols g).sent; returned = returned_set (eq_output cols g).returned; vars = (eq_output cols g).vars } ≡ eq_adder grid g.x g.y g.vars
  encoded =
      ap {B = EncodedEq} (λ (o : Adder2Output). record { sent = o.sent; returned = returned_set o.returned; vars = o.vars })
      (eq_output_is h g ready.width ready.some ready.few columns_fit)
      ∙ some_columns grid g.x g.y g.vars (omega (arith, ready.some, ready.width))

  -- the three parts, one after the other
  pub with_columns : (mul : EncodedBits) {s t u w : ClauseSet} → Wrote s (eq_output cols g).vars (eq_output cols g).sent t → Wrote t mul.vars mul.clauses u
      → {v : ℕ} → v ≡ t.vars → Wrote u v (returned_set (eq_output cols g).returned) w → AddedRule s (multiply_then mul (eq_adder grid g.x g.y g.vars)) w
  with_columns mul o m e r =
      wrote_as (wrote_then o (wrote_then m r)) (e ∙ o.vars_are ∙ ap (λ (x : EncodedEq). x.vars) encoded)
      (ap (λ (x : EncodedEq). x.sent ++ (mul.clauses ++ x.returned)) encoded)

-- The definition --------------------------------------------------------------------------------------------------------

no_grid : (grid : Grid) → length grid ≡ 0 → [] ≡ grid
no_grid [] h = refl
no_grid (c ∷ grid) h = absurd (omega arith)

module _ (x y m : LogEncoding) (v : ℕ) (ws : List Weighted) (g : EqInput) where
  abbrev mul· : EncodedBits
  mul· = multiplier x.lits y.lits [] v

  abbrev k· : ℤ
  k· = mul_constant x y m

  module _ (same : ws ≡ offset_terms x y m mul·.bits) (z : ℤ) (c : z ≡ k·) (n : ℕ) (vars : n ≡ mul·.vars) (p : EqInputReady ws (up z) (down z) n g) where
    pub offsets_are : multiply_then mul· (eq_adder (gather ws []) g.x g.y g.vars) ≡ product_with_offsets x y m v
    offsets_are =
        (λ i. multiply_then mul· (eq_adder (gather ws []) (p.x_is i) (p.y_is i) ((p.vars ∙ vars) i)))
        ∙ (λ i. multiply_then mul· (eq_adder (gather (same i) []) (up (c i) - (down (c i) + negated_constant (same i))) (down (c i) + negated_constant (same i) - up (c i)) mul·.vars))

    pub offsets_none : g.width ≡ 0 → multiply_then mul· (eq_adder [] g.x g.y g.vars) ≡ product_with_offsets x y m v
    offsets_none e = ap (λ (grid : Grid). multiply_then mul· (eq_adder grid g.x g.y g.vars)) (no_grid (gather ws []) (sym p.width ∙ e)) ∙ offsets_are

    -- Eq's columns reached are the definition's
    offsets_heights : eq_reached (own_counts (gather ws [])) g.x g.y 0
        ≡ linear_reached eq (offset_shapes (setting_shape x) (setting_shape y) (setting_shape m)) (up k·) (down k·)
    offsets_heights =
        let s : map shape_of ws ≡ offset_shapes (setting_shape x) (setting_shape y) (setting_shape m) =
        ap (map shape_of) same ∙ offset_shapes_are x y m mul·.bits (multiplier_size (λ n. n) x.lits y.lits [] v).bits_are in
        let h : own_counts (gather ws []) ≡ gather_counts (map shape_of ws) [] = gather_counts_are ws [] in
        let q = negated_bits_are ws in
        (λ i. eq_reached (h i) (p.x_is i) (p.y_is i) 0)
        ∙ (λ i. eq_reached (gather_counts (map shape_of ws) []) (up z - (down z + q i)) (down z + q i - up z) 0)
        ∙ (λ i. linear_reached eq (s i) (up (c i)) (down (c i)))

    pub offsets_columns : too_tall (offsets_reached (setting_shape x) (setting_shape y) (setting_shape m)) ≡ false → 1 ≤ g.width → n ≤ 1048576
        → ColumnsReady (gather ws []) g
    offsets_columns t some few =
        record {
          width = p.width;
          some = some;
          few = p.few;
          x_low = p.x_low;
          y_low = p.y_low;
          vars = omega (arith, p.vars);
          heights = ap too_tall offsets_heights
              ∙ (both_fit (multiplier_reached (length x.lits) (length y.lits) 0) (linear_reached eq (offset_shapes (setting_shape x) (setting_shape y) (setting_shape m)) (up k·) (down k·)) t).1;
        }

-- the multiplier's columns fit
pub offsets_multiplier : (x y m : LogEncoding) → too_tall (offsets_reached (setting_shape x) (setting_shape y) (setting_shape m)) ≡ false
    → too_tall (multiplier_reached (length x.lits) (length y.lits) 0) ≡ false
offsets_multiplier x y m t =
    (both_fit (multiplier_reached (length x.lits) (length y.lits) 0)
    (linear_reached eq (offset_shapes (setting_shape x) (setting_shape y) (setting_shape m)) (up (mul_constant x y m)) (down (mul_constant x y m))) t).0

-- Heights ---------------------------------------------------------------------------------------------------------------

-- Eq's columns, as the terms' shapes
pub shapes_reached : (x y m : LogEncoding) (ws : List Weighted) (bits : List ℕ) (z : ℤ) → ws ≡ offset_terms x y m bits
    → length bits ≡ length (multiplier_reached (length x.lits) (length y.lits) 0) → z ≡ mul_constant x y m
    → linear_reached eq (map shape_of ws) (up z) (down z)
    ≡ linear_reached eq (offset_shapes (setting_shape x) (setting_shape y) (setting_shape m)) (up (mul_constant x y m)) (down (mul_constant x y m))
shapes_reached x y m ws bits z same l c =
    let s : map shape_of ws ≡ offset_shapes (setting_shape x) (setting_shape y) (setting_shape m) = ap (map shape_of) same ∙ offset_shapes_are x y m bits l in
    λ i. linear_reached eq (s i) (up (c i)) (down (c i))

-- Both kinds of products ------------------------------------------------------------------------------------------------

module _ (x y m : LogEncoding) (t : Bool) (e : t ≡ no_offsets (setting_shape x) (setting_shape y) (setting_shape m)) where
  pub reached_zero : t ≡ true → mul_reached (setting_shape x) (setting_shape y) (setting_shape m) ≡ multiplier_reached (length x.lits) (length y.lits) (length m.lits)
  reached_zero f = rw (sym e ∙ f)
