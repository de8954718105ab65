-- Eq of terms, as the adder adds it.
use mathlib.Core.Path.{◌≡◌, refl, ap, sym, ◌∙◌}
use mathlib.Core.Bool.{false}
use mathlib.Core.List.{List, [], ◌∷◌, map}
use Prim.Native.Nat.{ℕ, ◌+◌, ◌-◌, ◌≤◌}
use native.Mathlib.Omega.{arith}
use lib.ListN.{length, take}
use Rattle.sat.specs.Encoded.{EncodedRule}
use Rattle.clause_set.specs.Stores.{AddedRule, Wrote}
use Rattle.clause_set.specs.declared.ClauseSet.{ClauseSet}
use Rattle.clause_set.proofs.Writing.{wrote_as}
use Rattle.norm_csp.specs.NormOp.{eq}
use Rattle.log_encoding.specs.Adder2.{Adder2Output, adder2, adder2_clauses, eq_adder, eq_columns, last_column}
use Rattle.log_encoding.specs.Gather.{Grid}
use Rattle.log_encoding.specs.AdderSize.{eq_reached, too_tall}
use Rattle.log_adder.specs.declared.Columns.{Columns}
use Rattle.log_adder2.specs.EqState.{EqFits, eq_input, eq_output}
use Rattle.log_adder2.specs.declared.EqInput.{EqInput}
use Rattle.log_encoding.specs.EncodeLinearLog.{eq_rule}
use Rattle.log_encoding.specs.Linear.{Weighted, gather, linear_eq, negated_constant}
use Rattle.log_encoding.specs.LinearSize.{gather_counts, linear_reached, negated_bits, shape_of}
use Rattle.log_encoding.proofs.LinearSize.{gather_counts_are, negated_bits_are}
use Rattle.log_terms.specs.Gathered.{Gathered}
use Rattle.log_weighted.proofs.Columns.{counts_are, eq_output_is}

-- x and y of the terms with the constant a - b
pub record EqParts (ws : List Weighted) (a b x y : ℕ) : Type 0 where
  pub x_is : x ≡ a - (b + negated_constant ws)
  pub y_is : y ≡ b + negated_constant ws - a

pub eq_parts : (ws : List Weighted) (a b target x y : ℕ) → target ≡ b + negated_constant ws → x ≡ a - target → y ≡ target - a → EqParts ws a b x y
eq_parts ws a b target x y t p q = record { x_is = omega arith; y_is = omega arith }

-- with columns, all clauses are the adder's
some_columns : (grid : Grid) (x y v : ℕ) → 1 ≤ length grid
    → let out = adder2 (eq_columns grid x y) (last_column grid x y) [] v in
    eq_rule (eq_adder grid x y v) ≡ record { clauses = adder2_clauses out; vars = out.vars }
some_columns [] x y v h = absurd (omega arith)
some_columns (c ∷ grid) x y v h = refl

-- without columns
pub no_columns_are : (ws : List Weighted) (a b x y v : ℕ) → EqParts ws a b x y → length (gather ws []) ≡ 0 → eq_rule (eq_adder [] x y v) ≡ eq_rule (linear_eq ws a b v)
no_columns_are ws a b x y v p h = (λ i. eq_rule (eq_adder [] (p.x_is i) (p.y_is i) v)) ∙ go (gather ws []) h
  where
    go : (grid : Grid) → length grid ≡ 0 → eq_rule (eq_adder [] (a - (b + negated_constant ws)) (b + negated_constant ws - a) v) ≡ eq_rule (eq_adder grid (a - (b + negated_constant ws)) (b + negated_constant ws - a) v)
    go [] h = refl
    go (c ∷ grid) h = absurd (omega arith)

module _ (ws : List Weighted) {cols : Columns} (g : Gathered (gather ws []) cols) (w : ℕ) (wide : w ≡ length (gather ws [])) (few : w ≤ 25)
    (a b x y : ℕ) (p : EqParts ws a b x y) where
  -- the columns reached are the definition's
  pub eq_reaches : eq_reached (take w cols.counts) x y 0 ≡ linear_reached eq (map shape_of ws) a b
  eq_reaches =
      let n = negated_bits_are ws in
      let i : x ≡ a - (b + negated_bits (map shape_of ws)) = omega (arith, p.x_is) in
      let j : y ≡ b + negated_bits (map shape_of ws) - a = omega (arith, p.y_is) in
      let h : take w cols.counts ≡ gather_counts (map shape_of ws) [] = counts_are g w wide (omega arith) ∙ gather_counts_are ws [] in
      λ k. eq_reached (h k) (i k) (j k) 0

  module _ (some : 1 ≤ w) (fits : too_tall (linear_reached eq (map shape_of ws) a b) ≡ false) (v : ℕ) where
    abbrev input : EqInput
    input = eq_input w x y v

    pub eq_ready : x ≤ 1073741824 → y ≤ 1073741824 → v ≤ 1048576 → EqFits cols input
    eq_ready low lower small =
        record { some = some; width = omega arith; x = low; y = lower; vars = small; own = g.arrays.low; wide = g.arrays.wide }

    pub eq_added : {s t : ClauseSet} → (let out = eq_output cols input in Wrote s out.vars (adder2_clauses out) t) → AddedRule s (eq_rule (linear_eq ws a b v)) t
    eq_added h =
        let grid = gather ws [] in
        let out = eq_output_is g input wide some few (ap too_tall eq_reaches ∙ fits) in
        let rule = sym (some_columns grid x y v (omega arith)) ∙ (λ i. eq_rule (eq_adder grid (p.x_is i) (p.y_is i) v)) in
        wrote_as h (ap (λ (o : Adder2Output). o.vars) out ∙ ap (λ (r : EncodedRule). r.vars) rule) (ap adder2_clauses out ∙ ap (λ (r : EncodedRule). r.clauses) rule)
