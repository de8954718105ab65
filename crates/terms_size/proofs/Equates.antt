-- Eq's columns counted are as many as the definition says.
use Prim.Native.Nat.{◌+◌, ◌-◌, ◌≤◌, ℕ}
use mathlib.Core.List.{List, []}
use mathlib.Core.Path.{◌≡◌}
use native.Mathlib.Omega.{arith}
use Rattle.std.specs.Prelude.{Some}
use Rattle.norm_csp.specs.NormOp.{eq}
use Rattle.log_linear.specs.declared.RuleCounts.{RuleCounts}
use Rattle.log_encoding.specs.AdderSize.{eq_reached, greatest_height}
use Rattle.log_encoding.specs.LinearSize.{WeightedShape, gather_counts, linear_reached, negated_bits}
use Rattle.eq_size.specs.Sized.{EqSized, eq_size}
use Rattle.terms_size.specs.Measured.{Measured, terms_size}
use Rattle.terms_size.proofs.Measuring.{measured_fits}

module _ (ps : List WeightedShape) (a b target x y : ℕ) (hs : List ℕ) (counts_are : hs ≡ gather_counts ps [])
    (t : target ≡ b + negated_bits ps) (p : x ≡ a - target) (q : y ≡ target - a) where
  -- the columns reached are the definition's
  pub eq_reaches : eq_reached hs x y 0 ≡ linear_reached eq ps a b
  eq_reaches =
      let i : x ≡ a - (b + negated_bits ps) = omega arith in
      let j : y ≡ b + negated_bits ps - a = omega arith in
      λ k. eq_reached (counts_are k) (i k) (j k) 0

  size_is : eq_size hs x y ≡ terms_size eq ps a b
  size_is =
      let i : x ≡ a - (b + negated_bits ps) = omega arith in
      let j : y ≡ b + negated_bits ps - a = omega arith in
      λ k. eq_size (counts_are k) (i k) (j k)

  pub equation_measured : (r : RuleCounts) → greatest_height (linear_reached eq ps a b) ≤ 12 → EqSized hs x y r
      → Measured 1 (linear_reached eq ps a b) (terms_size eq ps a b) (Some r)
  equation_measured r h e =
      measured_fits 1 (linear_reached eq ps a b) (terms_size eq ps a b) r h (rw size_is at e.sized) (omega (arith, e.few_vars))
      (omega (arith, e.few_clauses)) (omega (arith, e.few_lits))
