-- A turned sum holds exactly where the sum as given does (`turned_holds`).
use Prim.Native.Nat.{◌*◌, ◌<◌, suc, zero, ℕ}
use lib.Dec.{le→leb}
use lib.IntN.{◌*ℤ◌, ◌+ℤ◌, +ℤ_assoc, +ℤ_comm, negsuc, neg_ℤ, neg_ℤ-+ℤ, pos, ℤ}
use lib.Signed.{◌<ℤ◌, ◌≤ℤ◌}
use mathlib.Core.List.{List, [], ◌∷◌, map}
use mathlib.Core.Logic.{◌↔◌}
use mathlib.Core.Path.{◌∙◌, ◌≡◌, ap, ap₂, refl, subst, sym}
use native.Mathlib.Omega.{arith}
use Rattle.arithmetic.specs.Integers.{down, up}
use Rattle.arithmetic.proofs.Integers.{add_read, less_read, mul_read, neg_reads, order_read, same_read}
use Rattle.norm_csp.specs.NormOp.{cmp_op}
use Rattle.norm_csp.specs.Rules.{CmpOp, LinearHolds, LinearTerm, eq, ge, gt, le, linear_sum, lt, ne}
use Rattle.norm_csp.specs.Turned.{negated, turned}

-- Sums ----------------------------------------------------------------------------------------------------------------

module _ (number : ℕ → ℤ) where
  -- what is added to the constant is added to the sum
  pub sum_from : (c k : ℤ) (ts : List LinearTerm) → linear_sum number (c +ℤ k) ts ≡ c +ℤ linear_sum number k ts
  sum_from c k [] = refl
  sum_from c k (t ∷ ts) =
      let p = t.coef *ℤ number t.var in
      let s = linear_sum number k ts in
      ap (λ (x : ℤ). p +ℤ x) (sum_from c k ts) ∙ sym (+ℤ_assoc p c s) ∙ ap (λ (x : ℤ). x +ℤ s) (+ℤ_comm p c) ∙ +ℤ_assoc c p s

  negated_product : (c z : ℤ) → neg_ℤ c *ℤ z ≡ neg_ℤ (c *ℤ z)
  negated_product c z =
      let n = neg_reads c in
      (same_read (neg_ℤ c *ℤ z) (neg_ℤ (c *ℤ z))).1
      (omega (
        arith,
        mul_read (neg_ℤ c) z,
        mul_read c z,
        neg_reads (c *ℤ z),
        ap (λ x. x * up z) n.0,
        ap (λ x. x * down z) n.0,
        ap (λ x. x * up z) n.1,
        ap (λ x. x * down z) n.1,
      ))

  -- every coefficient and the constant negated: the sum is
  pub negated_sum : (k : ℤ) (ts : List LinearTerm) → linear_sum number (neg_ℤ k) (map negated ts) ≡ neg_ℤ (linear_sum number k ts)
  negated_sum k [] = refl
  negated_sum k (t ∷ ts) =
      let p = t.coef *ℤ number t.var in
      ap₂ (λ (x y : ℤ). x +ℤ y) (negated_product t.coef (number t.var)) (negated_sum k ts) ∙ sym (neg_ℤ-+ℤ p (linear_sum number k ts))

-- Comparisons with 0 --------------------------------------------------------------------------------------------------

at_most_0 : (z : ℤ) → (pos 0 ≤ℤ neg_ℤ z) ↔ (z ≤ℤ pos 0)
at_most_0 z =
    let n = neg_reads z in
    (λ h. (order_read z (pos 0)).1 (omega (arith, (order_read (pos 0) (neg_ℤ z)).0 h)), λ h. (order_read (pos 0) (neg_ℤ z)).1 (omega (arith, (order_read z (pos 0)).0 h)))

below : (z : ℤ) → up z < down z → z <ℤ pos 0
below (pos n) h = absurd (omega arith)
below (negsuc n) h = record { lt = tt }

below_0 : (z : ℤ) → (pos 0 ≤ℤ neg_ℤ (pos 1 +ℤ z)) ↔ (z <ℤ pos 0)
below_0 z =
    let n = neg_reads (pos 1 +ℤ z) in
    let a = add_read (pos 1) z in
    (λ h. below z (omega (arith, (order_read (pos 0) (neg_ℤ (pos 1 +ℤ z))).0 h)), λ h. (order_read (pos 0) (neg_ℤ (pos 1 +ℤ z))).1 (omega (arith, less_read z (pos 0) h)))

above : (z : ℤ) → down z < up z → pos 0 <ℤ z
above (pos zero) h = absurd (omega arith)
above (pos (suc n)) h = record { lt = le→leb 1 (suc n) (omega arith) }
above (negsuc n) h = absurd (omega arith)

above_0 : (z : ℤ) → (pos 0 ≤ℤ (negsuc 0 +ℤ z)) ↔ (pos 0 <ℤ z)
above_0 z =
    let a = add_read (negsuc 0) z in
    (λ h. above z (omega (arith, (order_read (pos 0) (negsuc 0 +ℤ z)).0 h)), λ h. (order_read (pos 0) (negsuc 0 +ℤ z)).1 (omega (arith, less_read (pos 0) z h)))

-- Turned sums ---------------------------------------------------------------------------------------------------------

module _ (number : ℕ → ℤ) (constant : ℤ) (terms : List LinearTerm) where
  abbrev sum : ℤ
  sum = linear_sum number constant terms

  pub turned_holds : (op : CmpOp)
      → (let t = turned op constant terms in LinearHolds number (cmp_op t.op) t.constant t.terms ↔ LinearHolds number op constant terms)
  turned_holds eq = (λ h. h, λ h. h)
  turned_holds ne = (λ h. h, λ h. h)
  turned_holds ge = (λ h. h, λ h. h)
  turned_holds le = subst (λ (s : ℤ). (pos 0 ≤ℤ s) ↔ (sum ≤ℤ pos 0)) (sym (negated_sum number constant terms)) (at_most_0 sum)
  turned_holds lt =
      let e = negated_sum number (constant +ℤ pos 1) terms
      ∙ ap (λ (k : ℤ). neg_ℤ (linear_sum number k terms)) (+ℤ_comm constant (pos 1))
      ∙ ap neg_ℤ (sum_from number (pos 1) constant terms) in
      subst (λ (s : ℤ). (pos 0 ≤ℤ s) ↔ (sum <ℤ pos 0)) (sym e) (below_0 sum)
  turned_holds gt =
      let e = ap (λ (k : ℤ). linear_sum number k terms) (+ℤ_comm constant (negsuc 0)) ∙ sum_from number (negsuc 0) constant terms in
      subst (λ (s : ℤ). (pos 0 ≤ℤ s) ↔ (pos 0 <ℤ sum)) (sym e) (above_0 sum)
