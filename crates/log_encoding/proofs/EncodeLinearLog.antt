-- A sum's clauses can be completed by new variables exactly when the rule holds of the values read, in one way
-- (`encode_linear_log_encodes`). Those of Eq are the plain form's (`encode_linear_log_plain`).
use Prim.Native.Nat.{◌*◌, ◌+◌, ◌<◌, ◌≤◌, ℕ}
use lib.IntN.{◌*ℤ◌, ◌+ℤ◌, negsuc, pos, ℤ}
use lib.ListN.{length}
use mathlib.Core.Bool.{false, true}
use mathlib.Core.List.{List, [], ◌∷◌}
use mathlib.Core.Path.{◌∙◌, ◌≡◌, ap, refl, sym}
use native.Mathlib.Nat.{mul-le-mul}
use native.Mathlib.Omega.{arith}
use Rattle.arithmetic.specs.Integers.{down, up}
use Rattle.arithmetic.proofs.Integers.{add_read, apart_read, mul_read, order_read, same_read}
use Rattle.sat.specs.Clause.{Assignment}
use Rattle.sat.specs.Encodes.{Any, Encodes, LitsBelow}
use Rattle.sat.specs.Number.{code_of}
use Rattle.sat.proofs.Extend.{means}
use Rattle.norm_csp.specs.NormOp.{NormOp, cmp_op, eq, ge, ne}
use Rattle.norm_csp.specs.Rules.{Compares, LinearHolds, LinearTerm, linear_sum}
use Rattle.log_encoding.specs.LogEncoding.{LogEncoding, get_int_value}
use Rattle.log_encoding.specs.EncodeLinearLog.{TermsBelow, encode_linear_log, encode_weighted, eq_rule, offset_constant, weighted, weighted_terms}
use Rattle.log_encoding.specs.Linear.{Weighted, signed_sum}
use Rattle.log_encoding.specs.PlainLinear.{plain_linear_eq}
use Rattle.log_encoding.proofs.Linear.{WeightedBelow, linear_eq_encodes, linear_ge_encodes, linear_ne_encodes}
use Rattle.log_encoding.proofs.PlainLinear.{plain_linear_eq_is, small}

pub weighted_sum : (k : ℤ) (ls : List ℕ) (ps : List Weighted) (α : Assignment)
    → (signed_sum false α (weighted k ls ∷ ps) ≡ up k * code_of α ls + signed_sum false α ps)
    × (signed_sum true α (weighted k ls ∷ ps) ≡ down k * code_of α ls + signed_sum true α ps)
weighted_sum (pos k) ls ps α = (refl, omega arith)
weighted_sum (negsuc k) ls ps α = (omega arith, refl)

pub weighted_fits : (v : ℕ) (k : ℤ) (ls : List ℕ) → up k < 4096 → down k < 4096 → LitsBelow v ls
    → LitsBelow v (weighted k ls).lits × ((weighted k ls).coef < 4096)
weighted_fits v (pos k) ls p q b = (b, p)
weighted_fits v (negsuc k) ls p q b = (b, q)

pub terms_below : (v : ℕ) (int_map : ℕ → LogEncoding) (ts : List LinearTerm) → TermsBelow v int_map ts → WeightedBelow v (weighted_terms int_map ts)
terms_below v int_map [] h = tt
terms_below v int_map (t ∷ ts) h =
    let small = h.0.1 in
    (weighted_fits v t.coef (int_map t.var).lits (omega arith) (omega arith) h.0.0, terms_below v int_map ts h.1)

-- Any sum of literals with signed coefficients, where z is what it and the constant k come to ---------------------------

abbrev pub ComesTo : Assignment → List Weighted → ℤ → ℤ → Type 0
ComesTo α ps k z = up z + signed_sum true α ps + down k ≡ down z + signed_sum false α ps + up k

pub encode_weighted_encodes : (op : NormOp) (ps : List Weighted) (k : ℤ) (v : ℕ) → WeightedBelow v ps
    → up k < 4294967296 → down k < 4294967296 → (z : Assignment → ℤ) → ((α : Assignment) → ComesTo α ps k (z α))
    → Encodes v (encode_weighted op ps k v).vars Any (λ α. Compares (cmp_op op) (z α)) (encode_weighted op ps k v).clauses
encode_weighted_encodes eq ps k v b p q z is =
    means
    (λ α.
    let e = is α in
    (λ w. (same_read (z α) (pos 0)).1 (omega arith), λ w. omega (arith, (same_read (z α) (pos 0)).0 w)))
    (linear_eq_encodes ps (up k) (down k) v b)
encode_weighted_encodes ne ps k v b p q z is =
    means
    (λ α.
    let e = is α in
    (λ w y. w (omega (arith, (same_read (z α) (pos 0)).0 y)), λ w y. w ((same_read (z α) (pos 0)).1 (omega arith))))
    (linear_ne_encodes ps (up k) (down k) v b p q)
encode_weighted_encodes ge ps k v b p q z is =
    means
    (λ α.
    let e = is α in
    (λ w. (order_read (pos 0) (z α)).1 (omega arith), λ w. omega (arith, (order_read (pos 0) (z α)).0 w)))
    (linear_ge_encodes ps (up k) (down k) v b p q)

-- A rule over settings -----------------------------------------------------------------------------------------------

module _ (int_map : ℕ → LogEncoding) (constant : ℤ) where
  sum_comes_to : (α : Assignment) (ts : List LinearTerm)
      → ComesTo α (weighted_terms int_map ts) (offset_constant int_map constant ts) (linear_sum (λ i. get_int_value α (int_map i)) constant ts)
  sum_comes_to α [] = omega arith
  sum_comes_to α (t ∷ ts) =
      let k = t.coef in
      let o = (int_map t.var).offset in
      let B = code_of α (int_map t.var).lits in
      let z = get_int_value α (int_map t.var) in
      let s = linear_sum (λ i. get_int_value α (int_map i)) constant ts in
      let at = add_read (pos B) o in
      let w = weighted_sum k (int_map t.var).lits (weighted_terms int_map ts) α in
      omega (
        arith,
        sum_comes_to α ts,
        w.0,
        w.1,
        add_read (k *ℤ z) s,
        mul_read k z,
        add_read (k *ℤ o) (offset_constant int_map constant ts),
        mul_read k o,
        ap (λ x. up k * x) at,
        ap (λ x. down k * x) at,
      )

  pub encode_linear_log_encodes : (op : NormOp) (ts : List LinearTerm) (v : ℕ) → TermsBelow v int_map ts
      → up (offset_constant int_map constant ts) < 4294967296 → down (offset_constant int_map constant ts) < 4294967296
      → (let out = encode_linear_log int_map op constant ts v in
      Encodes v out.vars Any (λ α. LinearHolds (λ i. get_int_value α (int_map i)) (cmp_op op) constant ts) out.clauses)
  encode_linear_log_encodes op ts v h p q =
      encode_weighted_encodes op (weighted_terms int_map ts) (offset_constant int_map constant ts) v (terms_below v int_map ts h) p q _
      (λ α. sum_comes_to α ts)

  -- the clauses of Eq, in integers as log.rs has them
  pub encode_linear_log_plain : (ts : List LinearTerm) (v : ℕ) → TermsBelow v int_map ts
      → encode_linear_log int_map eq constant ts v ≡ eq_rule (plain_linear_eq (weighted_terms int_map ts) (offset_constant int_map constant ts) v)
  encode_linear_log_plain ts v h =
      ap eq_rule (sym (plain_linear_eq_is (weighted_terms int_map ts) (offset_constant int_map constant ts) v (small v (weighted_terms int_map ts) (terms_below v int_map ts h))))

-- Document 01's bounds keep the constant small -----------------------------------------------------------------------

-- coefficients within ±255, offsets from −4,095 to 0
abbrev pub InBounds : (ℕ → LogEncoding) → List LinearTerm → Type 0
InBounds int_map [] = Unit
InBounds int_map (t ∷ ts) =
    ((up t.coef + down t.coef ≤ 255) × (up (int_map t.var).offset ≡ 0) × (down (int_map t.var).offset ≤ 4095)) × InBounds int_map ts

pub offset_constant_small : (int_map : ℕ → LogEncoding) (c : ℤ) (ts : List LinearTerm) → InBounds int_map ts
    → (let k = offset_constant int_map c ts in
    (up k ≤ up c + down c + 1044225 * length ts) × (down k ≤ up c + down c + 1044225 * length ts))
offset_constant_small int_map c [] h = omega arith
offset_constant_small int_map c (t ∷ ts) h =
    let k = t.coef in
    let o = (int_map t.var).offset in
    let few : up k * down o ≤ 255 * 4095 = mul-le-mul {n₂ = 255} {m₂ = 4095} (omega (arith, h.0.0)) h.0.2 in
    let few' : down k * down o ≤ 255 * 4095 = mul-le-mul {n₂ = 255} {m₂ = 4095} (omega (arith, h.0.0)) h.0.2 in
    let none : up k * up o ≡ 0 = ap (λ x. up k * x) h.0.1 ∙ omega arith in
    let none' : down k * up o ≡ 0 = ap (λ x. down k * x) h.0.1 ∙ omega arith in
    let read = mul_read k o in
    let one_side = apart_read (k *ℤ o) in
    let step : (up (k *ℤ o) ≤ 1044225) × (down (k *ℤ o) ≤ 1044225) = omega arith in
    let one-side' = apart_read (k *ℤ o +ℤ offset_constant int_map c ts) in
    omega (arith, add_read (k *ℤ o) (offset_constant int_map c ts), offset_constant_small int_map c ts h.1)
