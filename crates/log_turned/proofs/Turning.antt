-- A call's terms, the coefficients negated or not, entry by entry.
use Prim.Native.Nat.{◌%◌, ◌*◌, ◌+◌, ◌<◌, ◌≤◌, suc, zero, ℕ}
use lib.Dec.{eqb}
use lib.IntN.{◌-ℤ◌, +ℤ_idl, neg_ℤ, pos, ℤ}
use lib.ListN.{get_or, length, set, take}
use lib.Seq.{take-suc, take-suc-set}
use mathlib.Core.Bool.{Bool, cond, false, true}
use mathlib.Core.List.{List, [], ◌∷◌, map}
use mathlib.Core.Path.{◌∙◌, ◌≡◌, ap, refl, subst, sym}
use native.Mathlib.Numerals.{add-one}
use native.Mathlib.Omega.{arith}
use mir.Syntax.{w32}
use mir.Val.{SFits, of_z, to_z}
use mir.ValLaws.{to_z-of_z}
use Rattle.arithmetic.specs.Integers.{down, up}
use Rattle.arithmetic.proofs.Integers.{neg_reads}
use Rattle.norm_csp.specs.Rules.{CmpOp, LinearTerm, terms_of}
use Rattle.norm_csp.specs.Operations.{normalized}
use Rattle.norm_csp.specs.Turned.{negated, turned}
use Rattle.norm_csp.specs.declared.NormOp.{NormOp}
use Rattle.log_turned.specs.declared.LinearLit.{LinearLit}
use Rattle.log_var.specs.declared.LogEncoding.{LogEncoding as Encoding}
use Rattle.log_sum.specs.Terms.{TermsReady}
use Rattle.log_sum.proofs.Offsets.{small_fits}
use Rattle.log_turned.specs.Turning.{CoefsSmall, Summed, Turns, coefs_negated, entry_of, signed_terms}

-- A number negated by the machine ---------------------------------------------------------------------------------------

module _ (z : ℤ) (u : up z ≤ 1000001) (d : down z ≤ 1000001) where
  minus : pos 0 -ℤ z ≡ neg_ℤ z
  minus = +ℤ_idl (neg_ℤ z)

  pub minus_fits : SFits w32 (pos 0 -ℤ z)
  minus_fits = let n = neg_reads z in subst (SFits w32) (sym minus) (small_fits (neg_ℤ z) (omega arith) (omega arith))

  pub minus_is : to_z w32 (of_z w32 (pos 0 -ℤ z)) ≡ neg_ℤ z
  minus_is = to_z-of_z w32 (pos 0 -ℤ z) minus_fits ∙ minus

-- A call's terms ------------------------------------------------------------------------------------------------------

pub signed_long : (negate : Bool) (zs : List ℤ) → length (signed_terms negate zs) ≡ length zs
signed_long false zs = refl
signed_long true [] = refl
signed_long true (x ∷ []) = refl
signed_long true (x ∷ k ∷ zs) = ap (λ n. suc (suc n)) (signed_long true zs)

pub signed_at : (negate : Bool) (zs : List ℤ) (i : ℕ) → i < length zs → get_or (signed_terms negate zs) i (pos 0) ≡ entry_of negate i (get_or zs i (pos 0))
signed_at false zs i h = refl
signed_at true [] i h = absurd (omega arith)
signed_at true (x ∷ []) zero h = refl
signed_at true (x ∷ []) (suc i) h = absurd (omega arith)
signed_at true (x ∷ k ∷ zs) zero h = refl
signed_at true (x ∷ k ∷ zs) (suc zero) h = refl
signed_at true (x ∷ k ∷ zs) (suc (suc i)) h =
    let e : i % 2 ≡ suc (suc i) % 2 = omega arith in
    let z = get_or zs i (pos 0) in
    signed_at true zs i (omega arith) ∙ ap (λ (m : ℕ). cond (eqb m 1) (neg_ℤ z) z) e

-- one entry more
pub signed_more : (negate : Bool) (zs out : List ℤ) (i : ℕ) → i < length out → i < length zs → take i out ≡ take i (signed_terms negate zs)
    → take (i + 1) (set out i (entry_of negate i (get_or zs i (pos 0)))) ≡ take (i + 1) (signed_terms negate zs)
signed_more negate zs out i h k e =
    let fs = signed_terms negate zs in
    let in_list : i < length fs = omega (arith, k, signed_long negate zs) in
    rw (add-one i, take-suc-set out i (entry_of negate i (get_or zs i (pos 0))) h, take-suc fs i (pos 0) in_list, signed_at negate zs i k, e)

-- by the list of terms
pub terms_negated : (zs : List ℤ) → terms_of (coefs_negated zs) ≡ map negated (terms_of zs)
terms_negated [] = refl
terms_negated (x ∷ []) = refl
terms_negated (x ∷ k ∷ zs) = ap (λ (ts : List LinearTerm). record { var = up x; coef = neg_ℤ k } ∷ ts) (terms_negated zs)

-- what the checks settle is settled of negated coefficients too
pub ready_negated : (es : List Encoding) (zs : List ℤ) → TermsReady es zs → TermsReady es (coefs_negated zs)
ready_negated es zs r =
    let n = signed_long true zs in
    record {
      settings = r.settings;
      few = omega (arith, r.few);
      terms = λ i h.
          let k : 2 * i + 1 < length zs = omega arith in
          let t = r.terms i k in
          let even : (2 * i) % 2 ≡ 0 = omega arith in
          let odd : (2 * i + 1) % 2 ≡ 1 = omega arith in
          let x : get_or (coefs_negated zs) (2 * i) (pos 0) ≡ get_or zs (2 * i) (pos 0) = signed_at true zs (2 * i) (omega arith) ∙ rw even in
          let c : get_or (coefs_negated zs) (2 * i + 1) (pos 0) ≡ neg_ℤ (get_or zs (2 * i + 1) (pos 0)) = signed_at true zs (2 * i + 1) k ∙ rw odd in
          let m = neg_reads (get_or zs (2 * i + 1) (pos 0)) in
          rw (x, c) (record { setting = t.setting; natural = t.natural; coef_up = omega (arith, t.coef_down); coef_down = omega (arith, t.coef_up) });
    }

pub coefs_small : (es : List Encoding) (zs : List ℤ) → TermsReady es zs → CoefsSmall zs
coefs_small es zs r = record { few = r.few; coefs = λ i h. let t = r.terms i h in (t.coef_up, t.coef_down) }

-- A turned sum --------------------------------------------------------------------------------------------------------

module _ {n : NormOp} {o : CmpOp} {k c : ℤ} {zs : List ℤ} {r : LinearLit} where
  -- over the terms with their coefficients negated
  pub negated_turns : Summed n c true zs r → normalized n ≡ (turned o k (terms_of zs)).op → c ≡ (turned o k (terms_of zs)).constant
      → map negated (terms_of zs) ≡ (turned o k (terms_of zs)).terms → Turns o k zs r
  negated_turns s e f g =
      record {
        op_is = ap normalized s.op_is ∙ e;
        constant_is = s.constant_is ∙ f;
        terms_are = ap terms_of s.terms_are ∙ terms_negated zs ∙ g;
        long = s.long;
        ready = λ es h. subst (TermsReady es) (sym s.terms_are) (ready_negated es zs h);
      }
