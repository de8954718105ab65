-- An accepted sum: its terms are known and within bounds (`SumKnown`), and its clauses are right (`linear_encodes`, `linear_exact`).
use mathlib.Core.Path.{◌≡◌, ap₂, refl, subst, sym}
use mathlib.Core.Bool.{◌&&◌, false, not, true}
use mathlib.Core.List.{List, [], ◌∷◌}
use Prim.Native.Nat.{◌%◌, ◌*◌, ◌+◌, ◌<◌, ◌≤◌, suc, ℕ}
use native.Mathlib.Omega.{arith}
use lib.Dec.{eqb, leb, lit<}
use lib.IntN.{◌*ℤ◌, ◌+ℤ◌, negsuc, pos, ℤ}
use lib.ListN.{length}
use lib.Signed.{lt_z}
use borrow.Author.Tests.{leb-true, ltb-true, not-true}
use Rattle.arithmetic.specs.Integers.{down, up}
use Rattle.arithmetic.proofs.Integers.{apart_read, less_read}
use Rattle.sat.specs.Clause.{Assignment}
use Rattle.sat.specs.Encodes.{Agree, Any, Encodes}
use Rattle.norm_csp.specs.Rules.{Compares, LinearHolds, LinearTerm, cmp_op_of, linear_sum, terms_of}
use Rattle.log_encoding.specs.AdderSize.{too_tall}
use Rattle.log_encoding.specs.EncodeLinearLog.{TermsBelow}
use Rattle.log_encoding.proofs.EncodeLinearLog.{InBounds}
use Rattle.log_encoding.proofs.Turned.{encode_turned_encodes}
use Rattle.encoder_env.specs.declared.EncoderEnv.{EncoderEnv}
use Rattle.encoder_env.specs.WellFormed.{eqz, int_map, lez, well_formed}
use Rattle.encoder_env.proofs.Kept.{Kept, all_at, in_use, kept}
use Rattle.encoder_env.proofs.Records.{lits_known}
use Rattle.encoder_env.proofs.Tests.{both, lez_read}
use Rattle.encoder_answer.specs.Adding.{grown}
use Rattle.encoder_linear.specs.Encoded.{LinearEncodes, LinearExact}
use Rattle.encoder_answer.specs.Encoded.{RuleEncodes, RuleExact, number}
use Rattle.encoder_answer.specs.Outcome.{Check, Numbered, check, status_of}
use Rattle.encoder_linear.specs.Sums.{argument_checks, coef_at, coef_fits, coefs_fit, constant_fits, linear_checks, linear_outcome, operation_known, setting_at, setting_known, settings_known, settings_rise, sum_encoded, sum_reached, term_count, terms_paired}
use Rattle.encoder_answer.proofs.Adding.{RuleAdded, known, number_same, rule_encodes, rule_exact}
use Rattle.encoder_answer.proofs.Statuses.{both_lists, passed}

-- Terms --------------------------------------------------------------------------------------------------------------

-- a term of a known setting, with a coefficient within bounds
pub record TermKnown (count : ℕ) (t : LinearTerm) : Type 0 where
  pub setting : t.var < count
  pub coef : up t.coef + down t.coef ≤ 255

abbrev pub AllKnown : ℕ → List LinearTerm → Type 0
AllKnown count [] = Unit
AllKnown count (t ∷ ts) = TermKnown count t × AllKnown count ts

abbrev term_at : List ℤ → ℕ → LinearTerm
term_at terms i = record { var = up (setting_at terms i); coef = coef_at terms i }

terms_at : (count : ℕ) (terms : List ℤ) → ((i : ℕ) → i < term_count terms → TermKnown count (term_at terms i)) → AllKnown count (terms_of terms)
terms_at count [] h = tt
terms_at count (x ∷ []) h = tt
terms_at count (x ∷ k ∷ terms) h = (h 0 (omega arith), terms_at count terms (λ i lt. later i (h (suc i) (omega (arith, lt)))))
  where
    later : (i : ℕ) → TermKnown count (term_at (x ∷ k ∷ terms) (suc i)) → TermKnown count (term_at terms i)
    later i t =
        let e : 2 * suc i ≡ suc (suc (2 * i)) = omega arith in
        let f : 2 * suc i + 1 ≡ suc (suc (2 * i + 1)) = omega arith in
        rw e at (rw f at t)

pub setting_below : (count : ℕ) (z : ℤ) → setting_known count z ≡ true → (up z < count) × (down z ≡ 0)
setting_below count z h =
    let b = both (lez (pos 0) z) (lt_z z (pos count)) h in
    let p = lez_read (pos 0) z b.0 in
    (omega (arith, p, less_read z (pos count) (record { lt = rw b.1 tt }), apart_read z), omega (arith, p, apart_read z))

pub coef_small : (k : ℤ) → coef_fits k ≡ true → up k + down k ≤ 255
coef_small k h =
    let b = both (lez (negsuc 254) k && lez k (pos 255)) (not (eqz k (pos 0))) h in
    let c = both (lez (negsuc 254) k) (lez k (pos 255)) b.0 in
    omega (arith, lez_read (negsuc 254) k c.0, lez_read k (pos 255) c.1, apart_read k)

terms_known : (count : ℕ) (terms : List ℤ) → settings_known count terms ≡ true → coefs_fit terms ≡ true → AllKnown count (terms_of terms)
terms_known count terms s c =
    terms_at count terms
    (λ i lt.
    record {
      setting = (setting_below count (setting_at terms i) (all_at (λ j. setting_known count (setting_at terms j)) (term_count terms) i s lt)).0;
      coef = coef_small (coef_at terms i) (all_at (λ j. coef_fits (coef_at terms j)) (term_count terms) i c lt);
    })

few_terms : (terms : List ℤ) → 2 * length (terms_of terms) ≤ length terms
few_terms [] = omega arith
few_terms (x ∷ []) = omega arith
few_terms (x ∷ k ∷ terms) = omega (arith, few_terms terms)

-- A sum that passed the checks ---------------------------------------------------------------------------------------

module _ (env : EncoderEnv) (lits ends op : ℕ) (constant : ℤ) (terms : List ℤ) where
  pub record ArgumentsKnown : Type 0 where
    pub holds : Kept env lits ends
    pub op_known : op < 6
    pub few : length terms ≤ 12
    pub settings : settings_known env.count terms ≡ true
    pub coefs : coefs_fit terms ≡ true
    pub constant_small : up constant + down constant ≤ 1000000

  pub arguments_known : status_of (argument_checks env lits ends op constant terms) ≡ 0 → ArgumentsKnown
  arguments_known h =
      let w = passed (well_formed env lits ends) _ 0 h in
      let o = passed (operation_known op) _ 11 w.1 in
      let p = passed (terms_paired terms) _ 8 o.1 in
      let s = passed (settings_known env.count terms) _ 7 p.1 in
      let r = passed (settings_rise terms) _ 8 s.1 in
      let c = passed (coefs_fit terms) _ 9 r.1 in
      let k = passed (constant_fits constant) _ 10 c.1 in
      let b = both (lez (negsuc 999999) constant) (lez constant (pos 1000000)) k.0 in
      record {
        holds = kept env lits ends w.0;
        op_known = ltb-true op 6 o.0;
        few = leb-true (length terms) 12 (both (leb (length terms) 12) (eqb (length terms % 2) 0) p.0).0;
        settings = s.0;
        coefs = c.0;
        constant_small = omega (arith, lez_read (negsuc 999999) constant b.0, lez_read constant (pos 1000000) b.1, apart_read constant);
      }

  pub arguments_numbered : Numbered (argument_checks env lits ends op constant terms)
  arguments_numbered = (lit< tt, (lit< tt, (lit< tt, (lit< tt, (lit< tt, (lit< tt, (lit< tt, tt)))))))

  pub numbered : Numbered (linear_checks env lits ends op constant terms)
  numbered = (lit< tt, (lit< tt, (lit< tt, (lit< tt, (lit< tt, (lit< tt, (lit< tt, (lit< tt, tt))))))))

  pub record SumKnown : Type 0 where
    pub arguments : ArgumentsKnown
    pub terms_are : AllKnown env.count (terms_of terms)
    pub heights : too_tall (sum_reached env op constant terms) ≡ false

  pub sum_known : status_of (linear_checks env lits ends op constant terms) ≡ 0 → SumKnown
  sum_known h =
      let b = both_lists (argument_checks env lits ends op constant terms) (check (not (too_tall (sum_reached env op constant terms))) 13 ∷ []) arguments_numbered h in
      let a = arguments_known b.0 in
      record {
        arguments = a;
        terms_are = terms_known env.count terms a.settings a.coefs;
        heights = not-true (too_tall (sum_reached env op constant terms)) (passed (not (too_tall (sum_reached env op constant terms))) 0 12 b.1).0;
      }

  module _ (k : Kept env lits ends) where
    below : (ts : List LinearTerm) → AllKnown env.count ts → TermsBelow env.variables (int_map env) ts
    below [] h = tt
    below (t ∷ ts) h = ((lits_known env lits ends t.var k h.0.setting, omega (arith, h.0.coef)), below ts h.1)

    in_bounds : (ts : List LinearTerm) → AllKnown env.count ts → InBounds (int_map env) ts
    in_bounds [] h = tt
    in_bounds (t ∷ ts) h =
        let r = in_use env lits ends t.var k h.0.setting in
        ((h.0.coef, r.offset_up, r.offset_down), in_bounds ts h.1)

  -- assignments that agree on the job's variables give the terms the same sum
  sum_same : Kept env lits ends → (α β : Assignment) → Agree env.variables α β → (ts : List LinearTerm) → AllKnown env.count ts
      → linear_sum (number env α) constant ts ≡ linear_sum (number env β) constant ts
  sum_same k α β g [] h = refl
  sum_same k α β g (t ∷ ts) h =
      ap₂ (λ (a b : ℤ). t.coef *ℤ a +ℤ b) (number_same env lits ends k α β g t.var h.0.setting) (sum_same k α β g ts h.1)

  pub sum_encodes : SumKnown
      → (let out = sum_encoded env op constant terms in
      Encodes env.variables out.vars Any (λ α. LinearHolds (number env α) (cmp_op_of op) constant (terms_of terms)) out.clauses)
  sum_encodes s =
      let ts = terms_of terms in
      let a = s.arguments in
      encode_turned_encodes (int_map env) (cmp_op_of op) constant ts env.variables (below a.holds ts s.terms_are)
      (in_bounds a.holds ts s.terms_are) (omega (arith, few_terms terms, a.constant_small, a.few))

-- An accepted sum ----------------------------------------------------------------------------------------------------

module _ (env : EncoderEnv) (lits ends : List ℕ) (op : ℕ) (constant : ℤ) (terms : List ℤ) where
  abbrev Rule : Assignment → Type 0
  Rule α = LinearHolds (number env α) (cmp_op_of op) constant (terms_of terms)

  abbrev checks : List Check
  checks = linear_checks env (length lits) (length ends) op constant terms

  pub sum_added : (linear_outcome env lits ends op constant terms).status ≡ 0
      → SumKnown env (length lits) (length ends) op constant terms × RuleAdded checks env lits ends (sum_encoded env op constant terms) Rule
  sum_added h =
      let out = sum_encoded env op constant terms in
      let a = known checks env lits ends out.clauses (grown env out.vars out.clauses) (numbered env (length lits) (length ends) op constant terms) h in
      let s = sum_known env (length lits) (length ends) op constant terms a.passed_all in
      (s, record { holds = s.arguments.holds; accepted = a; says = sum_encodes env (length lits) (length ends) op constant terms s })

  encoded : RuleEncodes env (linear_outcome env lits ends op constant terms) Rule
  encoded h = rule_encodes checks env lits ends (sum_encoded env op constant terms) Rule (sum_added h).1

  exact : RuleExact env (linear_outcome env lits ends op constant terms) Rule
  exact h =
      let (s, a) = sum_added h in
      rule_exact checks env lits ends (sum_encoded env op constant terms) Rule a
      (λ α β g r.
      subst (Compares (cmp_op_of op)) (sym (sum_same env (length lits) (length ends) op constant terms a.holds α β g (terms_of terms) s.terms_are)) r)
      h

pub linear_encodes : LinearEncodes
linear_encodes = encoded

pub linear_exact : LinearExact
linear_exact = exact
