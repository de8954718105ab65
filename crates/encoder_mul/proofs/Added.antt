-- An accepted product: its settings are known (`ProductKnown`), and its clauses are right (`mul_encodes`, `mul_exact`).
use mathlib.Core.Path.{◌≡◌, ◌∙◌, ap₂, sym}
use mathlib.Core.Bool.{◌&&◌, false, not}
use mathlib.Core.List.{List, [], ◌∷◌}
use Prim.Native.Nat.{◌<◌, ℕ}
use native.Mathlib.Omega.{arith}
use lib.Dec.{lit<, ltb}
use lib.IntN.{◌*ℤ◌, ℤ}
use lib.ListN.{length}
use borrow.Author.Tests.{ltb-true, not-true}
use Rattle.sat.specs.Clause.{Assignment}
use Rattle.norm_csp.specs.Rules.{MulHolds}
use Rattle.log_encoding.specs.AdderSize.{too_tall}
use Rattle.log_encoding.proofs.EncodeMulLog.{Factor, encode_mul_log_encodes}
use Rattle.encoder_env.specs.declared.EncoderEnv.{EncoderEnv}
use Rattle.encoder_env.specs.WellFormed.{int_map, well_formed}
use Rattle.encoder_env.proofs.Kept.{Kept, in_use, kept}
use Rattle.encoder_env.proofs.Records.{lits_known}
use Rattle.encoder_env.proofs.Tests.{both}
use Rattle.encoder_answer.specs.Adding.{grown}
use Rattle.encoder_mul.specs.Encoded.{MulEncodes, MulExact}
use Rattle.encoder_answer.specs.Encoded.{RuleEncodes, RuleExact, number}
use Rattle.encoder_answer.specs.Outcome.{Check, Numbered, check, status_of}
use Rattle.encoder_mul.specs.Products.{argument_checks, mul_checks, mul_outcome, product_encoded, product_reached}
use Rattle.encoder_answer.proofs.Adding.{RuleAdded, known, number_same, rule_encodes, rule_exact}
use Rattle.encoder_answer.proofs.Statuses.{both_lists, passed}

module _ (env : EncoderEnv) (lits ends x y m : ℕ) where
  -- its settings are known where it passed the first checks
  pub record FactorsKnown : Type 0 where
    pub holds : Kept env lits ends
    pub x_known : x < env.count
    pub y_known : y < env.count
    pub m_known : m < env.count

  pub factors_known : status_of (argument_checks env lits ends x y m) ≡ 0 → FactorsKnown
  factors_known h =
      let w = passed (well_formed env lits ends) _ 0 h in
      let s = (passed (ltb x env.count && ltb y env.count && ltb m env.count) 0 7 w.1).0 in
      let b = both (ltb x env.count && ltb y env.count) (ltb m env.count) s in
      let c = both (ltb x env.count) (ltb y env.count) b.0 in
      record {
        holds = kept env lits ends w.0;
        x_known = ltb-true x env.count c.0;
        y_known = ltb-true y env.count c.1;
        m_known = ltb-true m env.count b.1;
      }

  -- a product that passed all but those of space
  pub record ProductKnown : Type 0 where
    pub holds : Kept env lits ends
    pub x_known : x < env.count
    pub y_known : y < env.count
    pub m_known : m < env.count
    pub heights : too_tall (product_reached env x y m) ≡ false

  pub arguments_numbered : Numbered (argument_checks env lits ends x y m)
  arguments_numbered = (lit< tt, (lit< tt, tt))

  pub product_known : status_of (mul_checks env lits ends x y m) ≡ 0 → ProductKnown
  product_known h =
      let p = both_lists (argument_checks env lits ends x y m) (check (not (too_tall (product_reached env x y m))) 13 ∷ []) arguments_numbered h in
      let t = passed (not (too_tall (product_reached env x y m))) 0 12 p.1 in
      let f = factors_known p.0 in
      record {
        holds = f.holds;
        x_known = f.x_known;
        y_known = f.y_known;
        m_known = f.m_known;
        heights = not-true (too_tall (product_reached env x y m)) t.0;
      }

  pub numbered : Numbered (mul_checks env lits ends x y m)
  numbered = (lit< tt, (lit< tt, (lit< tt, tt)))

  factor : Kept env lits ends → (i : ℕ) → i < env.count → Factor env.variables (int_map env i)
  factor k i h =
      let r = in_use env lits ends i k h in
      record { lits_below = lits_known env lits ends i k h; not_positive = r.offset_up; bounded = omega (arith, r.offset_down) }

module _ (env : EncoderEnv) (lits ends : List ℕ) (x y m : ℕ) where
  abbrev Rule : Assignment → Type 0
  Rule α = MulHolds (number env α) x y m

  abbrev checks : List Check
  checks = mul_checks env (length lits) (length ends) x y m

  pub product_added : (mul_outcome env lits ends x y m).status ≡ 0
      → ProductKnown env (length lits) (length ends) x y m × RuleAdded checks env lits ends (product_encoded env x y m) Rule
  product_added h =
      let out = product_encoded env x y m in
      let a = known checks env lits ends out.clauses (grown env out.vars out.clauses) (numbered env (length lits) (length ends) x y m) h in
      let p = product_known env (length lits) (length ends) x y m a.passed_all in
      let f = factor env (length lits) (length ends) x y m p.holds in
      let says = encode_mul_log_encodes (int_map env) x y m env.variables (f x p.x_known) (f y p.y_known) (f m p.m_known) in
      (p, record { holds = p.holds; accepted = a; says = says })

  encoded : RuleEncodes env (mul_outcome env lits ends x y m) Rule
  encoded h = rule_encodes checks env lits ends (product_encoded env x y m) Rule (product_added h).1

  exact : RuleExact env (mul_outcome env lits ends x y m) Rule
  exact h =
      let (p, a) = product_added h in
      rule_exact checks env lits ends (product_encoded env x y m) Rule a
      (λ α β g r.
      let same = number_same env (length lits) (length ends) a.holds α β g in
      ap₂ (λ (i j : ℤ). i *ℤ j) (same x p.x_known) (same y p.y_known) ∙ r ∙ sym (same m p.m_known))
      h

pub mul_encodes : MulEncodes
mul_encodes = encoded

pub mul_exact : MulExact
mul_exact = exact
