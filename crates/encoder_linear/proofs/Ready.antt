-- What the checks of a sum settle for the leaf functions.
use mathlib.Core.Path.{◌≡◌, ◌∙◌, sym}
use mathlib.Core.Bool.{cond, not}
use mathlib.Core.List.{List, [], ◌∷◌}
use Prim.Native.Nat.{◌<◌, ℕ}
use native.Mathlib.Omega.{arith}
use lib.Dec.{ltb}
use lib.IntN.{ℤ}
use Rattle.refusal.specs.Number.{number}
use Rattle.refusal.specs.declared.Refusal.{Refusal}
use Rattle.log_encoding.specs.AdderSize.{greatest_height, too_tall}
use Rattle.encoder_answer.specs.Outcome.{Check, check, status_of}
use Rattle.encoder_answer.proofs.Statuses.{number_some, stops, then_rest}
use Rattle.log_sum.specs.Terms.{TermsReady}
use Rattle.encoder_env.specs.declared.EncoderEnv.{EncoderEnv}
use Rattle.encoder_env.proofs.Kept.{all_at, well_formed_of}
use Rattle.encoder_answer.specs.Call.{Settles, rule}
use Rattle.encoder_linear.specs.Sums.{argument_checks, coef_at, coef_fits, linear_checks, setting_at, setting_known, sum_encoded, sum_reached, term_count}
use Rattle.encoder_linear.proofs.Added.{ArgumentsKnown, arguments_numbered, coef_small, numbered, setting_below, sum_known}
use Rattle.encoder_answer.proofs.Ready.{setting_ready}

-- what the checks settle for the leaf functions
pub terms_ready : (env : EncoderEnv) (lits ends op : ℕ) (constant : ℤ) (terms : List ℤ) → ArgumentsKnown env lits ends op constant terms
    → TermsReady env.encodings terms
terms_ready env lits ends op constant terms a =
    record {
      settings = setting_ready env lits ends a.holds;
      few = a.few;
      terms = λ i h.
          let lt : i < term_count terms = omega arith in
          let s = setting_below env.count (setting_at terms i) (all_at (λ j. setting_known env.count (setting_at terms j)) (term_count terms) i a.settings lt) in
          let c = coef_small (coef_at terms i) (all_at (λ j. coef_fits (coef_at terms j)) (term_count terms) i a.coefs lt) in
          record { setting = omega (arith, s.0, a.holds.count_max); natural = s.1; coef_up = omega arith; coef_down = omega arith };
    }

-- what the checks settle of the call
pub sum_settles : (env : EncoderEnv) (lits ends op : ℕ) (constant : ℤ) (terms : List ℤ)
    → Settles env lits ends (linear_checks env lits ends op constant terms) (rule (sum_encoded env op constant terms))
sum_settles env lits ends op constant terms =
    record {
      numbered = numbered env lits ends op constant terms;
      formed = λ h. well_formed_of env lits ends (sum_known env lits ends op constant terms h).arguments.holds;
      free = λ h e none. cc;
    }

-- all checks but those of space, by the first and by the height
module _ (env : EncoderEnv) (lits ends op : ℕ) (constant : ℤ) (terms : List ℤ) where
  abbrev first : List Check
  first = argument_checks env lits ends op constant terms

  abbrev last : List Check
  last = check (not (too_tall (sum_reached env op constant terms))) 13 ∷ []

  pub refused_first : (x : Refusal) → number x ≡ status_of first → number x ≡ status_of (linear_checks env lits ends op constant terms)
  refused_first x h = let some = number_some x in h ∙ sym (stops first last (λ z. omega arith))

  pub height_decides : 0 ≡ status_of first → {n : ℕ} → n ≡ greatest_height (sum_reached env op constant terms)
      → status_of (linear_checks env lits ends op constant terms) ≡ cond (not (ltb 12 n)) 0 13
  height_decides h e = rw e (then_rest first last (arguments_numbered env lits ends op constant terms) (sym h))
