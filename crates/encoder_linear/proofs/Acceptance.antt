-- A sum is accepted exactly where its arguments are within bounds, its columns are not too high and there is room.
use mathlib.Core.Path.{◌≡◌}
use mathlib.Core.Bool.{◌&&◌, not, true}
use mathlib.Core.List.{List}
use mathlib.Core.Logic.Iff
use mathlib.Core.Logic.{◌↔◌}
use Prim.Native.Nat.{◌%◌, ◌+◌, ◌-◌, ◌<◌, ◌≤◌, ℕ}
use native.Mathlib.Omega.{arith}
use lib.Dec.{eqb, leb}
use lib.IntN.{negsuc, pos, ℤ}
use lib.ListN.{length}
use lib.Signed.{◌<ℤ◌, lt_z}
use Rattle.sat.specs.Encoded.{EncodedRule}
use Rattle.log_encoding.specs.AdderSize.{too_tall}
use Rattle.log_encoding.specs.Columns.{HeightsWithin}
use Rattle.log_encoding.proofs.Heights.{heights_within}
use Rattle.encoder_env.specs.declared.EncoderEnv.{EncoderEnv}
use Rattle.encoder_env.specs.Bounds.{WellFormed}
use Rattle.encoder_env.specs.WellFormed.{eqz, lez, well_formed}
use Rattle.encoder_env.proofs.Bounds.{all_is, and_is, eqb_is, eqz_is, false_is, leb_is, lez_is, ltb_is, ltz_is, not_is, well_formed_is}
use Rattle.encoder_answer.specs.Adding.{grown}
use Rattle.encoder_answer.specs.Outcome.{status_of}
use Rattle.encoder_answer.proofs.Acceptance.{adding_is, check_is, last_is}
use Rattle.encoder_linear.specs.Accepted.{CoefBounds, ConstantBounds, Known, SumAccepted}
use Rattle.encoder_linear.specs.Sums.{coef_at, coef_fits, coefs_fit, constant_fits, linear_checks, linear_outcome, operation_known, setting_at, setting_known, settings_known, settings_rise, sum_encoded, sum_reached, term_count, terms_paired}
use Rattle.encoder_linear.proofs.Added.{numbered}

known_is : (count : ℕ) (x : ℤ) → (setting_known count x ≡ true) ↔ Known count x
known_is count x = and_is (lez (pos 0) x) (lt_z x (pos count)) (lez_is (pos 0) x) (ltz_is x (pos count))

coef_is : (k : ℤ) → (coef_fits k ≡ true) ↔ CoefBounds k
coef_is k =
    Iff.trans
    (and_is (lez (negsuc 254) k && lez k (pos 255)) (not (eqz k (pos 0)))
    (and_is (lez (negsuc 254) k) (lez k (pos 255)) (lez_is (negsuc 254) k) (lez_is k (pos 255))) (not_is (eqz k (pos 0)) (eqz_is k (pos 0))))
    (λ h. record { least = h.0.0; most = h.0.1; not_zero = h.1 }, λ b. ((b.least, b.most), b.not_zero))

constant_is : (k : ℤ) → (constant_fits k ≡ true) ↔ ConstantBounds k
constant_is k =
    Iff.trans (and_is (lez (negsuc 999999) k) (lez k (pos 1000000)) (lez_is (negsuc 999999) k) (lez_is k (pos 1000000)))
    (λ h. record { least = h.0; most = h.1 }, λ b. (b.least, b.most))

module _ (terms : List ℤ) where
  paired_is : (terms_paired terms ≡ true) ↔ ((length terms ≤ 12) × (length terms % 2 ≡ 0))
  paired_is = and_is (leb (length terms) 12) (eqb (length terms % 2) 0) (leb_is (length terms) 12) (eqb_is (length terms % 2) 0)

  settings_are : (count : ℕ) → (settings_known count terms ≡ true) ↔ ((i : ℕ) → i < term_count terms → Known count (setting_at terms i))
  settings_are count = all_is (λ i. setting_known count (setting_at terms i)) (term_count terms) (λ i. known_is count (setting_at terms i))

  rising_is : (settings_rise terms ≡ true) ↔ ((i : ℕ) → i + 1 < term_count terms → setting_at terms i <ℤ setting_at terms (i + 1))
  rising_is =
      Iff.trans
      (all_is (λ i. lt_z (setting_at terms i) (setting_at terms (i + 1))) (term_count terms - 1) (λ i. ltz_is (setting_at terms i) (setting_at terms (i + 1))))
      (λ h i k. h i (omega (arith, k)), λ h i k. h i (omega (arith, k)))

  coefs_are : (coefs_fit terms ≡ true) ↔ ((i : ℕ) → i < term_count terms → CoefBounds (coef_at terms i))
  coefs_are = all_is (λ i. coef_fits (coef_at terms i)) (term_count terms) (λ i. coef_is (coef_at terms i))

module _ (env : EncoderEnv) (lits ends : List ℕ) (op : ℕ) (constant : ℤ) (terms : List ℤ) where
  abbrev out : EncodedRule
  out = sum_encoded env op constant terms

  operation_is : (operation_known op ≡ true) ↔ (op ≤ 5)
  operation_is = Iff.trans (ltb_is op 6) (λ h. omega (arith, h), λ h. omega (arith, h))

  heights_are : (not (too_tall (sum_reached env op constant terms)) ≡ true) ↔ HeightsWithin (sum_reached env op constant terms)
  heights_are = Iff.trans (false_is (too_tall (sum_reached env op constant terms))) (heights_within (sum_reached env op constant terms))

  checked : (status_of (linear_checks env (length lits) (length ends) op constant terms) ≡ 0)
      ↔ (WellFormed env (length lits) (length ends) × ((op ≤ 5) × (((length terms ≤ 12) × (length terms % 2 ≡ 0))
      × (((i : ℕ) → i < term_count terms → Known env.count (setting_at terms i))
      × (((i : ℕ) → i + 1 < term_count terms → setting_at terms i <ℤ setting_at terms (i + 1))
      × (((i : ℕ) → i < term_count terms → CoefBounds (coef_at terms i)) × (ConstantBounds constant × HeightsWithin (sum_reached env op constant terms))))))))
  checked =
      check_is (well_formed env (length lits) (length ends)) _ 0 (well_formed_is env (length lits) (length ends))
      (check_is (operation_known op) _ 11 operation_is
      (check_is (terms_paired terms) _ 8 (paired_is terms)
      (check_is (settings_known env.count terms) _ 7 (settings_are terms env.count)
      (check_is (settings_rise terms) _ 8 (rising_is terms)
      (check_is (coefs_fit terms) _ 9 (coefs_are terms)
      (check_is (constant_fits constant) _ 10 (constant_is constant) (last_is (not (too_tall (sum_reached env op constant terms))) 12 heights_are)))))))

  pub linear_accepted : ((linear_outcome env lits ends op constant terms).status ≡ 0) ↔ SumAccepted env (length lits) (length ends) op constant terms
  linear_accepted =
      Iff.trans
      (adding_is (linear_checks env (length lits) (length ends) op constant terms) env lits ends out.clauses (grown env out.vars out.clauses)
      (numbered env (length lits) (length ends) op constant terms) checked) (
        λ h.
            let c = h.0.1.1 in
            let d = c.1.1.1 in
            record {
              job = h.0.0;
              operation = h.0.1.0;
              six = c.0.0;
              paired = c.0.1;
              settings = c.1.0;
              rising = c.1.1.0;
              coefs = d.0;
              constant_in = d.1.0;
              heights = d.1.1;
              fits = h.1;
            },
        λ a. ((a.job, (a.operation, ((a.six, a.paired), (a.settings, (a.rising, (a.coefs, (a.constant_in, a.heights))))))), a.fits),
      )
