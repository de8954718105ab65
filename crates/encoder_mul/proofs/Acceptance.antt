-- A product is accepted exactly where its settings are known, its columns are not too high and there is room.
use mathlib.Core.Path.{◌≡◌}
use mathlib.Core.Bool.{◌&&◌, not, true}
use mathlib.Core.List.{List}
use mathlib.Core.Logic.Iff
use mathlib.Core.Logic.{◌↔◌}
use Prim.Native.Nat.{◌<◌, ℕ}
use lib.Dec.{ltb}
use lib.ListN.{length}
use Rattle.sat.specs.Encoded.{EncodedRule}
use Rattle.log_encoding.specs.AdderSize.{too_tall}
use Rattle.log_encoding.specs.Columns.{HeightsWithin}
use Rattle.log_encoding.proofs.Heights.{heights_within}
use Rattle.encoder_env.specs.declared.EncoderEnv.{EncoderEnv}
use Rattle.encoder_env.specs.Bounds.{WellFormed}
use Rattle.encoder_env.specs.WellFormed.{well_formed}
use Rattle.encoder_env.proofs.Bounds.{and_is, false_is, ltb_is, well_formed_is}
use Rattle.encoder_answer.specs.Adding.{grown}
use Rattle.encoder_answer.specs.Outcome.{status_of}
use Rattle.encoder_answer.proofs.Acceptance.{adding_is, check_is, last_is}
use Rattle.encoder_mul.specs.Accepted.{ProductAccepted}
use Rattle.encoder_mul.specs.Products.{mul_checks, mul_outcome, product_encoded, product_reached}
use Rattle.encoder_mul.proofs.Added.{numbered}

module _ (env : EncoderEnv) (lits ends : List ℕ) (x y m : ℕ) where
  abbrev out : EncodedRule
  out = product_encoded env x y m

  settings_are : ((ltb x env.count && ltb y env.count && ltb m env.count) ≡ true) ↔ (((x < env.count) × (y < env.count)) × (m < env.count))
  settings_are =
      and_is (ltb x env.count && ltb y env.count) (ltb m env.count)
      (and_is (ltb x env.count) (ltb y env.count) (ltb_is x env.count) (ltb_is y env.count)) (ltb_is m env.count)

  heights_are : (not (too_tall (product_reached env x y m)) ≡ true) ↔ HeightsWithin (product_reached env x y m)
  heights_are = Iff.trans (false_is (too_tall (product_reached env x y m))) (heights_within (product_reached env x y m))

  checked : (status_of (mul_checks env (length lits) (length ends) x y m) ≡ 0)
      ↔ (WellFormed env (length lits) (length ends) × ((((x < env.count) × (y < env.count)) × (m < env.count)) × HeightsWithin (product_reached env x y m)))
  checked =
      check_is (well_formed env (length lits) (length ends)) _ 0 (well_formed_is env (length lits) (length ends))
      (check_is (ltb x env.count && ltb y env.count && ltb m env.count) _ 7 settings_are
      (last_is (not (too_tall (product_reached env x y m))) 12 heights_are))

  pub mul_accepted : ((mul_outcome env lits ends x y m).status ≡ 0) ↔ ProductAccepted env (length lits) (length ends) x y m
  mul_accepted =
      Iff.trans
      (adding_is (mul_checks env (length lits) (length ends) x y m) env lits ends out.clauses (grown env out.vars out.clauses)
      (numbered env (length lits) (length ends) x y m) checked) (
        λ h.
            let c = h.0 in
            record { job = c.0; x_known = c.1.0.0.0; y_known = c.1.0.0.1; m_known = c.1.0.1; heights = c.1.1; fits = h.1 },
        λ a. ((a.job, (((a.x_known, a.y_known), a.m_known), a.heights)), a.fits),
      )
