-- A setting is accepted exactly where its arguments are within bounds and there is room.
use mathlib.Core.Path.{◌≡◌}
use mathlib.Core.Bool.{◌&&◌, true}
use mathlib.Core.List.{List, [], ◌∷◌}
use mathlib.Core.Logic.Iff
use mathlib.Core.Logic.{◌↔◌}
use Prim.Native.Nat.{◌*◌, ◌+◌, ◌-◌, ◌<◌, ◌≤◌, ℕ}
use native.Mathlib.Omega.{arith}
use lib.Dec.{leb, ltb}
use lib.IntN.{pos, ℤ}
use lib.ListN.{get_or, length}
use lib.Signed.{◌<ℤ◌, lt_z}
use Rattle.norm_csp.specs.Domain.{IntVarRepresentation, binary, list, range}
use Rattle.log_encoding.specs.EncodeVarLog.{EncodedVar, encode_var_log}
use Rattle.encoder_env.specs.declared.EncoderEnv.{EncoderEnv}
use Rattle.encoder_env.specs.Bounds.{CodeFits, InRange, WellFormed}
use Rattle.encoder_env.specs.WellFormed.{bounds_hold, code_fits, in_range, well_formed}
use Rattle.encoder_env.proofs.Bounds.{all_is, and_is, bounds_is, code_fits_is, in_range_is, leb_is, ltb_is, ltz_is, well_formed_is}
use Rattle.encoder_answer.specs.Outcome.{check, status_of}
use Rattle.encoder_answer.proofs.Acceptance.{adding_is, check_is, last_is, lists_is}
use Rattle.encoder_var.specs.Accepted.{BinaryBounds, ListBounds, SettingAccepted, VarBounds}
use Rattle.encoder_var.specs.Settings.{all_in_range, rising, setting_checks, setting_outcome, var_checks, with_encoding}
use Rattle.encoder_var.proofs.Settings.{numbered, var_numbered}

all_in_range_is : (ks : List ℤ) → (all_in_range ks ≡ true) ↔ ((i : ℕ) → i < length ks → InRange (get_or ks i (pos 0)))
all_in_range_is ks = all_is (λ i. in_range (get_or ks i (pos 0))) (length ks) (λ i. in_range_is (get_or ks i (pos 0)))

rising_is : (ks : List ℤ) → (rising ks ≡ true) ↔ ((i : ℕ) → i + 1 < length ks → get_or ks i (pos 0) <ℤ get_or ks (i + 1) (pos 0))
rising_is ks =
    Iff.trans
    (all_is (λ i. lt_z (get_or ks i (pos 0)) (get_or ks (i + 1) (pos 0))) (length ks - 1) (λ i. ltz_is (get_or ks i (pos 0)) (get_or ks (i + 1) (pos 0))))
    (λ h i k. h i (omega (arith, k)), λ h i k. h i (omega (arith, k)))

list_is : (switches : ℕ) (ks : List ℤ) → (status_of (var_checks switches (list ks)) ≡ 0) ↔ ListBounds ks
list_is switches ks = (
  λ h. let c = checked.0 h in record { some = c.0.0; most = c.0.1; values_in = c.1.0; rising = c.1.1.0; code_in = c.1.1.1 },
  λ b. checked.1 ((b.some, b.most), (b.values_in, (b.rising, b.code_in))),
)
  where
    checked : (status_of (var_checks switches (list ks)) ≡ 0)
        ↔ (((1 ≤ length ks) × (length ks ≤ 64)) × (((i : ℕ) → i < length ks → InRange (get_or ks i (pos 0)))
        × (((i : ℕ) → i + 1 < length ks → get_or ks i (pos 0) <ℤ get_or ks (i + 1) (pos 0)) × CodeFits (get_or ks 0 (pos 0)) (get_or ks (length ks - 1) (pos 0)))))
    checked =
        check_is (leb 1 (length ks) && leb (length ks) 64) _ 3 (and_is (leb 1 (length ks)) (leb (length ks) 64) (leb_is 1 (length ks)) (leb_is (length ks) 64))
        (check_is (all_in_range ks) _ 2 (all_in_range_is ks)
        (check_is (rising ks) _ 3 (rising_is ks)
        (last_is (code_fits (get_or ks 0 (pos 0)) (get_or ks (length ks - 1) (pos 0))) 2 (code_fits_is (get_or ks 0 (pos 0)) (get_or ks (length ks - 1) (pos 0))))))

binary_is : (switches c : ℕ) (f t : ℤ) → (status_of (var_checks switches (binary c f t)) ≡ 0) ↔ BinaryBounds switches c f t
binary_is switches c f t = (
  λ h. let k = checked.0 h in record { switch = k.0; f_in = k.1.0.0; t_in = k.1.0.1; below = k.1.1.0; code_in = k.1.1.1 },
  λ b. checked.1 (b.switch, ((b.f_in, b.t_in), (b.below, b.code_in))),
)
  where
    checked : (status_of (var_checks switches (binary c f t)) ≡ 0) ↔ ((c < 2 * switches) × ((InRange f × InRange t) × ((f <ℤ t) × CodeFits f t)))
    checked =
        check_is (ltb c (2 * switches)) _ 5 (ltb_is c (2 * switches))
        (check_is (in_range f && in_range t) _ 2 (and_is (in_range f) (in_range t) (in_range_is f) (in_range_is t))
        (check_is (lt_z f t) _ 4 (ltz_is f t) (last_is (code_fits f t) 2 (code_fits_is f t))))

var_is : (switches : ℕ) (repr : IntVarRepresentation) → (status_of (var_checks switches repr) ≡ 0) ↔ VarBounds switches repr
var_is switches (range low high) = last_is (bounds_hold low high) 2 (bounds_is low high)
var_is switches (list ks) = list_is switches ks
var_is switches (binary c f t) = binary_is switches c f t

module _ (env : EncoderEnv) (lits ends : List ℕ) (repr : IntVarRepresentation) where
  abbrev out : EncodedVar
  out = encode_var_log repr env.variables

  setting_checked : (status_of (setting_checks env (length lits) (length ends) repr) ≡ 0)
      ↔ (WellFormed env (length lits) (length ends) × (VarBounds env.switches repr × (env.count < 32)))
  setting_checked =
      check_is (well_formed env (length lits) (length ends)) _ 0 (well_formed_is env (length lits) (length ends))
      (lists_is (var_checks env.switches repr) (check (ltb env.count 32) 7 ∷ []) (var_numbered env.switches repr) (var_is env.switches repr)
      (last_is (ltb env.count 32) 6 (ltb_is env.count 32)))

  pub setting_accepted : ((setting_outcome env lits ends repr).status ≡ 0) ↔ SettingAccepted env (length lits) (length ends) repr
  setting_accepted =
      Iff.trans
      (adding_is (setting_checks env (length lits) (length ends) repr) env lits ends out.clauses (with_encoding env out)
      (numbered env (length lits) (length ends) repr) setting_checked)
      (λ h. record { job = h.0.0; arguments = h.0.1.0; free = h.0.1.1; fits = h.1 }, λ a. ((a.job, (a.arguments, a.free)), a.fits))
