-- What the leaf functions of a setting call say of its outcome.
use mathlib.Core.Path.{◌≡◌, ◌∙◌, ap, refl, subst, sym}
use mathlib.Core.Bool.{◌&&◌, cond, false≢true, true}
use mathlib.Core.List.{List, [], ◌∷◌}
use Prim.Native.Nat.{◌*◌, ◌+◌, ◌-◌, ◌<◌, ◌≤◌, suc, ℕ}
use lib.Dec.{leb, lit<, ltb}
use lib.IntN.{pos, ℤ}
use lib.ListN.{get_or, length}
use lib.Signed.{lt_z}
use native.Mathlib.Numerals.{add-one}
use native.Mathlib.Omega.{arith}
use borrow.Author.Tests.{le-leb, lt-ltb, ltb-true}
use Rattle.std.specs.Prelude.{Some}
use Rattle.refusal.specs.Number.{number}
use Rattle.refusal.specs.declared.Refusal.{Refusal}
use Rattle.arithmetic.specs.Integers.{down}
use Rattle.clause_set.specs.declared.Counts.{Counts}
use Rattle.clause_set.specs.declared.ClauseSet.{ClauseSet}
use Rattle.clause_set.proofs.Writing.{wrote_as}
use Rattle.norm_csp.proofs.NormCsp.{KnownVar}
use Rattle.norm_csp.specs.Domain.{IntVarRepresentation, RisingFrom, binary, last_from, list, range}
use Rattle.log_var.specs.Calls.{Ready, VarAdded, lowest}
use Rattle.log_encoding.specs.EncodeVarLog.{Encodable, encode_var_log}
use Rattle.norm_csp.proofs.Domain.{rising_last}
use Rattle.log_var.proofs.Calls.{last_at}
use Rattle.log_var.specs.declared.LogEncoding.{LogEncoding}
use Rattle.log_var.specs.Record.{record_of}
use Rattle.encoder_env.specs.declared.EncoderEnv.{EncoderEnv}
use Rattle.encoder_env.specs.WellFormed.{bounds_hold, code_fits, in_range, lez, well_formed}
use Rattle.encoder_env.proofs.Kept.{Kept, all_at, kept, well_formed_of}
use Rattle.encoder_env.proofs.Tests.{both, bounds_known, lt_lez, order_lez}
use Rattle.encoder_answer.specs.Call.{CallWrote, JobSet, Settles}
use Rattle.encoder_var.specs.Settings.{all_in_range, rising, setting_checks, setting_given, var_checks}
use Rattle.encoder_answer.specs.Outcome.{Check, Numbered, check, status_of}
use Rattle.encoder_answer.proofs.Statuses.{number_some, numbered_both, passed, stops, then_rest}

-- a job with a free record, and arguments that the leaf function takes
pub record Admitted (env : EncoderEnv) (lits ends : ℕ) (repr : IntVarRepresentation) : Type 0 where
  pub holds : Kept env lits ends
  pub free : env.count < 32
  pub known : KnownVar env.switches repr
  pub encodable : Encodable env.variables repr
  pub low : down (lowest repr) ≤ 4095

admit : (env : EncoderEnv) (lits ends : ℕ) (repr : IntVarRepresentation) → Kept env lits ends → ltb env.count 32 ≡ true
    → KnownVar env.switches repr → Encodable env.variables repr → down (lowest repr) ≤ 4095 → Admitted env lits ends repr
admit env lits ends repr k n v e l =
    record { holds = k; free = ltb-true env.count 32 n; known = v; encodable = e; low = l }

-- its sets are ready for the setting's clauses
pub admitted_ready : {env : EncoderEnv} {lits ends : ℕ} {repr : IntVarRepresentation} → Admitted env lits ends repr
    → {s : ClauseSet} → JobSet env s → Ready repr s
admitted_ready {repr = repr} a j =
    let k = a.holds in
    record {
      encodable = subst (λ v. Encodable v repr) (sym j.vars) a.encodable;
      low = a.low;
      vars_fit = omega (arith, j.vars, k.variables_max);
      lits_fit = omega (arith, j.base, ap (λ (x : Counts). x.lits) j.used, k.literals_in, k.lits_max);
      clauses_fit = omega (arith, ap (λ (x : Counts). x.clauses) j.used, k.clauses_in, k.ends_max);
    }

range_admitted : (env : EncoderEnv) (lits ends : ℕ) (low high : ℤ)
    → status_of (setting_checks env lits ends (range low high)) ≡ 0 → Admitted env lits ends (range low high)
range_admitted env lits ends low high h =
    let w = passed (well_formed env lits ends) _ 0 h in
    let b = passed (bounds_hold low high) _ 2 w.1 in
    let n = passed (ltb env.count 32) 0 6 b.1 in
    let v = bounds_known low high b.0 in
    admit env lits ends (range low high) (kept env lits ends w.0) n.0 tt (v.ordered, omega (arith, v.code_max)) v.low_max

-- of values in range and in order, the bounds ask for the code of the higher one
pub bounds_code : (low high : ℤ) → in_range low ≡ true → in_range high ≡ true → lez low high ≡ true → bounds_hold low high ≡ code_fits low high
unfolding bounds_hold
bounds_code low high a b c = rw (a, b, c)

binary_admitted : (env : EncoderEnv) (lits ends c : ℕ) (f t : ℤ)
    → status_of (setting_checks env lits ends (binary c f t)) ≡ 0 → Admitted env lits ends (binary c f t)
binary_admitted env lits ends c f t h =
    let w = passed (well_formed env lits ends) _ 0 h in
    let s = passed (ltb c (2 * env.switches)) _ 5 w.1 in
    let r = passed (in_range f && in_range t) _ 2 s.1 in
    let o = passed (lt_z f t) _ 4 r.1 in
    let m = passed (code_fits f t) _ 2 o.1 in
    let n = passed (ltb env.count 32) 0 6 m.1 in
    let i = both (in_range f) (in_range t) r.0 in
    let k = kept env lits ends w.0 in
    let v = bounds_known f t (bounds_code f t i.0 i.1 (lt_lez f t o.0) ∙ m.0) in
    let s-known = ltb-true c (2 * env.switches) s.0 in
    admit env lits ends (binary c f t) k n.0 s-known
    (omega (arith, s-known, k.switches_in), record { lt = rw o.0 tt }, omega (arith, v.code_max)) v.low_max

-- values that rise by their places rise one after the other
rises : (k : ℤ) (ks : List ℤ) → ((i : ℕ) → i < length ks → lt_z (get_or (k ∷ ks) i (pos 0)) (get_or (k ∷ ks) (suc i) (pos 0)) ≡ true) → RisingFrom k ks
rises k [] h = tt
rises k (m ∷ ks) h = (record { lt = rw (h 0 (omega arith)) tt }, rises m ks (λ i p. h (suc i) (omega (arith, p))))

rising_known : (k : ℤ) (ks : List ℤ) → rising (k ∷ ks) ≡ true → RisingFrom k ks
rising_known k ks h =
    rises k ks
    (λ i p.
    rw add-one at (all_at (λ j. lt_z (get_or (k ∷ ks) j (pos 0)) (get_or (k ∷ ks) (j + 1) (pos 0))) (length (k ∷ ks) - 1) i h (omega (arith, p))))

-- of a list in range and rising, the bounds ask for the code of the last value
pub list_bounds : (ks : List ℤ) → 1 ≤ length ks → all_in_range ks ≡ true → rising ks ≡ true
    → bounds_hold (get_or ks 0 (pos 0)) (get_or ks (length ks - 1) (pos 0)) ≡ code_fits (get_or ks 0 (pos 0)) (get_or ks (length ks - 1) (pos 0))
list_bounds [] n a r = absurd (omega (arith, n))
list_bounds (k ∷ ks) n a r =
    let in-at : (i : ℕ) → i < length (k ∷ ks) → in_range (get_or (k ∷ ks) i (pos 0)) ≡ true = λ i p. all_at (λ j. in_range (get_or (k ∷ ks) j (pos 0))) (length (k ∷ ks)) i a p in
    let e = last_at k ks in
    bounds_code k (get_or (k ∷ ks) (length (k ∷ ks) - 1) (pos 0)) (in-at 0 (omega arith)) (in-at (length (k ∷ ks) - 1) (omega arith))
    (rw e (order_lez k (last_from k ks) (rising_last k ks (rising_known k ks r))))

list_admitted : (env : EncoderEnv) (lits ends : ℕ) (ks : List ℤ)
    → status_of (setting_checks env lits ends (list ks)) ≡ 0 → Admitted env lits ends (list ks)
list_admitted env lits ends [] h =
    let w = passed (well_formed env lits ends) _ 0 h in
    absurd (false≢true (passed (leb 1 0 && leb 0 64) 0 3 w.1).0)
list_admitted env lits ends (z ∷ zs) h =
    let ks : List ℤ = z ∷ zs in
    let w = passed (well_formed env lits ends) _ 0 h in
    let l = passed (leb 1 (length ks) && leb (length ks) 64) _ 3 w.1 in
    let a = passed (all_in_range ks) _ 2 l.1 in
    let r = passed (rising ks) _ 3 a.1 in
    let m = passed (code_fits (get_or ks 0 (pos 0)) (get_or ks (length ks - 1) (pos 0))) _ 2 r.1 in
    let n = passed (ltb env.count 32) 0 6 m.1 in
    let v = bounds_known z (get_or ks (length ks - 1) (pos 0)) (list_bounds ks (omega arith) a.0 r.0 ∙ m.0) in
    let e = last_at z zs in
    admit env lits ends (list ks) (kept env lits ends w.0) n.0 tt (rising_known z zs r.0, rw (← e) (omega (arith, v.code_max))) v.low_max

pub admitted : (env : EncoderEnv) (lits ends : ℕ) (repr : IntVarRepresentation)
    → status_of (setting_checks env lits ends repr) ≡ 0 → Admitted env lits ends repr
admitted env lits ends (range low high) h = range_admitted env lits ends low high h
admitted env lits ends (list ks) h = list_admitted env lits ends ks h
admitted env lits ends (binary c f t) h = binary_admitted env lits ends c f t h

-- no number is 0
pub var_numbered : (switches : ℕ) (repr : IntVarRepresentation) → Numbered (var_checks switches repr)
var_numbered s (range low high) = (lit< tt, tt)
var_numbered s (list ks) = (lit< tt, (lit< tt, (lit< tt, (lit< tt, tt))))
var_numbered s (binary c f t) = (lit< tt, (lit< tt, (lit< tt, (lit< tt, tt))))

pub numbered : (env : EncoderEnv) (lits ends : ℕ) (repr : IntVarRepresentation) → Numbered (setting_checks env lits ends repr)
numbered env lits ends repr = (lit< tt, numbered_both (var_checks env.switches repr) _ (var_numbered env.switches repr) (lit< tt, tt))

-- The call -----------------------------------------------------------------------------------------------------------

module _ (env : EncoderEnv) (lits ends : ℕ) (repr : IntVarRepresentation) where
  -- what the checks settle
  pub setting_settles : Settles env lits ends (setting_checks env lits ends repr) (setting_given env repr)
  setting_settles =
      record {
        numbered = numbered env lits ends repr;
        formed = λ h. well_formed_of env lits ends (admitted env lits ends repr h).holds;
        free = λ h e some. (admitted env lits ends repr h).free;
      }

  abbrev own : List Check
  own = var_checks env.switches repr

  abbrev last : List Check
  last = check (ltb env.count 32) 7 ∷ []

  -- the arguments are refused, or the number of free records decides
  pub arguments_refused : well_formed env lits ends ≡ true → (x : Refusal) → number x ≡ status_of own → number x ≡ status_of (setting_checks env lits ends repr)
  arguments_refused w x h = let some = number_some x in rw w (h ∙ sym (stops own last (λ z. omega arith)))

  pub free_decides : well_formed env lits ends ≡ true → 0 ≡ status_of own → status_of (setting_checks env lits ends repr) ≡ cond (ltb env.count 32) 0 7
  free_decides w h = rw w (then_rest own last (var_numbered env.switches repr) (sym h))

-- the setting was written
pub setting_wrote : (env : EncoderEnv) (repr : IntVarRepresentation) {s t : ClauseSet} {r : LogEncoding} → JobSet env s → VarAdded repr s r t
    → CallWrote (setting_given env repr) s (Some r) t
setting_wrote env repr j v =
    let same = λ (x : ℕ). encode_var_log repr x in
    record {
      wrote = wrote_as v.wrote (ap (λ x. (same x).vars) j.vars) (ap (λ x. (same x).clauses) j.vars);
      setting = ap Some (v.encoding ∙ ap (λ x. record_of (same x).encoding) j.vars);
    }

-- The arguments, by their last check -----------------------------------------------------------------------------------

module _ (switches : ℕ) where
  pub list_decides : (ks : List ℤ) → 1 ≤ length ks → length ks ≤ 64 → all_in_range ks ≡ true → rising ks ≡ true
      → status_of (var_checks switches (list ks)) ≡ cond (bounds_hold (get_or ks 0 (pos 0)) (get_or ks (length ks - 1) (pos 0))) 0 3
  list_decides ks n m inside rises =
      rw (le-leb 1 (length ks) n, le-leb (length ks) 64 m, inside, rises, list_bounds ks n inside rises) refl

  pub binary_decides : (c : ℕ) (f t : ℤ) → c < 2 * switches → in_range f ≡ true → in_range t ≡ true → lt_z f t ≡ true
      → status_of (var_checks switches (binary c f t)) ≡ cond (bounds_hold f t) 0 3
  binary_decides c f t s a b l = rw (lt-ltb c (2 * switches) s, a, b, l, bounds_code f t a b (lt_lez f t l)) refl
