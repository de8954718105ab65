-- Demand 3 (`demand_3`) and that readings are tested (`readings_tested`): the statements follow from what every call keeps, and every call
-- keeps it.
use Prim.Native.Nat.{◌<◌, ◌≤◌, suc, zero, ℕ}
use lib.Dec.{eqb}
use lib.IntN.{pos}
use lib.ListN.{get_or, length}
use mathlib.Core.Bool.{Bool, So, cond, false, true}
use mathlib.Core.List.{List, [], ◌∷◌}
use mathlib.Core.Path.{◌∙◌, ◌≡◌, ap, refl, subst, sym}
use native.Mathlib.Omega.{arith}
use borrow.Author.Tests.{eqb-false, eqb-true}
use Rattle.sat.specs.Clause.{Assignment, Clauses, sat}
use Rattle.sat.specs.Encodes.{Agree, ClausesBelow, LitsBelow}
use Rattle.sat.specs.Size.{entries}
use Rattle.sat.proofs.Extend.{sat_agree}
use Rattle.clause_set.specs.Bytes.{Bits, IsAssignment, all_hold}
use Rattle.clause_set.proofs.Bytes.{all_hold_sat, bytes_unique, getD_within, to_bytes, to_bytes_agree, to_bytes_assign, truth}
use Rattle.norm_csp.specs.Domain.{IntVarRepresentation, binary, list, range}
use Rattle.norm_csp.specs.NormCsp.{Meets, NormCsp, Valuation, begun, number_of, switch_of}
use Rattle.norm_csp.proofs.NormCsp.{satisfied_agree}
use Rattle.log_encoding.specs.EncodeVarLog.{encode_var_log}
use Rattle.log_var.specs.Record.{lits_of}
use Rattle.log_var.proofs.Reading.{read_bytes_is}
use Rattle.encoder_env.specs.WellFormed.{encoding_at}
use Rattle.encoder_env.proofs.Kept.{Kept, kept}
use Rattle.encoder_env.proofs.Bounds.{well_formed_is}
use Rattle.encoder_env.proofs.Records.{lits_known}
use Rattle.encoder_clauses.specs.Readable.{Readable, readable}
use Rattle.encoder_clauses.proofs.Reading.{readable_is}
use Rattle.encoder_answer.specs.Encoded.{number}
use Rattle.encoder_read.specs.Calls.{clause_checks, clause_read, open_outcome, read_checks, value_read}
use Rattle.encoder_var.specs.Settings.{setting_checks, setting_outcome, with_encoding}
use Rattle.encoder_answer.specs.Adding.{added, adding, adding_status, grown}
use Rattle.encoder_mul.specs.Products.{mul_checks, product_encoded}
use Rattle.encoder_linear.specs.Sums.{linear_checks, sum_encoded}
use Rattle.encoder_env.specs.declared.EncoderEnv.{EncoderEnv}
use Rattle.encoder_answer.specs.Outcome.{Check, Outcome, settled, status_of}
use Rattle.encoder_read.proofs.Acceptance.{read_accepted}
use Rattle.encoder_read.proofs.Known.{bits_at, bits_by}
use Rattle.encoder_answer.proofs.Statuses.{settled_accepted, settled_known, settled_refused}
use Rattle.encoder.specs.Faithful.{Demand3, ExactlyOne, Faithful, ReadsBack, Satisfies, written}
use Rattle.encoder.specs.Tested.{ReadingsTested, Tested}
use Rattle.encoder.specs.Run.{Call, State, answered, book, clause, encode_binary, encode_linear, encode_list, encode_mul, encode_range, enter, feed, get_int_value, left, outcome, run}
use Rattle.encoder.proofs.Invariant.{Invariant, number_agree, opened_invariant}
use Rattle.encoder.proofs.RuleKept.{product_kept, sum_kept}
use Rattle.encoder.proofs.SettingKept.{setting_kept}

-- the first n values of a function
module _ {A : Type 0} where
  abbrev first : ℕ → (ℕ → A) → List A
  first zero f = []
  first (suc n) f = f 0 ∷ first n (λ i. f (suc i))

  first_long : (n : ℕ) (f : ℕ → A) → length (first n f) ≡ n
  first_long zero f = refl
  first_long (suc n) f = ap suc (first_long n (λ i. f (suc i)))

  first_at : (n : ℕ) (f : ℕ → A) (d : A) (x : ℕ) → x < n → get_or (first n f) x d ≡ f x
  first_at zero f d x h = absurd (omega arith)
  first_at (suc n) f d zero h = refl
  first_at (suc n) f d (suc x) h = first_at n (λ i. f (suc i)) d x (omega arith)

-- From the invariant to the statement --------------------------------------------------------------------------------

module _ (s : State) (b : NormCsp) (cs : Clauses) (inv : Invariant s b cs) where
  abbrev v : ℕ
  v = s.env.variables

  abbrev n : ℕ
  n = length b.vars

  job : Kept s.env (length s.lits) (length s.ends)
  job = kept s.env (length s.lits) (length s.ends) inv.well

  -- the clauses written can be read
  clauses_readable : Readable s.env s.lits s.ends
  clauses_readable =
      record {
        rising = inv.ends_sound.rising;
        inside = inv.ends_sound.ends_in;
        below = subst (ClausesBelow v) (sym inv.held) inv.below;
      }

  module _ (bytes : List ℕ) (is : IsAssignment v bytes) where
    -- switch i of the bytes
    switch_value : (i : ℕ) → i < b.switches → eqb (get_or bytes i 0) 1 ≡ truth bytes i
    switch_value i h = ap (λ (x : ℕ). eqb x 1) (getD_within bytes i 0 2 (omega (arith, is.long, inv.switches, job.switches_in)))

    clauses_are : all_hold bytes (written s) ≡ sat (truth bytes) cs
    clauses_are =
        let below = subst (λ (m : ℕ). ClausesBelow m cs) (sym is.long) inv.below in
        ap (all_hold bytes) inv.held ∙ all_hold_sat bytes cs is.bits below

  -- Readings under an assignment that satisfies the clauses
  module _ (bytes : List ℕ) (sat : Satisfies s bytes) where
    read_status : (x : ℕ) → x < n → (outcome s (get_int_value x bytes)).status ≡ 0
    read_status x h =
        (read_accepted s.env s.lits s.ends x bytes).1
        (record {
          job = (well_formed_is s.env (length s.lits) (length s.ends)).0 inv.well;
          clauses = clauses_readable;
          setting = omega (arith, inv.count);
          long = sat.assigns.long;
          bits = λ i _. bits_at bytes i sat.assigns.bits;
          satisfied = sat.clauses;
        })

    read_value : (x : ℕ) → x < n → (outcome s (get_int_value x bytes)).value ≡ number s.env (truth bytes) x
    read_value x h =
        let e = encoding_at s.env x in
        let known : LitsBelow (length bytes) (lits_of e) = rw sat.assigns.long (lits_known s.env (length s.lits) (length s.ends) x job (omega (arith, inv.count))) in
        ap (λ (o : Outcome). o.value) (settled_known (status_of (read_checks s.env s.lits s.ends x bytes)) s.env s.lits s.ends _ (read_status x h)).1
        ∙ read_bytes_is bytes e sat.assigns.bits known

    -- where the switches and numbers are those of a choice, the bytes read back as it
    reads_back : (ch : Valuation) → Agree b.switches (truth bytes) (switch_of ch) → ((x : ℕ) → x < n → number s.env (truth bytes) x ≡ number_of ch x)
        → ReadsBack s b bytes ch
    reads_back ch same numbers =
        record {
          switches = λ i h. switch_value bytes sat.assigns i h ∙ same i h;
          accepted = read_status;
          numbers = λ x h. read_value x h ∙ numbers x h;
        }

  satisfied : (bytes : List ℕ) → Satisfies s bytes → So (sat (truth bytes) cs)
  satisfied bytes h = sym (clauses_are bytes h.assigns) ∙ h.clauses

  -- the choice that an assignment reads as
  abbrev reading : Assignment → Valuation
  reading α = record { switches = first b.switches α; numbers = first n (number s.env α) }

  every : (bytes : List ℕ) → Satisfies s bytes → (ch : Valuation) × Meets b ch × ReadsBack s b bytes ch
  every bytes h =
      let α = truth bytes in
      let same : Agree b.switches α (switch_of (reading α)) = λ i k. sym (first_at b.switches α false i k) in
      let numbers : (x : ℕ) → x < n → number s.env α x ≡ number_of (reading α) x = λ x k. sym (first_at n (number s.env α) (pos 0) x k) in (
        reading α,
        record {
          all_switches = first_long b.switches α;
          all_numbers = first_long n (number s.env α);
          satisfied = satisfied_agree b α (switch_of (reading α)) (number s.env α) (number_of (reading α)) inv.known same numbers (inv.sound α (satisfied bytes h));
        },
        reads_back bytes h (reading α) same numbers,
      )

  each : (ch : Valuation) → Meets b ch → ExactlyOne (λ bytes. Satisfies s bytes × ReadsBack s b bytes ch)
  each ch m =
      let (β, same, h, numbers) = inv.complete (switch_of ch) (number_of ch) m.satisfied in
      let bytes = to_bytes v β in
      let is = to_bytes_assign v β in
      let agree = to_bytes_agree v β in
      let holds : So (sat (truth bytes) cs) = subst So (sat_agree v β (truth bytes) agree cs inv.below) h in
      let satisfies : Satisfies s bytes = record { assigns = is; clauses = clauses_are bytes is ∙ holds } in
      let same_switch : Agree b.switches (truth bytes) (switch_of ch) =
      λ i k. sym (agree i (omega (arith, inv.switches, job.switches_in))) ∙ sym (same i k) in
      let same_number : (x : ℕ) → x < n → number s.env (truth bytes) x ≡ number_of ch x =
      λ x k. sym (number_agree s b cs inv β (truth bytes) agree x k) ∙ numbers x k in (
        bytes,
        (satisfies, reads_back bytes satisfies ch same_switch same_number),
        λ other p.
            let js = p.0.assigns in
            bytes_unique v other bytes js is
            (inv.unique (truth other) (truth bytes) (satisfied other p.0) holds
            (λ i k. sym (switch_value other js i k) ∙ p.1.switches i k ∙ sym (same_switch i k))
            (λ x k. sym (read_value other p.0 x k) ∙ p.1.numbers x k ∙ sym (same_number x k))),
      )

  faithful : Faithful s b
  faithful = record { each = each; every = every }

  -- A reading is accepted only under an assignment that satisfies the clauses, and its value is then one that the setting permits
  reading_known : (x : ℕ) (bytes : List ℕ) → (outcome s (get_int_value x bytes)).status ≡ 0 → (x < n) × Satisfies s bytes
  reading_known x bytes h =
      let a = (read_accepted s.env s.lits s.ends x bytes).0 h in
      (omega (arith, a.setting, inv.count), record { assigns = record { long = a.long; bits = bits_by bytes a.bits }; clauses = a.satisfied })

  tested : Tested s b
  tested =
      record {
        exact = λ x bytes. (reading_known x bytes, λ k. read_status bytes k.1 x k.0);
        permitted =
            λ x bytes h.
            let (lt, sat) = reading_known x bytes h in
            (satisfied_agree b (truth bytes) (λ i. eqb (get_or bytes i 0) 1) (number s.env (truth bytes)) (λ y. (outcome s (get_int_value y bytes)).value) inv.known
            (λ i k. sym (switch_value bytes sat.assigns i k)) (λ y k. sym (read_value bytes sat y k)) (inv.sound (truth bytes) (satisfied bytes sat))).values x lt;
      }

-- Every call keeps the invariant -------------------------------------------------------------------------------------

-- a refusal leaves the job and the stores as they were
module _ (status : ℕ) (s : State) (ok : Outcome) where
  abbrev answer : Outcome
  answer = settled status s.env s.lits s.ends ok

  settled_left : (answer ≡ ok → left ok ≡ s) → left answer ≡ s
  settled_left k = go (eqb status 0) refl
    where
      go : (t : Bool) → eqb status 0 ≡ t → left answer ≡ s
      go true e = let same = settled_accepted status status refl s.env s.lits s.ends ok (eqb-true status 0 e) in ap left same ∙ k same
      go false e = ap left (settled_refused status status refl s.env s.lits s.ends ok (eqb-false status 0 e))

adding_refused : (s : State) (checks : List Check) (clauses : Clauses) (job : EncoderEnv)
    → (let o = adding checks s.env s.lits s.ends clauses job in (o.status ≡ 0 → ⊥) → left o ≡ s)
adding_refused s checks clauses job h =
    settled_left (adding_status checks s.env (length s.lits) (length s.ends) job.variables clauses) s
    (added s.env s.lits s.ends clauses job) (λ e. absurd (h (ap (λ (o : Outcome). o.status) e)))

setting_refused : (s : State) (repr : IntVarRepresentation)
    → (let o = setting_outcome s.env s.lits s.ends repr in (o.status ≡ 0 → ⊥) → left o ≡ s)
setting_refused s repr h =
    let out = encode_var_log repr s.env.variables in
    adding_refused s (setting_checks s.env (length s.lits) (length s.ends) repr) out.clauses (with_encoding s.env out) h

reading_left : (s : State) (x : ℕ) (bytes : List ℕ) → left (outcome s (get_int_value x bytes)) ≡ s
reading_left s x bytes = settled_left (status_of (read_checks s.env s.lits s.ends x bytes)) s (value_read s.env s.lits s.ends x bytes) (λ e. refl)

clause_left : (s : State) (k : ℕ) → left (outcome s (clause k)) ≡ s
clause_left s k = settled_left (status_of (clause_checks s.env (length s.lits) s.ends k)) s (clause_read s.env s.lits s.ends k) (λ e. refl)

pub call_refused : (s : State) (c : Call) → ((outcome s c).status ≡ 0 → ⊥) → left (outcome s c) ≡ s
call_refused s (encode_range low high) h = setting_refused s (range low high) h
call_refused s (encode_list ks) h = setting_refused s (list ks) h
call_refused s (encode_binary c f t) h = setting_refused s (binary c f t) h
call_refused s (encode_linear op constant terms) h =
    let out = sum_encoded s.env op constant terms in
    adding_refused s (linear_checks s.env (length s.lits) (length s.ends) op constant terms) out.clauses (grown s.env out.vars out.clauses) h
call_refused s (encode_mul x y m) h =
    let out = product_encoded s.env x y m in
    adding_refused s (mul_checks s.env (length s.lits) (length s.ends) x y m) out.clauses (grown s.env out.vars out.clauses) h
call_refused s (get_int_value x bytes) h = reading_left s x bytes
call_refused s (clause k) h = clause_left s k

call_accepted : (s : State) (b : NormCsp) (cs : Clauses) → Invariant s b cs → (c : Call) → (outcome s c).status ≡ 0 → (ds : Clauses) × Invariant (left (outcome s c)) (enter c b) ds
call_accepted s b cs inv (encode_range low high) h = setting_kept s b cs inv (range low high) h
call_accepted s b cs inv (encode_list ks) h = setting_kept s b cs inv (list ks) h
call_accepted s b cs inv (encode_binary c f t) h = setting_kept s b cs inv (binary c f t) h
call_accepted s b cs inv (encode_linear op constant terms) h = sum_kept s b cs inv op constant terms h
call_accepted s b cs inv (encode_mul x y m) h = product_kept s b cs inv x y m h
call_accepted s b cs inv (get_int_value x bytes) h = (cs, subst (λ (t : State). Invariant t b cs) (sym (reading_left s x bytes)) inv)
call_accepted s b cs inv (clause k) h = (cs, subst (λ (t : State). Invariant t b cs) (sym (clause_left s k)) inv)

call_kept : (s : State) (b : NormCsp) (cs : Clauses) → Invariant s b cs → (c : Call)
    → (ds : Clauses) × Invariant (left (outcome s c)) (feed b (record { call = c; status = (outcome s c).status })) ds
call_kept s b cs inv c = go (eqb (outcome s c).status 0) refl
  where
    go : (t : Bool) → eqb (outcome s c).status 0 ≡ t → (ds : Clauses) × Invariant (left (outcome s c)) (cond t (enter c b) b) ds
    go true e = call_accepted s b cs inv c (eqb-true (outcome s c).status 0 e)
    go false e = (cs, subst (λ (t : State). Invariant t b cs) (sym (call_refused s c (eqb-false (outcome s c).status 0 e))) inv)

-- All calls ----------------------------------------------------------------------------------------------------------

run_kept : (s : State) (b : NormCsp) (cs : Clauses) → Invariant s b cs → (calls : List Call)
    → (ds : Clauses) × Invariant (run s calls) (book b (answered s calls)) ds
run_kept s b cs inv [] = (cs, inv)
run_kept s b cs inv (c ∷ calls) =
    let (ds, next) = call_kept s b cs inv c in
    run_kept (left (outcome s c)) (feed b (record { call = c; status = (outcome s c).status })) ds next calls

module _ (switches : ℕ) (lits ends : List ℕ) (opened : (open_outcome switches lits ends).status ≡ 0) (calls : List Call) where
  abbrev end : State
  end = run (left (open_outcome switches lits ends)) calls

  invariant : (ds : Clauses) × Invariant end (book (begun switches) (answered (left (open_outcome switches lits ends)) calls)) ds
  invariant = run_kept (left (open_outcome switches lits ends)) (begun switches) [] (opened_invariant switches lits ends opened) calls

  -- of the clauses written: their literals are of the job's variables, and they take all literal entries in use, each once
  pub written_known : Kept end.env (length end.lits) (length end.ends) × ClausesBelow end.env.variables (written end) × (entries (written end) ≡ end.env.literals)
  written_known =
      let (ds, inv) = invariant in (
        kept end.env (length end.lits) (length end.ends) inv.well,
        subst (ClausesBelow end.env.variables) (sym inv.held) inv.below,
        ap entries inv.held ∙ inv.counted,
      )

  -- and they can be read
  pub run_readable : readable end.env end.lits end.ends ≡ true
  run_readable =
      let (ds, inv) = invariant in
      (readable_is end.env end.lits end.ends).1 ((well_formed_is end.env (length end.lits) (length end.ends)).0 inv.well, clauses_readable end _ ds inv)

pub demand_3 : Demand3
demand_3 switches lits ends h calls = let (ds, inv) = invariant switches lits ends h calls in faithful _ _ ds inv

pub readings_tested : ReadingsTested
readings_tested switches lits ends h calls = let (ds, inv) = invariant switches lits ends h calls in tested _ _ ds inv
