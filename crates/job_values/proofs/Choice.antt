-- An accepted file leaves as many settings and switches as its book has (`file_counted`), so that the values printed are those of a choice
-- (`values_printed`).
use Prim.Native.Nat.{◌+◌, ◌<◌, suc, zero, ℕ}
use lib.Dec.{eqb}
use lib.IntN.{pos}
use lib.ListN.{get_or, length, length-append, set}
use mathlib.Core.Bool.{Bool, cond, false, true}
use mathlib.Core.List.{List, [], ◌∷◌}
use mathlib.Core.Path.{◌∙◌, ◌≡◌, ap, refl, subst, sym}
use native.Mathlib.Omega.{arith}
use Rattle.log_encoding.specs.EncodeVarLog.{encode_var_log}
use Rattle.norm_csp.specs.Domain.{IntVarRepresentation, binary, list, range}
use Rattle.norm_csp.specs.NormCsp.{NormCsp, Valuation, add_var, begun, number_of, switch_of}
use Rattle.encoder.specs.Faithful.{ReadsBack}
use Rattle.encoder.specs.Run.{Call, State, clause, encode_binary, encode_linear, encode_list, encode_mul, encode_range, enter, get_int_value, left, outcome, run}
use Rattle.encoder_answer.proofs.Statuses.{settled_known}
use Rattle.encoder_answer.specs.Adding.{added, grown}
use Rattle.encoder_answer.specs.Outcome.{Outcome, settled, status_of}
use Rattle.encoder_env.specs.declared.EncoderEnv.{EncoderEnv}
use Rattle.encoder_linear.specs.Sums.{linear_status, sum_encoded}
use Rattle.encoder_mul.specs.Products.{mul_status, product_encoded}
use Rattle.encoder_read.specs.Calls.{clause_checks, clause_read, open_checks, open_outcome, opened, read_checks, value_read}
use Rattle.encoder_var.specs.Settings.{setting_outcome, setting_status, with_encoding}
use Rattle.job_file.proofs.AcceptedRun.{accepted_is_run}
use Rattle.job_file.specs.Accepted.{AllAccepted, book_of, calls_of, entered, left_by, switches_of}
use Rattle.job_file.specs.Run.{run_file}
use Rattle.values_text.specs.Values.{lines_from, setting_at, setting_line, settings_from, switch_at, switch_line, switches_from, values_text}
use Rattle.job_values.specs.Theorems.{ValuesPrinted, choice_text}
use Rattle.job_values.specs.Values.{given}
use Rattle.job_values.proofs.Accepted.{values_meet, values_read}

-- The counts of an accepted file -------------------------------------------------------------------------------------

record Counted (s : State) (b : NormCsp) : Type 0 where
  count : s.env.count ≡ length b.vars
  switches : s.env.switches ≡ b.switches

-- an accepted outcome counts as what it then leaves does
settled_counted : (status : ℕ) (env : EncoderEnv) (lits ends : List ℕ) (ok : Outcome) (b : NormCsp)
    → (let o = settled status env lits ends ok in o.status ≡ 0 → Counted (left ok) b → Counted (left o) b)
settled_counted status env lits ends ok b h k = subst (λ (o : Outcome). Counted (left o) b) (sym (settled_known status env lits ends ok h).1) k

module _ (s : State) (b : NormCsp) (k : Counted s b) where
  setting_counted : (repr : IntVarRepresentation)
      → (let o = setting_outcome s.env s.lits s.ends repr in o.status ≡ 0 → Counted (left o) (add_var repr b))
  setting_counted repr h =
      let out = encode_var_log repr s.env.variables in
      settled_counted (setting_status s.env (length s.lits) (length s.ends) repr) s.env s.lits s.ends
      (added s.env s.lits s.ends out.clauses (with_encoding s.env out)) (add_var repr b) h
      (record { count = rw length-append (omega (arith, k.count)); switches = k.switches })

  call_counted : (c : Call) → (outcome s c).status ≡ 0 → Counted (left (outcome s c)) (enter c b)
  call_counted (encode_range low high) h = setting_counted (range low high) h
  call_counted (encode_list ks) h = setting_counted (list ks) h
  call_counted (encode_binary c f t) h = setting_counted (binary c f t) h
  call_counted (encode_linear op constant terms) h =
      let out = sum_encoded s.env op constant terms in
      settled_counted (linear_status s.env (length s.lits) (length s.ends) op constant terms) s.env s.lits s.ends
      (added s.env s.lits s.ends out.clauses (grown s.env out.vars out.clauses)) (enter (encode_linear op constant terms) b) h
      (record { count = k.count; switches = k.switches })
  call_counted (encode_mul x y m) h =
      let out = product_encoded s.env x y m in
      settled_counted (mul_status s.env (length s.lits) (length s.ends) x y m) s.env s.lits s.ends
      (added s.env s.lits s.ends out.clauses (grown s.env out.vars out.clauses)) (enter (encode_mul x y m) b) h
      (record { count = k.count; switches = k.switches })
  call_counted (get_int_value x bytes) h =
      settled_counted (status_of (read_checks s.env s.lits s.ends x bytes)) s.env s.lits s.ends
      (value_read s.env s.lits s.ends x bytes) b h k
  call_counted (clause n) h =
      settled_counted (status_of (clause_checks s.env (length s.lits) s.ends n)) s.env s.lits s.ends
      (clause_read s.env s.lits s.ends n) b h k

calls_counted : (s : State) (b : NormCsp) (cs : List Call) → Counted s b → AllAccepted s cs → Counted (run s cs) (entered b cs)
calls_counted s b [] k a = k
calls_counted s b (c ∷ cs) k a = calls_counted (left (outcome s c)) (enter c b) cs (call_counted s b k c a.0) a.1

open_counted : (n : ℕ) (lits ends : List ℕ) → (open_outcome n lits ends).status ≡ 0 → Counted (left (open_outcome n lits ends)) (begun n)
open_counted n lits ends h =
    settled_counted (status_of (open_checks n (length lits) (length ends))) (opened 0) lits ends
    (record { status = 0; env = opened n; value = pos 0; part = []; lits = lits; ends = set ends 0 0 }) (begun n) h
    (record { count = refl; switches = refl })

file_counted : (file lits ends : List ℕ) → (run_file file lits ends).status ≡ 0 → Counted (left_by (run_file file lits ends)) (book_of file)
file_counted file lits ends h =
    let ran = accepted_is_run file lits ends h in
    let first = open_counted (switches_of file) lits ends ran.opening in
    subst (λ (s : State). Counted s (book_of file)) (sym ran.calls) (calls_counted _ (begun (switches_of file)) (calls_of file) first ran.accepted)

-- The text -----------------------------------------------------------------------------------------------------------

lines_same : (f g : ℕ → List ℕ) (i k : ℕ) → ((j : ℕ) → j < i + k → f j ≡ g j) → lines_from f i k ≡ lines_from g i k
unfolding lines_from
lines_same f g i zero h = refl
lines_same f g i (suc k) h = rw (h i (omega arith), lines_same f g (suc i) k (λ j l. h j (omega (arith, l))))

-- a switch's line, by what its byte says
switch_same : (i b : ℕ) (t : Bool) → eqb b 1 ≡ t → switch_line i b ≡ switch_line i (cond t 1 0)
unfolding switch_line
switch_same i b true e = rw e
switch_same i b false e = rw e

choice_printed : (s : State) (b : NormCsp) (bytes : List ℕ) (ch : Valuation) → Counted s b → ReadsBack s b bytes ch
    → values_text s.env s.lits s.ends bytes ≡ choice_text b ch
unfolding values_text settings_from switches_from choice_text
choice_printed s b bytes ch k back =
    let setting = setting_at s.env s.lits s.ends bytes in
    let settings = ap (λ (n : ℕ). lines_from setting 0 n) k.count
    ∙ lines_same setting (λ i. setting_line i (number_of ch i)) 0 (length b.vars) (λ i h. ap (setting_line i) (back.numbers i (omega (arith, h)))) in
    let switches = ap (λ (n : ℕ). lines_from (switch_at bytes) 0 n) k.switches
    ∙ lines_same (switch_at bytes) (λ i. switch_line i (cond (switch_of ch i) 1 0)) 0 b.switches (λ i h. switch_same i (get_or bytes i 0) (switch_of ch i) (back.switches i (omega (arith, h)))) in
    rw (settings, switches)

pub values_printed : ValuesPrinted
values_printed file lits ends text h found holds =
    let r = run_file file lits ends in
    let (ch, meets, back) = values_meet file lits ends text h holds in
    (ch, meets, (values_read file lits ends text h found holds).printed ∙ choice_printed (left_by r) (book_of file) (given r text) ch (file_counted file lits ends h) back)
