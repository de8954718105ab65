-- What a call that adds answers, from what its parts answer: its checks, the counting with nothing lent, the checks of space, the writing.
use mathlib.Core.Path.{◌≡◌, ◌∙◌, ap, refl, sym}
use mathlib.Core.List.{List, []}
use Prim.Native.Nat.{◌+◌, ℕ}
use lib.ListN.{length}
use native.Mathlib.Omega.{arith}
use Rattle.std.specs.Prelude.{Option, None, Some, Result, Ok, Err}
use Rattle.sat.specs.Clause.{Clauses}
use Rattle.sat.specs.Size.{entries}
use Rattle.clause_set.specs.declared.Counts.{Counts}
use Rattle.clause_set.specs.Stores.{AddedRule, Stores, add_clauses, after, stores}
use Rattle.clause_set.specs.declared.ClauseSet.{ClauseSet}
use Rattle.clause_set.proofs.Writing.{given_back, wrote_as}
use Rattle.clause_set.proofs.Adding.{count_after, used_after}
use Rattle.sat.specs.Encoded.{EncodedRule}
use Rattle.log_var.specs.declared.LogEncoding.{LogEncoding}
use Rattle.refusal.specs.Number.{number}
use Rattle.refusal.specs.declared.Refusal.{Refusal}
use Rattle.encoder_env.specs.declared.EncoderEnv.{EncoderEnv}
use Rattle.encoder_env.proofs.Kept.{kept}
use Rattle.encoder_answer.specs.declared.Written.{Written}
use Rattle.encoder_answer.specs.Adding.{adding_status, grown, job_with, space_checks, space_for}
use Rattle.encoder_answer.specs.Call.{Addition, Fits, JobAddition, JobChecks, Settles, CallWrote, JobSet, StoresWrote, call_outcome, job_added, job_after, rule, with_setting}
use Rattle.encoder_answer.specs.Outcome.{Answers, Check, adds, status_of}
use Rattle.encoder_answer.proofs.Adding.{accepted}
use Rattle.encoder_answer.proofs.Statuses.{accepts, refuses, stops, then_rest, number_some}

-- the counts after clauses that were added
counted : (clauses : Clauses) (s : Stores) {used : Counts} {d e : List ℕ} → after d e used ≡ add_clauses 0 clauses s
    → (used.lits ≡ s.used + entries clauses) × (used.clauses ≡ s.count + length clauses)
counted clauses s w = (
  ap (λ (x : Stores). x.used) w ∙ used_after 0 clauses s,
  ap (λ (x : Stores). x.count) w ∙ count_after 0 clauses s,
)

-- a record leaves the variable count
same_variables : (r : Option LogEncoding) (env : EncoderEnv) → (with_setting r env).variables ≡ env.variables
same_variables None env = refl
same_variables (Some e) env = refl

module _ (asks : JobChecks) (gives : JobAddition) (env : EncoderEnv) (lits ends : List ℕ)
    (t : Settles env (length lits) (length ends) (asks env (length lits) (length ends)) (gives env)) where
  abbrev a : Addition
  a = gives env

  abbrev checks : List Check
  checks = asks env (length lits) (length ends)

  abbrev job : EncoderEnv
  job = job_added env a

  abbrev all : ℕ
  all = adding_status checks env (length lits) (length ends) job.variables a.clauses

  abbrev Answered : Result EncoderEnv Refusal → List ℕ → List ℕ → Type 0
  Answered r = Answers (call_outcome asks gives env lits ends) (adds env r)

  -- the counts are those of the job after the call
  sized : (d e : List ℕ) {new : Written} {d₁ e₁ : List ℕ} → StoresWrote env a d e new d₁ e₁ → job_with env new.vars new.used ≡ grown env a.vars a.clauses
  sized d e w = let n = counted a.clauses (stores d e env.literals env.clauses) w.clauses in rw (w.vars, n.0, n.1)

  -- its own checks refuse it
  pub refused_before : (x : Refusal) → number x ≡ status_of checks → {r : Result EncoderEnv Refusal} → r ≡ Err x → Answered r lits ends
  refused_before x h =
      let some = number_some x in
      refuses all env lits ends _ x (h ∙ sym (stops checks (space_for env (length lits) (length ends) job.variables a.clauses) (λ z. omega arith)))

  module _ (z : 0 ≡ status_of checks) (size : Written) {d₁ e₁ : List ℕ} (w : StoresWrote env a [] [] size d₁ e₁) where
    -- the number of all checks is that of space
    of_space : status_of (space_checks size.vars size.used.lits size.used.clauses (length lits) (length ends)) ≡ all
    of_space =
        let n = counted a.clauses (stores [] [] env.literals env.clauses) w.clauses in
        rw (w.vars, n.0, n.1, same_variables a.setting (grown env a.vars a.clauses))
        (sym (then_rest checks (space_for env (length lits) (length ends) a.vars a.clauses) t.numbered (sym z)))

    -- there is no space
    pub no_space : (x : Refusal) → number x ≡ status_of (space_checks size.vars size.used.lits size.used.clauses (length lits) (length ends))
        → {r : Result EncoderEnv Refusal} → r ≡ Err x → Answered r lits ends
    no_space x h = refuses all env lits ends _ x (h ∙ of_space)

    -- it was written
    module _ (s : 0 ≡ status_of (space_checks size.vars size.used.lits size.used.clauses (length lits) (length ends)))
        (new : Written) {lits₁ ends₁ : List ℕ} (wrote : StoresWrote env a lits ends new lits₁ ends₁) where
      pub fits : Fits env new
      fits =
          let c = accepted checks env lits ends a.clauses job t.numbered (sym (s ∙ of_space)) in
          let h = kept env (length lits) (length ends) (t.formed (sym z)) in
          let m = counted a.clauses (stores lits ends env.literals env.clauses) wrote.clauses in
          record {
            clauses = omega (arith, m.1, c.ends_fit, h.ends_max);
            lits = omega (arith, m.0, c.lits_fit, h.lits_max);
            free = λ e p. t.free (sym z) e (sym wrote.setting ∙ p);
          }

      pub answered : (j : EncoderEnv) → j ≡ job_after env new → Answered (Ok j) lits₁ ends₁
      answered j is_job =
          let same : job_after env new ≡ job = ap (λ (r : Option LogEncoding). with_setting r (job_with env new.vars new.used)) wrote.setting ∙ ap (with_setting a.setting) (sized lits ends wrote) in
          accepts all env lits ends _ _ lits₁ ends₁ (s ∙ of_space)
          (record {
            status = refl;
            env = is_job ∙ same;
            value = refl;
            lits = ap (λ (x : Stores). x.lits) wrote.clauses;
            ends = ap (λ (x : Stores). x.ends) wrote.clauses;
          })

-- a rule that was written into a set of the job's stores
pub rule_wrote : {written out : EncodedRule} {s t : ClauseSet} → AddedRule s written t → written ≡ out → CallWrote (rule out) s None t
rule_wrote w e = record { wrote = wrote_as w (ap (λ (r : EncodedRule). r.vars) e) (ap (λ (r : EncodedRule). r.clauses) e); setting = refl }

-- a call that wrote into a set made of two slices, which then have what it wrote
pub stores_wrote : (env : EncoderEnv) (a : Addition) {s t : ClauseSet} {r : Option LogEncoding} {d e : List ℕ} → CallWrote a s r t → JobSet env s
    → (s.lits.ghost_name ≡ t.lits.ghost_name → d ≡ t.lits.now) → (s.ends.ghost_name ≡ t.ends.ghost_name → e ≡ t.ends.now)
    → StoresWrote env a s.lits.now s.ends.now (record { vars = t.vars; used = t.used; setting = r }) d e
stores_wrote env a {s} w j f g =
    record {
      clauses = given_back w.wrote f g ∙ (λ i. add_clauses (j.base i) a.clauses (after s.lits.now s.ends.now (j.used i)));
      vars = w.wrote.vars_are;
      setting = w.setting;
    }
