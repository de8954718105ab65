-- An accepted call that adds (`known`): what it had, and what it left. Of a rule: what its clauses say (`rule_encodes`, `rule_exact`), and
-- that the job stays well formed (`rule_well_formed`).
use mathlib.Core.Path.{◌≡◌, ◌∙◌, ap, refl}
use mathlib.Core.Bool.{◌&&◌, true}
use mathlib.Core.List.{List}
use Prim.Native.Nat.{◌+◌, ◌-◌, ◌<◌, ◌≤◌, ℕ}
use native.Mathlib.Omega.{arith}
use lib.Dec.{leb}
use lib.ListN.{get_or, length}
use borrow.Author.Tests.{leb-true}
use Rattle.sat.specs.Clause.{Assignment, Clauses}
use Rattle.sat.specs.Encoded.{EncodedRule}
use Rattle.arithmetic.specs.Offset.{value}
use Rattle.sat.specs.Encodes.{Agree, Any, Encodes}
use Rattle.sat.proofs.Extend.{exactly_when}
use Rattle.sat.proofs.Number.{code_agree}
use Rattle.sat.specs.Size.{entries}
use Rattle.clause_set.specs.Stores.{Stores, add_clauses, clauses_after, clauses_from, stores}
use Rattle.clause_set.proofs.ReadBack.{added_back, from_after, kept_end, kept_long}
use Rattle.encoder_env.specs.declared.EncoderEnv.{EncoderEnv}
use Rattle.log_var.specs.Record.{lits_of}
use Rattle.encoder_env.specs.WellFormed.{all_below, encoding_at, record_holds, well_formed}
use Rattle.encoder_env.proofs.Kept.{Kept, well_formed_of}
use Rattle.encoder_env.proofs.Records.{lits_known, records_more}
use Rattle.encoder_env.proofs.Tests.{both}
use Rattle.encoder_answer.specs.Adding.{added, adding, adding_status, grown}
use Rattle.encoder_answer.specs.Encoded.{RuleExact, added_clauses, number}
use Rattle.encoder_answer.specs.Outcome.{Check, Numbered, Outcome, status_of}
use Rattle.encoder_answer.proofs.Statuses.{both_lists, passed, settled_accepted, settled_known}

module _ (checks : List Check) (env : EncoderEnv) (lits ends : List ℕ) (clauses : Clauses) (job : EncoderEnv) where
  abbrev outcome : Outcome
  outcome = adding checks env lits ends clauses job

  abbrev status : ℕ
  status = adding_status checks env (length lits) (length ends) job.variables clauses

  -- the stores after the call
  abbrev filled : Stores
  filled = add_clauses 0 clauses (stores lits ends env.literals env.clauses)

  pub record Accepted : Type 0 where
    pub passed_all : status_of checks ≡ 0
    pub vars_fit : job.variables ≤ 65535
    pub lits_fit : env.literals + entries clauses ≤ length lits
    pub ends_fit : env.clauses + length clauses + 1 ≤ length ends
    pub outcome_is : outcome ≡ added env lits ends clauses job

  pub accepted : Numbered checks → status ≡ 0 → Accepted
  accepted n h =
      let s = both_lists checks _ n h in
      let v = passed (leb job.variables 65535) _ 13 s.1 in
      let room-lits = leb (env.literals + entries clauses) (length lits) in
      let room-ends = leb (env.clauses + length clauses + 1) (length ends) in
      let r = both room-lits room-ends (passed (room-lits && room-ends) 0 14 v.1).0 in
      record {
        passed_all = s.0;
        vars_fit = leb-true job.variables 65535 v.0;
        lits_fit = leb-true (env.literals + entries clauses) (length lits) r.0;
        ends_fit = leb-true (env.clauses + length clauses + 1) (length ends) r.1;
        outcome_is = settled_accepted status status refl env lits ends _ h;
      }

  pub known : Numbered checks → outcome.status ≡ 0 → Accepted
  known n h = accepted n (settled_known status env lits ends _ h).0

  module _ (a : Accepted) (counted : job.clauses ≡ env.clauses + length clauses) where
    -- the clauses added are read back from the stores, whatever these held
    pub clauses_are : added_clauses env outcome ≡ clauses
    clauses_are =
        let e : job.clauses - env.clauses ≡ length clauses = omega (arith, counted) in
        ap (added_clauses env) a.outcome_is
        ∙ rw e (added_back clauses (stores lits ends env.literals env.clauses) a.lits_fit (omega (arith, a.ends_fit)))

    -- where the last end is the literal count, as in every job grown from an opening, they are the clauses from the old count on
    pub clauses_read : get_or ends env.clauses 0 ≡ env.literals
        → clauses_from outcome.lits outcome.ends env.clauses (outcome.env.clauses - env.clauses) ≡ added_clauses env outcome
    clauses_read e =
        let n = outcome.env.clauses - env.clauses in
        let same : get_or outcome.ends env.clauses 0 ≡ env.literals =
        ap (λ (o : Outcome). get_or o.ends env.clauses 0) a.outcome_is
        ∙ kept_end clauses (stores lits ends env.literals env.clauses) env.clauses (omega arith) ∙ e in
        from_after n env.clauses outcome.lits outcome.ends ∙ ap (λ (b : ℕ). clauses_after outcome.lits outcome.ends b env.clauses n) same

    -- the job stays well formed where its records do
    pub still_well_formed : Kept env (length lits) (length ends) → env.switches ≡ job.switches → env.variables ≤ job.variables
        → job.literals ≡ env.literals + entries clauses → job.count ≤ 32 → all_below 32 (record_holds job) ≡ true
        → well_formed job (length filled.lits) (length filled.ends) ≡ true
    still_well_formed k s v l c r =
        let long = kept_long clauses (stores lits ends env.literals env.clauses) in
        well_formed_of job (length filled.lits) (length filled.ends)
        (record {
          lits_max = omega (arith, long, k.lits_max);
          ends_max = omega (arith, long, k.ends_max);
          switches_max = omega (arith, s, k.switches_max);
          variables_max = a.vars_fit;
          switches_in = omega (arith, s, v, k.switches_in);
          count_max = c;
          literals_in = omega (arith, long, l, a.lits_fit);
          clauses_in = omega (arith, long, counted, a.ends_fit);
          records = r;
        })

-- assignments that agree on the job's variables read a setting as the same number
pub number_same : (env : EncoderEnv) (lits ends : ℕ) → Kept env lits ends → (α β : Assignment) → Agree env.variables α β
    → (x : ℕ) → x < env.count → number env α x ≡ number env β x
number_same env lits ends k α β g x h =
    let e = encoding_at env x in
    ap (value e.offset) (code_agree env.variables α β g (lits_of e) (lits_known env lits ends x k h))

-- An accepted rule ---------------------------------------------------------------------------------------------------

module _ (checks : List Check) (env : EncoderEnv) (lits ends : List ℕ) (out : EncodedRule) (R : Assignment → Type 0) where
  abbrev job : EncoderEnv
  job = grown env out.vars out.clauses

  pub record RuleAdded : Type 0 where
    pub holds : Kept env (length lits) (length ends)
    pub accepted : Accepted checks env lits ends out.clauses job
    pub says : Encodes env.variables out.vars Any R out.clauses

  module _ (a : RuleAdded) where
    -- what the clauses that the stores hold say
    pub rule_encodes : (let o = adding checks env lits ends out.clauses job in Encodes env.variables o.env.variables Any R (added_clauses env o))
    rule_encodes =
        let o = adding checks env lits ends out.clauses job in
        let vars : o.env.variables ≡ out.vars = ap (λ (x : Outcome). x.env.variables) a.accepted.outcome_is in
        rw (clauses_are checks env lits ends out.clauses job a.accepted refl, vars) a.says

    -- exactly when the rule holds, where the job's variables decide it
    pub rule_exact : ((α β : Assignment) → Agree env.variables α β → R β → R α) → RuleExact env (adding checks env lits ends out.clauses job) R
    rule_exact same h = exactly_when same rule_encodes

    pub rule_well_formed : (let after = add_clauses 0 out.clauses (stores lits ends env.literals env.clauses) in
        well_formed job (length after.lits) (length after.ends) ≡ true)
    rule_well_formed =
        let k = a.holds in
        still_well_formed checks env lits ends out.clauses job a.accepted refl k refl a.says.grows refl k.count_max
        (records_more env job refl refl a.says.grows k.records)
