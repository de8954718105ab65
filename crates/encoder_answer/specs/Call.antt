-- A call that adds: what it asks of a job, what it adds, and its outcome on every input.
use Rattle.std.specs.Prelude.{◌<◌, ◌^◌, ◌≡◌, ℕ, length, List, Option, None, Some, true}
use Rattle.sat.specs.Clause.{Clauses}
use Rattle.sat.specs.Encoded.{EncodedRule}
use Rattle.clause_set.specs.Stores.{Wrote, add_clauses, after, stores}
use Rattle.clause_set.specs.declared.ClauseSet.{ClauseSet}
use Rattle.log_var.specs.declared.LogEncoding.{LogEncoding}
use Rattle.encoder_env.specs.declared.EncoderEnv.{EncoderEnv}
use Rattle.encoder_env.specs.WellFormed.{well_formed}
use Rattle.encoder_answer.specs.declared.Written.{Written}
use Rattle.encoder_answer.specs.Adding.{adding, counts_of, grown, job_with, with_record}
use Rattle.encoder_answer.specs.Outcome.{Check, Numbered, Outcome, status_of}

-- the clauses, the variable count after them, and the record of a new setting
pub record Addition : Type 0 where
  pub clauses : Clauses
  pub vars : ℕ
  pub setting : Option LogEncoding

-- a rule makes no setting
abbrev pub rule : EncodedRule → Addition
rule out = record { clauses = out.clauses; vars = out.vars; setting = None }

-- the checks but those of space, on a job and stores of these lengths; what is added to a job
abbrev pub JobChecks : Type 0
JobChecks = EncoderEnv → ℕ → ℕ → List Check

abbrev pub JobAddition : Type 0
JobAddition = EncoderEnv → Addition

-- the job with the record of a new setting, if there is one
abbrev pub with_setting : Option LogEncoding → EncoderEnv → EncoderEnv
with_setting None env = env
with_setting (Some e) env = with_record env e

-- the job after the clauses, and with the record
abbrev pub job_added : EncoderEnv → Addition → EncoderEnv
job_added env a = with_setting a.setting (grown env a.vars a.clauses)

abbrev pub call_outcome : JobChecks → JobAddition → EncoderEnv → List ℕ → List ℕ → Outcome
call_outcome asks adds env lits ends =
    adding (asks env (length lits) (length ends)) env lits ends (adds env).clauses (job_added env (adds env))

-- What the checks settle: no number is 0, and where all of them hold the job is well formed and has a place for the record.
pub record Settles (env : EncoderEnv) (lits ends : ℕ) (checks : List Check) (a : Addition) : Type 0 where
  pub numbered : Numbered checks
  pub formed : status_of checks ≡ 0 → well_formed env lits ends ≡ true
  pub free : status_of checks ≡ 0 → (e : LogEncoding) → a.setting ≡ Some e → env.count < 32

-- As the code holds it ------------------------------------------------------------------------------------------------

-- the checks hold, for stores of some lengths
abbrev pub Passed : (ℕ → ℕ → List Check) → Type 0
Passed checks = (lits : ℕ) × (ends : ℕ) × (status_of (checks lits ends) ≡ 0)

-- a set of stores that begins with the job's counts
pub record JobSet (env : EncoderEnv) (s : ClauseSet) : Type 0 where
  pub base : s.base ≡ 0
  pub vars : s.vars ≡ env.variables
  pub used : s.used ≡ counts_of env

-- the set t is s with what the call gives, and r the record of a new setting
pub record CallWrote (a : Addition) (s : ClauseSet) (r : Option LogEncoding) (t : ClauseSet) : Type 0 where
  pub wrote : Wrote s a.vars a.clauses t
  pub setting : r ≡ a.setting

-- the clauses stand in the stores behind those in use, as far as these are long
pub record StoresWrote (env : EncoderEnv) (a : Addition) (lits ends : List ℕ) (new : Written) (lits-after ends-after : List ℕ) : Type 0 where
  pub clauses : after lits-after ends-after new.used ≡ add_clauses 0 a.clauses (stores lits ends env.literals env.clauses)
  pub vars : new.vars ≡ a.vars
  pub setting : new.setting ≡ a.setting

-- the counts are numbers of a u32, and there is a place for the record
pub record Fits (env : EncoderEnv) (new : Written) : Type 0 where
  pub clauses : new.used.clauses < 2 ^ 32
  pub lits : new.used.lits < 2 ^ 32
  pub free : (e : LogEncoding) → new.setting ≡ Some e → env.count < 32

-- the job with the counts and the record
abbrev pub job_after : EncoderEnv → Written → EncoderEnv
job_after env new = with_setting new.setting (job_with env new.vars new.used)
