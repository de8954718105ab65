-- What every call that adds to the job has in common: the checks of space, the job after it, its outcome.
use Rattle.std.specs.Prelude.{◌+◌, ℕ, leb, pos, length, set, ◌&&◌, List, [], ◌++◌, ◌∷◌}
use Rattle.sat.specs.Clause.{Clauses}
use Rattle.sat.specs.Size.{entries}
use Rattle.clause_set.specs.Stores.{add_clauses, stores}
use Rattle.clause_set.specs.declared.Counts.{Counts}
use Rattle.log_var.specs.declared.LogEncoding.{LogEncoding}
use Rattle.encoder_env.specs.declared.EncoderEnv.{EncoderEnv}
use Rattle.encoder_answer.specs.Outcome.{Check, Outcome, check, settled, status_of}

-- where the counts after the call are these: 14 variables would pass 65,535; 15 the clauses don't fit the entries left
abbrev pub space_checks : ℕ → ℕ → ℕ → ℕ → ℕ → List Check
space_checks vars literals clauses lits ends =
    check (leb vars 65535) 14 ∷ check (leb literals lits && leb (clauses + 1) ends) 15 ∷ []

-- the clauses and literals in use
abbrev pub counts_of : EncoderEnv → Counts
counts_of env = record { clauses = env.clauses; lits = env.literals }

-- the job with these counts
abbrev pub job_with : EncoderEnv → ℕ → Counts → EncoderEnv
job_with env vars used =
    record {
      switches = env.switches;
      variables = vars;
      clauses = used.clauses;
      literals = used.lits;
      count = env.count;
      encodings = env.encodings;
    }

-- the job with a new record behind those in use
abbrev pub with_record : EncoderEnv → LogEncoding → EncoderEnv
with_record env e =
    record {
      switches = env.switches;
      variables = env.variables;
      clauses = env.clauses;
      literals = env.literals;
      count = env.count + 1;
      encodings = set env.encodings env.count e;
    }

-- the job with the clauses, and that many variables
abbrev pub grown : EncoderEnv → ℕ → Clauses → EncoderEnv
grown env vars clauses = job_with env vars (record { clauses = env.clauses + length clauses; lits = env.literals + entries clauses })

-- the checks of space, on the very clauses that are written
abbrev pub space_for : EncoderEnv → ℕ → ℕ → ℕ → Clauses → List Check
space_for env lits ends vars clauses = space_checks vars (grown env vars clauses).literals (grown env vars clauses).clauses lits ends

-- the clauses behind those in use, and the job after them
abbrev pub added : EncoderEnv → List ℕ → List ℕ → Clauses → EncoderEnv → Outcome
added env lits ends clauses job =
    let after = add_clauses 0 clauses (stores lits ends env.literals env.clauses) in
    record { status = 0; env = job; value = pos 0; part = []; lits = after.lits; ends = after.ends }

-- the number of all checks: these, and then those of space
abbrev pub adding_status : List Check → EncoderEnv → ℕ → ℕ → ℕ → Clauses → ℕ
adding_status checks env lits ends vars clauses = status_of (checks ++ space_for env lits ends vars clauses)

-- the clauses and the job after them, where all checks hold
abbrev pub adding : List Check → EncoderEnv → List ℕ → List ℕ → Clauses → EncoderEnv → Outcome
adding checks env lits ends clauses job =
    settled (adding_status checks env (length lits) (length ends) job.variables clauses) env lits ends (added env lits ends clauses job)
