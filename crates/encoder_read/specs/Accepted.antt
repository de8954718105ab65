-- When opening a job, reading a setting and handing back a clause are accepted (document 01: operation by operation), as inequalities.
use Rattle.std.specs.Prelude.{◌+◌, ◌<◌, ◌≤◌, ℕ, get_or, length, true, List, ◌≡◌}
use Rattle.clause_set.specs.Bytes.{all_hold}
use Rattle.encoder_env.specs.declared.EncoderEnv.{EncoderEnv}
use Rattle.encoder_env.specs.Bounds.{WellFormed}
use Rattle.encoder_clauses.specs.Readable.{Readable, clauses_written}

-- at most 64 switches, stores of that many literals and ends within their bound, an entry for the leading 0
pub record OpenAccepted (switches lits ends : ℕ) : Type 0 where
  pub switches_max : switches ≤ 64
  pub lits_max : lits ≤ 16777216
  pub ends_max : ends ≤ 16777216
  pub leading : 1 ≤ ends

-- a well-formed job whose clauses can be read, one of its settings, an assignment as long as the variable count, each byte 0 or 1, under
-- which every clause has a literal that holds
pub record ReadAccepted (env : EncoderEnv) (lits ends : List ℕ) (x : ℕ) (assignment : List ℕ) : Type 0 where
  pub job : WellFormed env (length lits) (length ends)
  pub clauses : Readable env lits ends
  pub setting : x < env.count
  pub long : length assignment ≡ env.variables
  pub bits : (i : ℕ) → i < length assignment → get_or assignment i 0 ≤ 1
  pub satisfied : all_hold assignment (clauses_written env lits ends) ≡ true

-- a well-formed job, a number below the clause count, ends that do not fall or pass the literal count
pub record ClauseAccepted (env : EncoderEnv) (lits : ℕ) (ends : List ℕ) (k : ℕ) : Type 0 where
  pub job : WellFormed env lits (length ends)
  pub number : k < env.clauses
  pub rising : get_or ends k 0 ≤ get_or ends (k + 1) 0
  pub within : get_or ends (k + 1) 0 ≤ env.literals
