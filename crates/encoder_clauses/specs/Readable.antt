-- The clauses written of a job, and when they can be read (document 02, #104: number 1 of every call that reads clauses).
use Rattle.std.specs.Prelude.{◌*◌, ◌+◌, ◌<◌, ◌≤◌, ℕ, leb, ltb, get_or, length, Bool, ◌&&◌, true, List, [], ◌∷◌}
use Rattle.sat.specs.Clause.{Clauses}
use Rattle.sat.specs.Encodes.{ClausesBelow}
use Rattle.clause_set.specs.Stores.{clause_at, clauses_of, stores}
use Rattle.encoder_env.specs.declared.EncoderEnv.{EncoderEnv}
use Rattle.encoder_env.specs.WellFormed.{all_below, well_formed}

-- document 01's clauses written: all those below the job's clause count, as the stores hold them
abbrev pub clauses_written : EncoderEnv → List ℕ → List ℕ → Clauses
clauses_written env lits ends = clauses_of (stores lits ends env.literals env.clauses)

-- Tests --------------------------------------------------------------------------------------------------------------

-- every literal is below a limit
abbrev pub lits_below : ℕ → List ℕ → Bool
lits_below limit [] = true
lits_below limit (l ∷ ls) = ltb l limit && lits_below limit ls

-- the end before clause k, or the leading one, is at most its own
abbrev pub rises : List ℕ → ℕ → Bool
rises ends k = leb (get_or ends k 0) (get_or ends (k + 1) 0)

-- end k does not pass the literal count
abbrev pub within : ℕ → List ℕ → ℕ → Bool
within literals ends k = leb (get_or ends k 0) literals

-- the literals of clause k are below a limit
abbrev pub known : ℕ → List ℕ → List ℕ → ℕ → Bool
known limit lits ends k = lits_below limit (clause_at lits ends k)

-- no end falls, none passes the literal count, the leading one included, and every literal of a clause is below 2 × variables
unfoldable pub clauses_readable : EncoderEnv → List ℕ → List ℕ → Bool
clauses_readable env lits ends =
    all_below env.clauses (rises ends)
    && all_below (env.clauses + 1) (within env.literals ends)
    && all_below env.clauses (known (2 * env.variables) lits ends)

-- number 1 of a call that reads clauses: the job is well formed, and its clauses can be read
unfoldable pub readable : EncoderEnv → List ℕ → List ℕ → Bool
readable env lits ends = well_formed env (length lits) (length ends) && clauses_readable env lits ends

-- As inequalities ----------------------------------------------------------------------------------------------------

-- from the leading end to that of the last clause each is at most the next and none passes the literal count; the clauses are over the job's variables
pub record Readable (env : EncoderEnv) (lits ends : List ℕ) : Type 0 where
  pub rising : (k : ℕ) → k < env.clauses → get_or ends k 0 ≤ get_or ends (k + 1) 0
  pub inside : (k : ℕ) → k ≤ env.clauses → get_or ends k 0 ≤ env.literals
  pub below : ClausesBelow env.variables (clauses_written env lits ends)
