-- What a call that adds asks of space (document 01: 14 and 15), as inequalities.
use Rattle.std.specs.Prelude.{◌+◌, ◌≤◌, ℕ, length}
use Rattle.sat.specs.Clause.{Clauses}
use Rattle.sat.specs.Size.{entries}
use Rattle.encoder_env.specs.declared.EncoderEnv.{EncoderEnv}

-- the variables do not pass 65,535; the clauses fit the entries left in stores of that many literals and ends
pub record HasSpace (env : EncoderEnv) (lits ends vars : ℕ) (clauses : Clauses) : Type 0 where
  pub vars_fit : vars ≤ 65535
  pub lits_fit : env.literals + entries clauses ≤ lits
  pub ends_fit : env.clauses + length clauses + 1 ≤ ends
