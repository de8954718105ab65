-- Demand 2 at a call that adds: the clauses that it added, and what those of a rule say.
use Rattle.std.specs.Prelude.{◌-◌, ℕ, ℤ, ◌↔◌, ◌≡◌}
use Rattle.sat.specs.Clause.{Assignment, Clauses}
use Rattle.sat.specs.Encodes.{Any, Completed, Encodes}
use Rattle.clause_set.specs.Stores.{clauses_after}
use Rattle.log_encoding.specs.LogEncoding.{get_int_value}
use Rattle.encoder_env.specs.declared.EncoderEnv.{EncoderEnv}
use Rattle.encoder_env.specs.WellFormed.{int_map}
use Rattle.encoder_answer.specs.Outcome.{Outcome}

-- The clauses that the stores hold from the old clause count to the new one. The first begins at the old literal count: a job may be
-- forged, and then the end before it may be any number.
abbrev pub added_clauses : EncoderEnv → Outcome → Clauses
added_clauses env o = clauses_after o.lits o.ends env.literals env.clauses (o.env.clauses - env.clauses)

-- the value that setting x reads as
abbrev pub number : EncoderEnv → Assignment → ℕ → ℤ
number env α x = get_int_value α (int_map env x)

-- Where the call is accepted, the clauses added can be completed by new variables exactly when the rule R holds, and in one way.
abbrev pub RuleEncodes : EncoderEnv → Outcome → (Assignment → Type 0) → Type 0
RuleEncodes env o R = o.status ≡ 0 → Encodes env.variables o.env.variables Any R (added_clauses env o)

-- Demand 2's own words: where the call is accepted, the clauses added can be completed by new variables, whatever the variables before them
-- are, exactly when the rule R holds of these.
abbrev pub RuleExact : EncoderEnv → Outcome → (Assignment → Type 0) → Type 0
RuleExact env o R = o.status ≡ 0 → (α : Assignment) → Completed env.variables (added_clauses env o) α ↔ R α
