-- What the static library answers for a job file.
use Rattle.std.specs.Prelude.{ℕ, set, List, ◌≡◌}
use Rattle.job_file.specs.Run.{JobRun}

-- the field, and the job's variables, clauses and literals, as far as the slice is long
abbrev pub report : JobRun → List ℕ → List ℕ
report r counts = set (set (set (set counts 0 r.field) 1 r.env.variables) 2 r.env.clauses) 3 r.env.literals

-- the number, the stores and the report of a run
pub record Encoded (r : JobRun) (status : ℕ) (lits ends counts counts-after : List ℕ) : Type 0 where
  pub status_is : status ≡ r.status
  pub lits_are : lits ≡ r.lits
  pub ends_are : ends ≡ r.ends
  pub counts_are : counts-after ≡ report r counts
