-- What a caller is told of one more field behind a job file.
use Rattle.std.specs.Prelude.{ℕ, set, List, ◌≡◌}
use Rattle.encoder_figures.specs.Figures.{Figures}
use Rattle.job_file.specs.Run.{JobRun}
use Rattle.job_figures.specs.FieldFigures.{file_figures}

-- the figures of a field behind a run
abbrev pub figures_after : JobRun → List ℕ → Figures
figures_after r bytes = file_figures r.status r.env bytes

-- the run's field, and the variables, clauses and literals that would be added, as far as the slice is long
abbrev pub told : JobRun → Figures → List ℕ → List ℕ
told r f counts = set (set (set (set counts 0 r.field) 1 f.variables) 2 f.clauses) 3 f.literals

-- the number, the stores of the run, and what is told
pub record FileFigures (r : JobRun) (bytes : List ℕ) (status : ℕ) (lits ends counts counts-after : List ℕ) : Type 0 where
  pub status_is : status ≡ (figures_after r bytes).status
  pub lits_are : lits ≡ r.lits
  pub ends_are : ends ≡ r.ends
  pub counts_are : counts-after ≡ told r (figures_after r bytes) counts
