-- What the static library answers for a solver's answer, after a job file.
use Rattle.std.specs.Prelude.{ℕ, eqb, length, set, cond, List, ◌≡◌, Result, Ok, Err}
use Rattle.job_file.specs.Run.{JobRun}
use Rattle.solver_answer.specs.Answer.{Said, assignment, said}
use Rattle.solver_answer.specs.Print.{print, print_said}
use Rattle.encoder_solution.specs.Answers.{print_answer, read_answer}
use Rattle.refusal.specs.Number.{number}
use Rattle.refusal.specs.declared.Refusal.{Refusal}

-- of an accepted file what the call says; else the file's own number, value 0, and the slice as it was
unfoldable pub file_said : JobRun → Said → List ℕ → Said
file_said r s slice = cond (eqb r.status 0) s (record { status = r.status; value = 0; slice = slice })

-- the text read as an assignment of the variables that the file left
abbrev pub file_read : List ℕ → List ℕ → JobRun → Said
file_read text slice r =
    file_said r (said (read_answer r.env (length r.lits) (length r.ends) text (length slice)) (assignment r.env.variables text) slice) slice

-- the bytes printed as an assignment of the variables that the file left
abbrev pub file_printed : List ℕ → List ℕ → JobRun → Said
file_printed bytes slice r =
    file_said r (print_said (print_answer r.env (length r.lits) (length r.ends) bytes (length slice)) (print bytes) slice) slice

-- the code's answer, with the slice after it
abbrev pub called : Result ℕ Refusal → List ℕ → Said
called (Ok value) slice = record { status = 0; value = value; slice = slice }
called (Err e) slice = record { status = number e; value = 0; slice = slice }

-- the field and the value, as far as the slice is long
abbrev pub noted : JobRun → Said → List ℕ → List ℕ
noted r s counts = set (set counts 0 r.field) 1 s.value

-- the number, the stores of the run, its field with the value, and the lent slice
pub record Answered (r : JobRun) (s : JobRun → Said) (status : ℕ) (lits ends counts counts-after slice-after : List ℕ) : Type 0 where
  pub status_is : status ≡ (s r).status
  pub lits_are : lits ≡ r.lits
  pub ends_are : ends ≡ r.ends
  pub counts_are : counts-after ≡ noted r (s r) counts
  pub slice_is : slice-after ≡ (s r).slice
