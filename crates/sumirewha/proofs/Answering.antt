-- What a call after a job file says, by the file's number and the answer's case.
use Prim.Native.Nat.{ℕ}
use borrow.Author.Tests.{ne_eqb}
use native.Mathlib.Omega.{arith}
use mathlib.Core.List.{List}
use mathlib.Core.Path.{◌≡◌, ap}
use Rattle.job_file.specs.Run.{JobRun}
use Rattle.std.specs.Prelude.{Ok, Err}
use Rattle.refusal.specs.Number.{number}
use Rattle.refusal.specs.declared.Refusal.{Refusal}
use Rattle.encoder_answer.proofs.Statuses.{number_some}
use Rattle.solver_answer.specs.declared.Solution.TheVariants.{Assignment, Unsatisfiable}
use Rattle.solver_answer.specs.Answer.{Said, said}
use Rattle.solver_answer.specs.Print.{print_said}
use Rattle.encoder_solution.specs.Answers.{PrintsAnswer, ReadsAnswer}
use Rattle.sumirewha.specs.Answers.{file_printed, file_read, file_said}

abbrev says : ℕ → ℕ → List ℕ → Said
says status value slice = record { status = status; value = value; slice = slice }

-- a refused file is the first refusal, and the slice stays
pub file_refused : (run : JobRun) (s : Said) (slice : List ℕ) (x : Refusal) → run.status ≡ number x → says (number x) 0 slice ≡ file_said run s slice
unfolding file_said
file_refused run s slice x h = let some = number_some x in rw (h, ne_eqb (number x) 0 (λ z. omega arith))

-- an accepted file, and what the call left
module _ (run : JobRun) (text slice : List ℕ) (h : run.status ≡ 0) {after : List ℕ} where
  pub found : ReadsAnswer run.env run.lits run.ends text slice (Ok Assignment) after → says 0 1 after ≡ file_read text slice run
  unfolding file_said said
  found r = rw (h, ← r.answer) (ap (λ (l : List ℕ). says 0 1 l) r.bytes)

  pub none_found : ReadsAnswer run.env run.lits run.ends text slice (Ok Unsatisfiable) after → says 0 0 after ≡ file_read text slice run
  unfolding file_said said
  none_found r = rw (h, ← r.answer) (ap (λ (l : List ℕ). says 0 0 l) r.bytes)

  pub read_refused : (x : Refusal) → ReadsAnswer run.env run.lits run.ends text slice (Err x) after → says (number x) 0 after ≡ file_read text slice run
  unfolding file_said said
  read_refused x r = rw (h, ← r.answer) (ap (λ (l : List ℕ). says (number x) 0 l) r.bytes)

module _ (run : JobRun) (bytes slice : List ℕ) (h : run.status ≡ 0) {after : List ℕ} where
  pub printed : (size : ℕ) → PrintsAnswer run.env run.lits run.ends bytes slice (Ok size) after → says 0 size after ≡ file_printed bytes slice run
  unfolding file_said print_said
  printed size r = rw (h, ← r.answer) (ap (λ (l : List ℕ). says 0 size l) r.text)

  pub print_refused : (x : Refusal) → PrintsAnswer run.env run.lits run.ends bytes slice (Err x) after → says (number x) 0 after ≡ file_printed bytes slice run
  unfolding file_said print_said
  print_refused x r = rw (h, ← r.answer) (ap (λ (l : List ℕ). says (number x) 0 l) r.text)
