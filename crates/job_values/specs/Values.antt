-- What the program prints for a job file and a solver's answer to its clauses (document 02, #103 and #104).
use Rattle.std.specs.Prelude.{◌<◌, ◌≤◌, ℕ, eqb, length, replicate, take, cond, List, [], ◌∷◌, ◌≡◌, Result, Ok, Err}
use Rattle.dimacs.specs.Dimacs.{refused}
use Rattle.encoder_env.specs.declared.EncoderEnv.{EncoderEnv}
use Rattle.encoder_read.specs.Calls.{test_status}
use Rattle.encoder_solution.specs.Answers.{read_answer}
use Rattle.job_file.specs.Run.{JobRun, run_file}
use Rattle.solver_answer.specs.Answer.{assignment}
use Rattle.solver_answer.specs.declared.Solution.{Solution}
use Rattle.solver_answer.specs.declared.Solution.TheVariants.{Assignment, Unsatisfiable}
use Rattle.refusal.specs.Number.{number}
use Rattle.refusal.specs.declared.Refusal.{Refusal}
use Rattle.values_text.specs.Values.{values_text}
use Rattle.job_values.specs.declared.TooLong.{TooLong}

-- The text -----------------------------------------------------------------------------------------------------------

-- `none` and a line feed
abbrev pub none_line : List ℕ
none_line = 110 ∷ 111 ∷ 110 ∷ 101 ∷ 10 ∷ []

-- the bytes that an answer gives to the variables of the job
abbrev pub given : JobRun → List ℕ → List ℕ
given r text = assignment r.env.variables text

-- what an answer to an accepted file comes to, read into a slice as long as the variable count
abbrev pub answer_to : JobRun → List ℕ → Result Solution Refusal
answer_to r text = read_answer r.env (length r.lits) (length r.ends) text r.env.variables

-- the number of the test that the file's clauses are put to under these bytes (#104)
abbrev pub tested : JobRun → List ℕ → ℕ
tested r bytes = test_status r.env r.lits r.ends bytes

-- the values where the test is passed, else `refused F N` with its number
unfoldable pub by_test : JobRun → List ℕ → List ℕ
by_test r bytes = cond (eqb (tested r bytes) 0) (values_text r.env r.lits r.ends bytes) (refused r.field (tested r bytes))

-- the values, `none`, or `refused F N` with the answer's own number; F is then the number of fields
unfoldable pub by_answer : Result Solution Refusal → JobRun → List ℕ → List ℕ
by_answer (Ok Assignment) r text = by_test r (given r text)
by_answer (Ok Unsatisfiable) r text = none_line
by_answer (Err e) r text = refused r.field (number e)

-- the text of an answer to an accepted file
abbrev pub answer_values : JobRun → List ℕ → List ℕ
answer_values r text = by_answer (answer_to r text) r text

-- a file's own refusal comes first
unfoldable pub run_values : JobRun → List ℕ → List ℕ
run_values r text = cond (eqb r.status 0) (answer_values r text) (refused r.field r.status)

-- where these stores are lent
abbrev pub file_values : List ℕ → List ℕ → List ℕ → List ℕ → List ℕ
file_values file lits ends text = run_values (run_file file lits ends) text

-- what the program prints: the text on its own stores of 8,192 literals and 4,096 ends
unfoldable pub program_values : List ℕ → List ℕ → List ℕ
program_values file text = file_values file (replicate 8192 0) (replicate 4096 0) text

-- The calls ----------------------------------------------------------------------------------------------------------

-- the run of an accepted file, by what it left
abbrev pub accepted : ℕ → EncoderEnv → List ℕ → List ℕ → JobRun
accepted field env lits ends = record { field = field; status = 0; env = env; lits = lits; ends = ends }

-- a text stands at the start of a slice
pub record Stands (t : List ℕ) (r : ℕ) (slice : List ℕ) : Type 0 where
  pub within : r ≤ length slice
  pub bytes : take r slice ≡ t

-- The first n bytes of one buffer are the file, the first m of another the answer. Either is one byte longer than what it may hold, so
-- that one too long is seen. Every text has room.
pub record Buffers (file : List ℕ) (n : ℕ) (answer : List ℕ) (m : ℕ) (out : List ℕ) : Type 0 where
  pub file_long : 8193 ≤ length file
  pub file_read : n ≤ length file
  pub answer_long : 1048577 ≤ length answer
  pub answer_read : m ≤ length answer
  pub room : 1440 ≤ length out

-- what each case says of a file and an answer: its text stands in the slice; or the answer is too long, and the slice is as it was
unfoldable pub Told : Result ℕ TooLong → List ℕ → List ℕ → List ℕ → List ℕ → Type 0
Told (Ok r) file text out after = (length text ≤ 1048576) × Stands (program_values file text) r after
Told (Err e) file text out after = (1048576 < length text) × (after ≡ out)
