-- The outcome of reading a solver's answer and of printing an assignment, on every input (document 02, #103).
use Rattle.std.specs.Prelude.{ℕ, leb, length, cond, List, [], ◌++◌, ◌∷◌, ◌≡◌, Result, Ok, Err}
use Rattle.encoder_env.specs.declared.EncoderEnv.{EncoderEnv}
use Rattle.encoder_env.specs.WellFormed.{well_formed}
use Rattle.encoder_answer.specs.Outcome.{Check, check, status_of}
use Rattle.encoder_read.specs.Calls.{is_assignment}
use Rattle.refusal.specs.Number.{status}
use Rattle.refusal.specs.declared.Refusal.{Refusal}
use Rattle.refusal.specs.declared.Refusal.TheVariants.{IllFormed, NoAssignment, NoSpace}
use Rattle.solver_answer.specs.declared.Solution.{Solution}
use Rattle.solver_answer.specs.Answer.{assignment, said, solution}
use Rattle.solver_answer.specs.Print.{print as text_of, print_said}

-- Read ---------------------------------------------------------------------------------------------------------------

-- 1 is tested first, then 19, 20 and 16 (solver_answer, Answer); lits and ends are the lengths of the stores, room that of the lent slice
unfoldable pub read_answer : EncoderEnv → ℕ → ℕ → List ℕ → ℕ → Result Solution Refusal
read_answer env lits ends text room = cond (well_formed env lits ends) (solution env.variables text room) (Err IllFormed)

-- the code answers r, and leaves in the slice what that case says
pub record ReadsAnswer (env : EncoderEnv) (lits ends text slice : List ℕ) (r : Result Solution Refusal) (after : List ℕ) : Type 0 where
  pub answer : r ≡ read_answer env (length lits) (length ends) text (length slice)
  pub bytes : after ≡ (said r (assignment env.variables text) slice).slice

-- Print --------------------------------------------------------------------------------------------------------------

-- 16 no assignment of the job's variables
abbrev pub assignment_checks : EncoderEnv → ℕ → ℕ → List ℕ → List Check
assignment_checks env lits ends bytes =
    check (well_formed env lits ends) 1 ∷ check (is_assignment env.variables bytes) 16 ∷ []

-- then 15 too little room
abbrev pub print_checks : EncoderEnv → ℕ → ℕ → List ℕ → ℕ → List Check
print_checks env lits ends bytes room = assignment_checks env lits ends bytes ++ (check (leb (length (text_of bytes)) room) 15 ∷ [])

-- as the code answers the first two
abbrev pub assignment_checked : EncoderEnv → ℕ → ℕ → List ℕ → Result (Unit {0}) Refusal
assignment_checked env lits ends bytes =
    cond (well_formed env lits ends) (cond (is_assignment env.variables bytes) (Ok tt) (Err NoAssignment)) (Err IllFormed)

-- the length of the text, or why it is refused
unfoldable pub print_answer : EncoderEnv → ℕ → ℕ → List ℕ → ℕ → Result ℕ Refusal
print_answer env lits ends bytes room =
    cond (well_formed env lits ends)
    (cond (is_assignment env.variables bytes)
    (cond (leb (length (text_of bytes)) room) (Ok (length (text_of bytes))) (Err NoSpace))
    (Err NoAssignment))
    (Err IllFormed)

-- the number answered is that of the checks (`print_numbers`)
abbrev pub PrintNumbers : Type 0
PrintNumbers = (env : EncoderEnv) (lits ends : ℕ) (bytes : List ℕ) (room : ℕ) → status (print_answer env lits ends bytes room) ≡ status_of (print_checks env lits ends bytes room)

-- the code answers r, and leaves in the slice what that case says
pub record PrintsAnswer (env : EncoderEnv) (lits ends bytes slice : List ℕ) (r : Result ℕ Refusal) (after : List ℕ) : Type 0 where
  pub answer : r ≡ print_answer env (length lits) (length ends) bytes (length slice)
  pub text : after ≡ (print_said r (text_of bytes) slice).slice
