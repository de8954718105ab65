-- The print of an assignment, read back, yields the same bytes (document 02, #103).
use Rattle.std.specs.Prelude.{◌≤◌, ℕ, length, take, true, List, ◌≡◌, Ok}
use Rattle.clause_set.specs.Bytes.{IsAssignment}
use Rattle.encoder_env.specs.declared.EncoderEnv.{EncoderEnv}
use Rattle.encoder_env.specs.WellFormed.{well_formed}
use Rattle.solver_answer.specs.declared.Solution.TheVariants.{Assignment}
use Rattle.solver_answer.specs.Answer.{assignment, said}
use Rattle.solver_answer.specs.Print.{print, print_said}
use Rattle.encoder_solution.specs.Answers.{print_answer, read_answer}

-- the text that a print leaves at the start of the slice
abbrev pub written : EncoderEnv → ℕ → ℕ → List ℕ → List ℕ → List ℕ
written env lits ends bytes out = take (length (print bytes)) (print_said (print_answer env lits ends bytes (length out)) (print bytes) out).slice

-- the print is accepted with its length; the text that it left is read as an assignment found, and the slice then holds the bytes printed
pub record ReadBack (env : EncoderEnv) (lits ends : ℕ) (bytes out slice : List ℕ) : Type 0 where
  pub printed : print_answer env lits ends bytes (length out) ≡ Ok (length (print bytes))
  pub found : read_answer env lits ends (written env lits ends bytes out) (length slice) ≡ Ok Assignment
  pub same : (said (Ok Assignment) (assignment env.variables (written env lits ends bytes out)) slice).slice ≡ bytes

-- for every well-formed job and every assignment of its variables, whatever the two lent slices held
abbrev pub RoundTrip : Type 0
RoundTrip =
    (env : EncoderEnv) (lits ends : ℕ) → well_formed env lits ends ≡ true
    → (bytes : List ℕ) → IsAssignment env.variables bytes
    → (out slice : List ℕ) → length (print bytes) ≤ length out → length slice ≡ env.variables
    → ReadBack env lits ends bytes out slice
