-- What a reading answers, by whether the job is well formed.
use Prim.Native.Nat.{ℕ}
use lib.ListN.{length}
use mathlib.Core.Bool.{false, true}
use mathlib.Core.List.{List}
use mathlib.Core.Path.{◌≡◌, refl}
use Rattle.encoder_env.specs.declared.EncoderEnv.{EncoderEnv}
use Rattle.encoder_env.specs.WellFormed.{well_formed}
use Rattle.solver_answer.specs.declared.Solution.{Solution}
use Rattle.std.specs.Prelude.{Err, Result}
use Rattle.refusal.specs.declared.Refusal.{Refusal}
use Rattle.refusal.specs.declared.Refusal.TheVariants.{IllFormed}
use Rattle.solver_answer.specs.Answer.{Reads, said}
use Rattle.encoder_solution.specs.Answers.{ReadsAnswer, read_answer}

module _ (env : EncoderEnv) (lits ends text slice : List ℕ) where
  pub read_unformed : well_formed env (length lits) (length ends) ≡ false → ReadsAnswer env lits ends text slice (Err IllFormed) slice
  unfolding read_answer said
  read_unformed w = record { answer = rw w; bytes = refl }

  pub read_formed : {r : Result Solution Refusal} {after : List ℕ} → well_formed env (length lits) (length ends) ≡ true → Reads env.variables text slice r after
      → ReadsAnswer env lits ends text slice r after
  unfolding read_answer
  read_formed w r = record { answer = rw w r.answer; bytes = r.bytes }
