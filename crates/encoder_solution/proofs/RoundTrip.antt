-- The print of an assignment, read back, yields the same bytes.
use Prim.Native.Nat.{◌≤◌, ℕ}
use borrow.Author.Tests.{le-leb}
use lib.ListN.{drop, length}
use mathlib.Core.Bool.{true}
use lib.Seq.{take-append_seam}
use mathlib.Core.List.{List}
use mathlib.Core.Path.{◌≡◌}
use Rattle.clause_set.specs.Bytes.{IsAssignment}
use Rattle.encoder_env.specs.declared.EncoderEnv.{EncoderEnv}
use Rattle.encoder_env.specs.WellFormed.{well_formed}
use Rattle.encoder_read.proofs.Known.{assignment_holds}
use Rattle.std.specs.Prelude.{Ok}
use Rattle.solver_answer.specs.declared.Solution.TheVariants.{Assignment}
use Rattle.solver_answer.specs.Answer.{assignment, said}
use Rattle.solver_answer.specs.Print.{print, print_said}
use Rattle.solver_answer.proofs.RoundTrip.{print_found, print_read}
use Rattle.encoder_solution.specs.Answers.{print_answer, read_answer}
use Rattle.encoder_solution.specs.RoundTrip.{ReadBack, RoundTrip, written}

module _ (env : EncoderEnv) (lits ends : ℕ) (formed : well_formed env lits ends ≡ true) (bytes : List ℕ) (is : IsAssignment env.variables bytes)
    (out slice : List ℕ) (fits : length (print bytes) ≤ length out) (long : length slice ≡ env.variables) where
  printed : print_answer env lits ends bytes (length out) ≡ Ok (length (print bytes))
  unfolding print_answer
  printed = rw (formed, assignment_holds env.variables bytes is, le-leb (length (print bytes)) (length out) fits)

  text_is : written env lits ends bytes out ≡ print bytes
  unfolding print_said
  text_is = rw printed (take-append_seam (print bytes) (drop (length (print bytes)) out))

  found : read_answer env lits ends (print bytes) (length slice) ≡ Ok Assignment
  unfolding read_answer
  found = rw (formed, long, ← is.long) (print_found bytes)

  same : assignment env.variables (print bytes) ≡ bytes
  same = rw (← is.long) (print_read bytes is.bits)

  back : ReadBack env lits ends bytes out slice
  unfolding said
  back = record { printed = printed; found = rw text_is found; same = rw text_is same }

pub round_trip : RoundTrip
round_trip = back
