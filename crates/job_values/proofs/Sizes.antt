-- Every text has at most 1,440 bytes (`values_short`).
use Prim.Native.Nat.{◌<◌, ◌^◌, ◌≤◌, ℕ}
use lib.Dec.{eqb, lit≤}
use lib.ListN.{length}
use mathlib.Core.Bool.{Bool, cond, false, true}
use mathlib.Core.List.{List}
use mathlib.Core.Path.{◌≡◌, refl}
use native.Mathlib.Omega.{arith}
use borrow.Author.Tests.{eqb-true}
use Rattle.dimacs.proofs.Sizes.{refused_size}
use Rattle.dimacs.specs.Dimacs.{refused}
use Rattle.encoder_env.specs.WellFormed.{well_formed}
use Rattle.clause_set.specs.Bytes.{all_hold}
use Rattle.encoder_clauses.specs.Readable.{clauses_written, readable}
use Rattle.encoder_read.specs.Calls.{is_assignment}
use Rattle.job_file.specs.Run.{JobRun, run_file}
use Rattle.solver_answer.specs.declared.Solution.{Solution}
use Rattle.solver_answer.specs.declared.Solution.TheVariants.{Assignment, Unsatisfiable}
use Rattle.std.specs.Prelude.{Result, Ok, Err}
use Rattle.refusal.specs.Number.{number}
use Rattle.refusal.specs.declared.Refusal.{Refusal}
use Rattle.refusal.specs.declared.Refusal.TheVariants.{IllFormed, TooManySwitches, OutOfBounds, BadList, NotRising, UnknownSwitch, TableFull, UnknownSetting, BadTerms, BadCoefficient, BadConstant, UnknownOperation, ColumnTooTall, TooManyVariables, NoSpace, NoAssignment, UnknownClause, BadField, NotWhole, NotGivenOnce, Unsatisfied}
use Rattle.values_text.proofs.Sizes.{values_fit}
use Rattle.values_text.specs.Values.{values_text}
use Rattle.job_values.specs.Theorems.{ValuesShort}
use Rattle.job_values.specs.Values.{answer_to, answer_values, by_answer, by_test, given, run_values, tested}
use Rattle.job_values.proofs.Accepted.{file_formed}

-- Numbers ------------------------------------------------------------------------------------------------------------

-- that of a refusal is at most 21
pub number_most : (e : Refusal) → number e ≤ 21
number_most IllFormed = lit≤ tt
number_most TooManySwitches = lit≤ tt
number_most OutOfBounds = lit≤ tt
number_most BadList = lit≤ tt
number_most NotRising = lit≤ tt
number_most UnknownSwitch = lit≤ tt
number_most TableFull = lit≤ tt
number_most UnknownSetting = lit≤ tt
number_most BadTerms = lit≤ tt
number_most BadCoefficient = lit≤ tt
number_most BadConstant = lit≤ tt
number_most UnknownOperation = lit≤ tt
number_most ColumnTooTall = lit≤ tt
number_most TooManyVariables = lit≤ tt
number_most NoSpace = lit≤ tt
number_most NoAssignment = lit≤ tt
number_most UnknownClause = lit≤ tt
number_most BadField = lit≤ tt
number_most NotWhole = lit≤ tt
number_most NotGivenOnce = lit≤ tt
number_most Unsatisfied = lit≤ tt

-- that of the test at most 21
tested_named : (r : JobRun) (bytes : List ℕ) → tested r bytes ≤ 21
tested_named r bytes = go (readable r.env r.lits r.ends) (is_assignment r.env.variables bytes) (all_hold bytes (clauses_written r.env r.lits r.ends))
  where
    go : (a b c : Bool) → cond a (cond b (cond c 0 21) 16) 1 ≤ 21
    go true true true = omega arith
    go true true false = omega arith
    go true false c = omega arith
    go false b c = omega arith

-- The text -----------------------------------------------------------------------------------------------------------

module _ (r : JobRun) (text : List ℕ) (formed : well_formed r.env (length r.lits) (length r.ends) ≡ true) (field : r.field < 2 ^ 32) where
  test_size : (bytes : List ℕ) → length (by_test r bytes) ≤ 1440
  unfolding by_test
  test_size bytes = go (eqb (tested r bytes) 0)
    where
      go : (t : Bool) → length (cond t (values_text r.env r.lits r.ends bytes) (refused r.field (tested r bytes))) ≤ 1440
      go true = values_fit r.env r.lits r.ends bytes formed
      go false = omega (arith, refused_size r.field (tested r bytes) field (omega (arith, tested_named r bytes)))

  case_size : (s : Result Solution Refusal) → length (by_answer s r text) ≤ 1440
  unfolding by_answer
  case_size (Ok Assignment) = test_size (given r text)
  case_size (Ok Unsatisfiable) = omega arith
  case_size (Err e) = let most = number_most e in omega (arith, refused_size r.field (number e) field (omega arith))

  pub answer_size : length (answer_values r text) ≤ 1440
  answer_size = case_size (answer_to r text)

pub values_short : ValuesShort
unfolding run_values
values_short file lits ends text field status = go (eqb (run_file file lits ends).status 0) refl
  where
    r : JobRun
    r = run_file file lits ends

    go : (t : Bool) → eqb r.status 0 ≡ t → length (cond t (answer_values r text) (refused r.field r.status)) ≤ 1440
    go true e = answer_size r text (file_formed file lits ends (eqb-true r.status 0 e)) field
    go false e = omega (arith, refused_size r.field r.status field status)
