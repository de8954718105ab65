-- The clauses of an accepted file can be read (`file_readable`), so that an assignment found is refused with 21 exactly where it leaves one
-- unsatisfied (`values_refused`), and else every value is read (`values_read`); it is then a choice that meets the file's book (`values_meet`).
use Prim.Native.Nat.{ℕ}
use lib.ListN.{length}
use mathlib.Core.Bool.{Bool, cond, false, true}
use mathlib.Core.List.{List}
use mathlib.Core.Path.{◌≡◌, refl, subst, sym}
use Rattle.clause_set.specs.Bytes.{all_hold}
use Rattle.dimacs.specs.Dimacs.{refused}
use Rattle.encoder.proofs.Faithful.{run_readable}
use Rattle.encoder.specs.Faithful.{written}
use Rattle.encoder.specs.Run.{State}
use Rattle.encoder_clauses.proofs.Reading.{readable_formed}
use Rattle.encoder_clauses.specs.Readable.{readable}
use Rattle.encoder_env.specs.WellFormed.{well_formed}
use Rattle.encoder_read.proofs.Known.{assignment_holds}
use Rattle.encoder_read.proofs.Tested.{tested_accepted}
use Rattle.job_file.proofs.AcceptedRun.{accepted_is_run, job_file_faithful}
use Rattle.job_file.specs.Accepted.{calls_of, left_by, switches_of}
use Rattle.job_file.specs.Run.{JobRun, run_file}
use Rattle.solver_answer.proofs.Assignment.{assignment_is}
use Rattle.job_values.specs.Theorems.{ValuesMeet, ValuesRead, ValuesRefused}
use Rattle.job_values.specs.Values.{by_answer, by_test, given, run_values, tested}

abbrev CanBeRead : State → Type 0
CanBeRead s = readable s.env s.lits s.ends ≡ true

module _ (file lits ends : List ℕ) (h : (run_file file lits ends).status ≡ 0) where
  abbrev ran : JobRun
  ran = run_file file lits ends

  pub file_readable : CanBeRead (left_by ran)
  file_readable =
      let run = accepted_is_run file lits ends h in
      subst CanBeRead (sym run.calls) (run_readable (switches_of file) lits ends run.opening (calls_of file))

  pub file_formed : well_formed ran.env (length ran.lits) (length ran.ends) ≡ true
  file_formed = readable_formed ran.env ran.lits ran.ends file_readable

  -- the number of the test, by whether the assignment satisfies the clauses
  file_tested : (text : List ℕ) (t : Bool) → all_hold (given ran text) (written (left_by ran)) ≡ t → tested ran (given ran text) ≡ cond t 0 21
  file_tested text t e = rw (file_readable, assignment_holds ran.env.variables (given ran text) (assignment_is ran.env.variables text), e)

pub values_read : ValuesRead
unfolding run_values by_answer by_test
values_read file lits ends text h found holds =
    let r = run_file file lits ends in
    let passed : tested r (given r text) ≡ 0 = file_tested file lits ends h text true holds in
    record {
      printed = rw (h, found, passed);
      accepted = λ i k. tested_accepted r.env r.lits r.ends i (given r text) passed k;
    }

pub values_refused : ValuesRefused
unfolding run_values by_answer by_test
values_refused file lits ends text h found fails = go (all_hold (given r text) (written (left_by r))) refl
  where
    r : JobRun
    r = run_file file lits ends

    go : (t : Bool) → all_hold (given r text) (written (left_by r)) ≡ t → run_values r text ≡ refused r.field 21
    go true e = absurd (fails e)
    go false e = rw (h, found, file_tested file lits ends h text false e)

pub values_meet : ValuesMeet
values_meet file lits ends text h holds =
    let r = run_file file lits ends in
    (job_file_faithful file lits ends h).every (given r text) (record { assigns = assignment_is r.env.variables text; clauses = holds })
