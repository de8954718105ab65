-- The test of an assignment and a reading after it: what either knows, and that together they answer what a reading does (`test_then_read`).
use Prim.Native.Nat.{ℕ}
use borrow.Author.Tests.{le-ltb, lt-ltb}
use lib.Dec.{ltb}
use lib.ListN.{length}
use mathlib.Core.Bool.{Bool, cond, false, true}
use mathlib.Core.List.{List}
use mathlib.Core.Path.{◌≡◌, ap, refl}
use Prim.Native.Nat.{◌<◌, ◌≤◌}
use Rattle.clause_set.specs.Bytes.{all_hold}
use Rattle.encoder_env.specs.declared.EncoderEnv.{EncoderEnv}
use Rattle.encoder_env.proofs.Kept.{Kept, kept}
use Rattle.encoder_clauses.specs.Readable.{clauses_written, readable}
use Rattle.encoder_clauses.proofs.Reading.{readable_formed}
use Rattle.encoder_answer.specs.Outcome.{settled, status_of}
use Rattle.encoder_answer.proofs.Statuses.{passed}
use Rattle.encoder_read.specs.Calls.{TestThenRead, by_test, bytes_checks, is_assignment, read_checks, read_outcome, test_status, value_read}

module _ (env : EncoderEnv) (lits ends : List ℕ) (x : ℕ) (assignment : List ℕ) where
  abbrev bytes_status : ℕ
  bytes_status = status_of (bytes_checks env lits ends assignment)

  -- a test that is passed is on a well-formed job
  pub tested_job : test_status env lits ends assignment ≡ 0 → Kept env (length lits) (length ends)
  tested_job h = kept env (length lits) (length ends) (readable_formed env lits ends (passed (readable env lits ends) bytes_status 0 h).0)

  -- after it a reading is of a known setting, or refused with 8
  pub tested_known : test_status env lits ends assignment ≡ 0 → x < env.count → status_of (read_checks env lits ends x assignment) ≡ 0
  tested_known h k = let p = passed (readable env lits ends) bytes_status 0 h in rw (p.0, lt-ltb x env.count k) p.1

  pub tested_unknown : test_status env lits ends assignment ≡ 0 → env.count ≤ x → status_of (read_checks env lits ends x assignment) ≡ 8
  tested_unknown h k = let p = passed (readable env lits ends) bytes_status 0 h in rw (p.0, le-ltb x env.count k)

  pub tested_accepted : test_status env lits ends assignment ≡ 0 → x < env.count → (read_outcome env lits ends x assignment).status ≡ 0
  tested_accepted h k = rw (tested_known h k)

  -- a reading that is accepted has passed the test
  pub read_tested : status_of (read_checks env lits ends x assignment) ≡ 0 → test_status env lits ends assignment ≡ 0
  read_tested h =
      let p = passed (readable env lits ends) _ 0 h in
      rw p.0 (passed (ltb x env.count) bytes_status 7 p.1).1

  number_by_test : status_of (read_checks env lits ends x assignment) ≡ by_test (test_status env lits ends assignment) (ltb x env.count)
  number_by_test = go (readable env lits ends) (ltb x env.count) (is_assignment env.variables assignment) (all_hold assignment (clauses_written env lits ends))
    where
      go : (r k a h : Bool) → cond r (cond k (cond a (cond h 0 21) 16) 8) 1 ≡ by_test (cond r (cond a (cond h 0 21) 16) 1) k
      go true true true true = refl
      go true true true false = refl
      go true true false h = refl
      go true false true true = refl
      go true false true false = refl
      go true false false h = refl
      go false k a h = refl

pub test_then_read : TestThenRead
test_then_read env lits ends x assignment =
    ap (λ (n : ℕ). settled n env lits ends (value_read env lits ends x assignment)) (number_by_test env lits ends x assignment)
