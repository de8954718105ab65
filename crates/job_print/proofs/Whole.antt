-- How long the text of a job file is: over the program's stores at most 65,551 bytes (`text_size`), so that the program prints it whole
-- (`job_printed`). Its header counts every variable of its clauses (`variables_counted`).
use Prim.Native.Nat.{◌<◌, ◌^◌, ◌≤◌, ℕ}
use lib.Dec.{eqb}
use lib.ListN.{length, length-replicate, replicate, take}
use mathlib.Core.Bool.{Bool, cond, false, true}
use mathlib.Core.List.{List}
use mathlib.Core.Path.{◌∙◌, ◌≡◌, ap, refl, subst, sym}
use native.Mathlib.Omega.{arith}
use borrow.Author.Tests.{eqb-true, ne_eqb}
use Rattle.sat.specs.Encodes.{ClausesBelow}
use Rattle.sat.specs.Size.{entries}
use Rattle.text.specs.Bytes.{Printed}
use Rattle.text.proofs.Laws.{printed_first}
use Rattle.dimacs.specs.Dimacs.{print_of, refused}
use Rattle.dimacs.proofs.Sizes.{print_fits, refused_size}
use Rattle.encoder_env.proofs.Kept.{Kept}
use Rattle.encoder_read.specs.Calls.{open_outcome}
use Rattle.encoder.specs.Faithful.{written}
use Rattle.encoder.specs.Run.{State, left}
use Rattle.encoder.proofs.Faithful.{written_known}
use Rattle.encoder.proofs.Lengths.{open_long, run_long}
use Rattle.job_file.specs.Accepted.{calls_of, left_by, switches_of}
use Rattle.job_file.specs.Run.{JobRun, job_run, run_file}
use Rattle.std.specs.Prelude.{Ok, Err}
use Rattle.refusal.specs.Number.{number, status}
use Rattle.refusal.specs.declared.Refusal.{Refusal}
use Rattle.encoder_answer.proofs.Statuses.{number_some}
use Rattle.job_file.specs.declared.JobAnswer.{JobAnswer}
use Rattle.job_file.proofs.AcceptedRun.{accepted_is_run}
use Rattle.job_print.specs.Print.{FilePrinted, answer_of, file_print, program_print}

-- what is known of the job, the stores and the clauses that an accepted file leaves, where these stores were lent
record Known (lits ends : List ℕ) (s : State) : Type 0 where
  kept : Kept s.env (length s.lits) (length s.ends)
  below : ClausesBelow s.env.variables (written s)
  counted : entries (written s) ≡ s.env.literals
  lits_long : length s.lits ≡ length lits
  ends_long : length s.ends ≡ length ends

module _ (bytes lits ends : List ℕ) (accepted : (run_file bytes lits ends).status ≡ 0) where
  known : Known lits ends (left_by (run_file bytes lits ends))
  known =
      let ran = accepted_is_run bytes lits ends accepted in
      let (kept, below, counted) = written_known (switches_of bytes) lits ends ran.opening (calls_of bytes) in
      let first = open_long (switches_of bytes) lits ends in
      let long = run_long (left (open_outcome (switches_of bytes) lits ends)) (calls_of bytes) in
      subst (Known lits ends) (sym ran.calls)
      (record { kept = kept; below = below; counted = counted; lits_long = long.0 ∙ first.0; ends_long = long.1 ∙ first.1 })

  -- V counts every variable that the clauses have
  pub variables_counted : ClausesBelow (run_file bytes lits ends).env.variables (written (left_by (run_file bytes lits ends)))
  variables_counted = known.below

module _ (bytes lits ends : List ℕ) (long-lits : length lits ≤ 8192) (long-ends : length ends ≤ 4096) where
  -- the print of an accepted file
  accepted_size : (run_file bytes lits ends).status ≡ 0
      → (let r = run_file bytes lits ends in length (print_of r.env r.lits r.ends) ≤ 65551)
  accepted_size h =
      let r = run_file bytes lits ends in
      let k = known bytes lits ends h in
      print_fits r.env r.lits r.ends k.kept.variables_max k.below (omega (arith, k.counted, k.kept.literals_in, k.lits_long))
      (omega (arith, k.kept.clauses_in, k.ends_long))

  -- the field and the number of a refusal are u32
  module _ (field : (run_file bytes lits ends).field < 2 ^ 32) (status : (run_file bytes lits ends).status < 2 ^ 32) where
    text_size : length (file_print bytes lits ends) ≤ 65551
    unfolding answer_of
    text_size = go (eqb (run_file bytes lits ends).status 0) refl
      where
        r : JobRun
        r = run_file bytes lits ends

        go : (t : Bool) → eqb (run_file bytes lits ends).status 0 ≡ t → length (cond t (print_of r.env r.lits r.ends) (refused r.field r.status)) ≤ 65551
        go true e = accepted_size (eqb-true r.status 0 e)
        go false e = omega (arith, refused_size r.field r.status field status)

-- What `print_file` ensures, where the run answered a and left these stores ------------------------------------------

module _ (bytes lits ends : List ℕ) (a : JobAnswer) (lits₁ ends₁ : List ℕ) (ran : job_run a lits₁ ends₁ ≡ run_file bytes lits ends) where
  -- the literal store of an accepted file is within its bound
  pub store_within : status a.answer ≡ 0 → length lits₁ ≤ 16777216
  store_within h = subst (λ (j : JobRun). length j.lits ≤ 16777216) (sym ran) (known bytes lits ends (ap (λ (j : JobRun). j.status) (sym ran) ∙ h)).kept.lits_max

  module _ (field : a.field < 2 ^ 32) (small : status a.answer < 2 ^ 32) (out after : List ℕ) (r : ℕ) where
    abbrev Answered : Type 0
    Answered = FilePrinted bytes lits ends out r lits₁ ends₁ after

    answered : (t : List ℕ) → answer_of (job_run a lits₁ ends₁) ≡ t → Printed t out r after → Answered
    answered t e p =
        let here : Printed (file_print bytes lits ends) out r after = subst (λ (x : List ℕ). Printed x out r after) (sym e ∙ ap answer_of ran) p in
        let f = subst (λ (j : JobRun). j.field < 2 ^ 32) ran field in
        let n = subst (λ (j : JobRun). j.status < 2 ^ 32) ran small in
        record {
          printed = here;
          lits_are = ap (λ (j : JobRun). j.lits) ran;
          ends_are = ap (λ (j : JobRun). j.ends) ran;
          short = λ x y. omega (arith, here.size, text_size bytes lits ends x y f n);
        }

    pub refusal_printed : (x : Refusal) → a.answer ≡ Err x → Printed (refused a.field (number x)) out r after → Answered
    unfolding answer_of
    refusal_printed x is p =
        let some = number_some x in
        answered _ (rw (is, ne_eqb (number x) 0 (λ z. omega arith))) p

    pub clauses_printed : a.answer ≡ Ok tt → Printed (print_of a.env lits₁ ends₁) out r after → Answered
    unfolding answer_of
    clauses_printed is p = answered _ (rw is) p

-- What `print_job` ensures: every text fits -------------------------------------------------------------------------

pub job_printed : (bytes out after : List ℕ) (r : ℕ) → 65551 ≤ length out → length after ≡ length out
    → {lits ends : List ℕ} → FilePrinted bytes (replicate 8192 0) (replicate 4096 0) out r lits ends after
    → (r ≤ length after) × (take r after ≡ program_print bytes)
unfolding program_print
job_printed bytes out after r h n p =
    let short : r ≤ 65551 = p.short (rw length-replicate (omega arith)) (rw length-replicate (omega arith)) in
    (omega (arith, n), printed_first _ out after r (omega (arith, p.printed.size)) p.printed)
