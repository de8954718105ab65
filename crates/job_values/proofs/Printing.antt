-- What stands in the slice, by each place of the code.
use Prim.Native.Nat.{◌<◌, ◌^◌, ◌≤◌, ℕ}
use lib.ListN.{length, take}
use mathlib.Core.Bool.{true}
use mathlib.Core.List.{List}
use mathlib.Core.Path.{◌∙◌, ◌≡◌, ap, subst, sym}
use native.Mathlib.Omega.{arith}
use borrow.Author.Tests.{ne_eqb}
use Rattle.dimacs.proofs.Sizes.{refused_size}
use Rattle.dimacs.specs.Dimacs.{refused}
use Rattle.encoder_env.specs.declared.EncoderEnv.{EncoderEnv}
use Rattle.encoder_env.specs.WellFormed.{well_formed}
use Rattle.encoder_read.specs.Calls.{test_status}
use Rattle.encoder_solution.specs.Answers.{ReadsAnswer, read_answer}
use Rattle.job_file.specs.Run.{JobRun, job_run, run_file}
use Rattle.job_file.specs.declared.JobAnswer.{JobAnswer}
use Rattle.solver_answer.specs.Answer.{said}
use Rattle.solver_answer.specs.declared.Solution.{Solution}
use Rattle.solver_answer.specs.declared.Solution.TheVariants.{Assignment, Unsatisfiable}
use Rattle.std.specs.Prelude.{Result, Ok, Err}
use Rattle.refusal.specs.Number.{number, status}
use Rattle.refusal.specs.declared.Refusal.{Refusal}
use Rattle.encoder_answer.proofs.Statuses.{number_some}
use Rattle.text.proofs.Laws.{printed, printed_first, write_fits}
use Rattle.text.specs.Bytes.{Printed, Text as Place, text as text_of, write}
use Rattle.values_text.proofs.Sizes.{values_fit}
use Rattle.values_text.specs.Values.{values_text}
use Rattle.job_values.specs.declared.TooLong.{TooLong}
use Rattle.job_values.specs.Values.{Stands, Told, accepted, answer_to, answer_values, by_answer, by_test, file_values, given, none_line, run_values}
use Rattle.job_values.proofs.Accepted.{file_formed}
use Rattle.job_values.proofs.Sizes.{answer_size, number_most}

-- Any text that fits -------------------------------------------------------------------------------------------------

module _ (t out after : List ℕ) (r : ℕ) (fits : length t ≤ length out) where
  -- printed whole
  pub printed_stands : length after ≡ length out → Printed t out r after → Stands t r after
  printed_stands n p = record { within = omega (arith, n, p.size); bytes = printed_first t out after r fits p }

  -- written from the start
  pub written_stands : length after ≡ length out → text_of after r ≡ write (text_of out 0) t → Stands t r after
  written_stands n w =
      let e : r ≡ length t = ap (λ (x : Place). x.at) (w ∙ write_fits t out 0 (omega arith)) ∙ omega arith in
      record { within = omega (arith, n, e); bytes = subst (λ (k : ℕ). take k after ≡ t) (sym e) (printed_first t out after (length t) fits (printed t out after (omega arith) fits w)) }

-- By what the test of an assignment answers --------------------------------------------------------------------------

module _ (env : EncoderEnv) (field : ℕ) (lits ends bytes : List ℕ) (status : ℕ) (is : status ≡ test_status env lits ends bytes)
    (out after : List ℕ) (r : ℕ) (room : 1440 ≤ length out) (same : length after ≡ length out) where
  pub values_stand : status ≡ 0 → well_formed env (length lits) (length ends) ≡ true → text_of after r ≡ write (text_of out 0) (values_text env lits ends bytes)
      → Stands (by_test (accepted field env lits ends) bytes) r after
  unfolding by_test
  values_stand z well w = rw (← is, z) (written_stands (values_text env lits ends bytes) out after r (omega (arith, values_fit env lits ends bytes well)) same w)

  pub test_refused : (e : Refusal) → status ≡ number e → field < 2 ^ 32 → Printed (refused field (number e)) out r after
      → Stands (by_test (accepted field env lits ends) bytes) r after
  unfolding by_test
  test_refused e h f p =
      let some = number_some e in
      let most = number_most e in
      rw (← is, h, ne_eqb (number e) 0 (λ z. omega arith)) (printed_stands (refused field (number e)) out after r (omega (arith, refused_size field (number e) f (omega arith))) same p)

-- By what an answer is read as ---------------------------------------------------------------------------------------

module _ (env : EncoderEnv) (field : ℕ) (lits ends text slice : List ℕ) {s : Result Solution Refusal} {bytes : List ℕ}
    (reads : ReadsAnswer env lits ends text slice s bytes) (long : length slice ≡ env.variables)
    (well : well_formed env (length lits) (length ends) ≡ true) (small : field < 2 ^ 32)
    (out after : List ℕ) (r : ℕ) (room : 1440 ≤ length out) (same : length after ≡ length out) where
  abbrev run : JobRun
  run = accepted field env lits ends

  abbrev Answered : Type 0
  Answered = Stands (answer_values run text) r after

  fits : length (answer_values run text) ≤ length out
  fits = omega (arith, answer_size run text well small)

  text_is : (x : Result Solution Refusal) → s ≡ x → by_answer x run text ≡ answer_values run text
  text_is x e =
      let a : answer_to run text ≡ s = subst (λ (k : ℕ). read_answer env (length lits) (length ends) text k ≡ s) long (sym reads.answer) in
      ap (λ (y : Result Solution Refusal). by_answer y run text) (sym (a ∙ e))

  pub assigned : s ≡ Ok Assignment → Stands (by_test run bytes) r after → Answered
  unfolding by_answer said
  assigned e w =
      let b : bytes ≡ given run text = reads.bytes ∙ ap (λ (x : Result Solution Refusal). (said x (given run text) slice).slice) e in
      subst (λ (t : List ℕ). Stands t r after) (ap (by_test run) b ∙ text_is (Ok Assignment) e) w

  pub none_found : s ≡ Ok Unsatisfiable → text_of after r ≡ write (text_of out 0) none_line → Answered
  unfolding by_answer
  none_found e w = written_stands (answer_values run text) out after r fits same (w ∙ ap (write (text_of out 0)) (text_is (Ok Unsatisfiable) e))

  pub answer_refused : (x : Refusal) → s ≡ Err x → Printed (refused field (number x)) out r after → Answered
  unfolding by_answer
  answer_refused x e p =
      printed_stands (answer_values run text) out after r fits same (subst (λ (t : List ℕ). Printed t out r after) (text_is (Err x) e) p)

-- By how the file was run --------------------------------------------------------------------------------------------

module _ (file lits ends text : List ℕ) (a : JobAnswer) (lits₁ ends₁ : List ℕ) (ran : job_run a lits₁ ends₁ ≡ run_file file lits ends) where
  -- an accepted file leaves a job that is well formed
  pub left_formed : status a.answer ≡ 0 → well_formed a.env (length lits₁) (length ends₁) ≡ true
  left_formed h =
      subst (λ (j : JobRun). well_formed j.env (length j.lits) (length j.ends) ≡ true) (sym ran)
      (file_formed file lits ends (ap (λ (j : JobRun). j.status) (sym ran) ∙ h))

  module _ (out after : List ℕ) (r : ℕ) where
    pub file_answered : status a.answer ≡ 0 → Stands (answer_values (accepted a.field a.env lits₁ ends₁) text) r after
        → Stands (file_values file lits ends text) r after
    unfolding run_values
    file_answered h p = subst (λ (j : JobRun). Stands (run_values j text) r after) ran (rw h p)

    pub file_refused : (x : Refusal) → a.answer ≡ Err x → a.field < 2 ^ 32 → 1440 ≤ length out → length after ≡ length out
        → Printed (refused a.field (number x)) out r after → Stands (file_values file lits ends text) r after
    unfolding run_values
    file_refused x is f room same p =
        let some = number_some x in
        let most = number_most x in
        subst (λ (j : JobRun). Stands (run_values j text) r after) ran
        (rw (is, ne_eqb (number x) 0 (λ z. omega arith)) (printed_stands (refused a.field (number x)) out after r (omega (arith, refused_size a.field (number x) f (omega arith))) same p))

-- What a caller knows of a text: it is within the slice ----------------------------------------------------------------

pub text_within : (v : Result ℕ TooLong) (r : ℕ) (file text out after : List ℕ) → v ≡ Ok r → Told v file text out after → r ≤ length after
unfolding Told
text_within v r file text out after e h = (subst (λ (w : Result ℕ TooLong). Told w file text out after) e h).1.within
