-- What is known of the values printed.
use Rattle.std.specs.Prelude.{◌<◌, ◌^◌, ◌≤◌, ℕ, length, cond, true, List, ◌++◌, ◌≡◌, Ok}
use Rattle.clause_set.specs.Bytes.{all_hold}
use Rattle.norm_csp.specs.NormCsp.{Meets, NormCsp, Valuation, number_of, switch_of}
use Rattle.encoder.specs.Faithful.{ReadsBack, written}
use Rattle.encoder_read.specs.Calls.{read_outcome}
use Rattle.job_file.specs.Accepted.{book_of, left_by}
use Rattle.job_file.specs.Run.{JobRun, run_file}
use Rattle.solver_answer.specs.declared.Solution.TheVariants.{Assignment}
use Rattle.values_text.specs.Values.{lines_from, setting_line, switch_line, values_text}
use Rattle.dimacs.specs.Dimacs.{refused}
use Rattle.job_values.specs.Values.{answer_to, file_values, given, run_values}

-- every text has at most 1,440 bytes; field and number of a refusal are u32
abbrev pub ValuesShort : Type 0
ValuesShort =
    (file lits ends text : List ℕ) → (let r = run_file file lits ends in
    r.field < 2 ^ 32 → r.status < 2 ^ 32 → length (file_values file lits ends text) ≤ 1440)

-- the assignment that an answer gives satisfies the file's clauses
abbrev pub Holds : JobRun → List ℕ → Type 0
Holds r text = all_hold (given r text) (written (left_by r)) ≡ true

-- the text is that of the values under the bytes that the answer gives, and the reading of each is accepted
pub record AllRead (r : JobRun) (text : List ℕ) : Type 0 where
  pub printed : run_values r text ≡ values_text r.env r.lits r.ends (given r text)
  pub accepted : (i : ℕ) → i < r.env.count → (read_outcome r.env r.lits r.ends i (given r text)).status ≡ 0

-- where a file is accepted and the assignment found satisfies its clauses, every value printed is that of an accepted reading
abbrev pub ValuesRead : Type 0
ValuesRead =
    (file lits ends text : List ℕ) → (let r = run_file file lits ends in
    r.status ≡ 0 → answer_to r text ≡ Ok Assignment → Holds r text → AllRead r text)

-- where it leaves a clause unsatisfied, nothing but `refused F 21` is printed (#104)
abbrev pub ValuesRefused : Type 0
ValuesRefused =
    (file lits ends text : List ℕ) → (let r = run_file file lits ends in
    r.status ≡ 0 → answer_to r text ≡ Ok Assignment → ¬ (Holds r text) → run_values r text ≡ refused r.field 21)

-- where a file is accepted and what the answer gives satisfies its clauses, it reads back as a choice that meets the file's book
abbrev pub ValuesMeet : Type 0
ValuesMeet =
    (file lits ends text : List ℕ) → (let r = run_file file lits ends in
    r.status ≡ 0 → Holds r text
    → (ch : Valuation) × Meets (book_of file) ch × ReadsBack (left_by r) (book_of file) (given r text) ch)

-- the text of a choice: each setting's number, then each switch's answer
unfoldable pub choice_text : NormCsp → Valuation → List ℕ
choice_text b ch =
    lines_from (λ i. setting_line i (number_of ch i)) 0 (length b.vars)
    ++ lines_from (λ i. switch_line i (cond (switch_of ch i) 1 0)) 0 b.switches

-- where the assignment found satisfies the clauses, what is printed is the text of a choice that meets the file's book
abbrev pub ValuesPrinted : Type 0
ValuesPrinted =
    (file lits ends text : List ℕ) → (let r = run_file file lits ends in
    r.status ≡ 0 → answer_to r text ≡ Ok Assignment → Holds r text
    → (ch : Valuation) × Meets (book_of file) ch × (file_values file lits ends text ≡ choice_text (book_of file) ch))
