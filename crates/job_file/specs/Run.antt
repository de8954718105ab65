-- The run of a job file: field after field, each on the job and stores that the last one left; the first refusal ends it
-- (document 01: the job file).
use Rattle.std.specs.Prelude.{◌+◌, ℕ, eqb, leb, length, ◌&&◌, cond, List, [], ◌∷◌, ◌≡◌, IfOk, Result}
use Rattle.encoder_env.specs.declared.EncoderEnv.{EncoderEnv}
use Rattle.encoder_read.specs.Calls.{open_outcome, opened}
use Rattle.encoder_answer.specs.Outcome.{Outcome, refused}
use Rattle.encoder.specs.Run.{State, left, outcome}
use Rattle.job_fields.specs.Fields.{Field, broken, field, fields_of, right_length, right_place}
use Rattle.job_file.specs.Calls.{call_of, switches_in}
use Rattle.job_file.specs.declared.JobAnswer.{JobAnswer}
use Rattle.job_file.specs.declared.Left.{Left}
use Rattle.refusal.specs.Number.{status}
use Rattle.refusal.specs.declared.Refusal.{Refusal}

-- the field refused and its number, or the number of fields and 0; the job and the stores that the accepted fields left
pub record JobRun : Type 0 where
  pub field : ℕ
  pub status : ℕ
  pub env : EncoderEnv
  pub lits : List ℕ
  pub ends : List ℕ

-- the code's answer, with the stores after it
abbrev pub job_run : JobAnswer → List ℕ → List ℕ → JobRun
job_run a lits ends = record { field = a.field; status = status a.answer; env = a.env; lits = lits; ends = ends }

-- what the code has left, with why the next field is refused
abbrev pub left_run : Left → Result (Unit {0}) Refusal → List ℕ → List ℕ → JobRun
left_run left r lits ends = record { field = left.field; status = status r; env = left.env; lits = lits; ends = ends }

-- the code leaves the outcome: its number, the job where it is accepted, and the stores
pub record Leaves (o : Outcome) (r : Result EncoderEnv Refusal) (lits-after ends-after : List ℕ) : Type 0 where
  pub number : status r ≡ o.status
  pub job : IfOk r (λ job. job ≡ o.env)
  pub lits : lits-after ≡ o.lits
  pub ends : ends-after ≡ o.ends

abbrev pub state : EncoderEnv → List ℕ → List ℕ → State
state env lits ends = record { env = env; lits = lits; ends = ends }

abbrev pub ended : ℕ → ℕ → State → JobRun
ended index status s = record { field = index; status = status; env = s.env; lits = s.lits; ends = s.ends }

-- 18: nothing is changed
abbrev pub not_read : State → Outcome
not_read s = refused 18 s.env s.lits s.ends

-- the call that a tag and its contents make
unfoldable pub called : State → ℕ → List ℕ → Outcome
called s tag contents =
    cond (eqb tag 1) (open_outcome (switches_in contents) s.lits s.ends) (outcome s (call_of tag contents))

-- a field: its tag, its length, its call
unfoldable pub field_outcome : ℕ → State → Field → Outcome
field_outcome index s broken = not_read s
field_outcome index s (field tag contents) =
    cond (right_place index tag && right_length tag (length contents)) (called s tag contents) (not_read s)

-- The fields from number `index` on. Where there is none at all, tag 01 is missing. A refusal ends the run with the job and stores that the
-- fields before it left.
unfoldable pub run_fields : ℕ → State → List Field → JobRun
run_fields index s [] = ended index (cond (eqb index 0) 18 0) s
run_fields index s (f ∷ fs) =
    let o = field_outcome index s f in
    cond (eqb o.status 0) (run_fields (index + 1) (left o) fs) (ended index o.status s)

-- an input over 8,192 bytes is refused first; before tag 01 the job is all 0
unfoldable pub run_file : List ℕ → List ℕ → List ℕ → JobRun
run_file s lits ends =
    let start = state (opened 0) lits ends in
    cond (leb (length s) 8192) (run_fields 0 start (fields_of s)) (ended 0 18 start)
