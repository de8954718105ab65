-- An accepted job file is an opening and a run of calls, and its clauses are faithful to the book of its fields.
use Rattle.std.specs.Prelude.{ℕ, length, List, [], ◌∷◌, ◌≡◌}
use Rattle.norm_csp.specs.NormCsp.{NormCsp, begun}
use Rattle.encoder_read.specs.Calls.{open_outcome}
use Rattle.encoder.specs.Run.{Call, State, enter, left, outcome, run}
use Rattle.encoder.specs.Faithful.{Faithful}
use Rattle.job_fields.specs.Fields.{Field, broken, field, fields_of}
use Rattle.job_file.specs.Calls.{call_of, switches_in}
use Rattle.job_file.specs.Run.{JobRun, run_file, state}

-- the calls of some fields
abbrev pub calls_in : List Field → List Call
calls_in [] = []
calls_in (broken ∷ fs) = calls_in fs
calls_in (field tag contents ∷ fs) = call_of tag contents ∷ calls_in fs

-- the switch count is the first field's
abbrev pub opening_in : List Field → ℕ
opening_in [] = 0
opening_in (broken ∷ fs) = 0
opening_in (field tag contents ∷ fs) = switches_in contents

-- the calls are those of the others
abbrev pub calls_behind : List Field → List Call
calls_behind [] = []
calls_behind (f ∷ fs) = calls_in fs

abbrev pub switches_of : List ℕ → ℕ
switches_of s = opening_in (fields_of s)

abbrev pub calls_of : List ℕ → List Call
calls_of s = calls_behind (fields_of s)

-- what the run left
abbrev pub left_by : JobRun → State
left_by r = state r.env r.lits r.ends

-- each call, on what the last one left, is answered 0
abbrev pub AllAccepted : State → List Call → Type 0
AllAccepted s [] = Unit
AllAccepted s (c ∷ cs) = ((outcome s c).status ≡ 0) × AllAccepted (left (outcome s c)) cs

-- the opening and every call of the file are accepted, the job and stores are what they left, and the number told is that of the fields
pub record IsRun (s lits ends : List ℕ) : Type 0 where
  pub opening : (open_outcome (switches_of s) lits ends).status ≡ 0
  pub accepted : AllAccepted (left (open_outcome (switches_of s) lits ends)) (calls_of s)
  pub calls : left_by (run_file s lits ends) ≡ run (left (open_outcome (switches_of s) lits ends)) (calls_of s)
  pub fields : (run_file s lits ends).field ≡ length (fields_of s)

abbrev pub AcceptedIsRun : Type 0
AcceptedIsRun = (s lits ends : List ℕ) → (run_file s lits ends).status ≡ 0 → IsRun s lits ends

-- the book with every call entered
abbrev pub entered : NormCsp → List Call → NormCsp
entered b [] = b
entered b (c ∷ cs) = entered (enter c b) cs

-- the book of a job file: its switches, and every other field's setting or rule
abbrev pub book_of : List ℕ → NormCsp
book_of s = entered (begun (switches_of s)) (calls_of s)

abbrev pub JobFileFaithful : Type 0
JobFileFaithful =
    (s lits ends : List ℕ) → (run_file s lits ends).status ≡ 0 → Faithful (left_by (run_file s lits ends)) (book_of s)
