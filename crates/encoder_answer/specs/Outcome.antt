-- What a call answers and leaves (document 01: numbers answered).
use Rattle.std.specs.Prelude.{◌<◌, ℕ, eqb, pos, ℤ, Bool, cond, List, [], ◌∷◌, ◌≡◌, Result, Ok, Err}
use Rattle.refusal.specs.Number.{number}
use Rattle.refusal.specs.declared.Refusal.{Refusal}
use Rattle.encoder_env.specs.declared.EncoderEnv.{EncoderEnv}

-- number, job, value, part, and the two stores after the call
pub record Outcome : Type 0 where
  pub status : ℕ
  pub env : EncoderEnv
  pub value : ℤ
  pub part : List ℕ
  pub lits : List ℕ
  pub ends : List ℕ

-- a refusal returns its number, the job as given, value 0 and an empty part, and no store entry is changed
abbrev pub refused : ℕ → EncoderEnv → List ℕ → List ℕ → Outcome
refused number env lits ends = record { status = number; env = env; value = pos 0; part = []; lits = lits; ends = ends }

-- a check, and the number of the refusal where it does not hold
pub record Check : Type 0 where
  pub holds : Bool
  pub number : ℕ

abbrev pub check : Bool → ℕ → Check
check b n = record { holds = b; number = n }

-- checks run in the order written: the number of the first that does not hold, 0 if all do
abbrev pub status_of : List Check → ℕ
status_of [] = 0
status_of (c ∷ cs) = cond c.holds (status_of cs) c.number

-- no number is 0
abbrev pub Numbered : List Check → Type 0
Numbered [] = Unit
Numbered (c ∷ cs) = (0 < c.number) × Numbered cs

-- the outcome where all checks hold, else the refusal
abbrev pub settled : ℕ → EncoderEnv → List ℕ → List ℕ → Outcome → Outcome
settled status env lits ends accepted = cond (eqb status 0) accepted (refused status env lits ends)

-- the number answered, the job and the value of a reading
pub record Answer : Type 0 where
  pub status : ℕ
  pub env : EncoderEnv
  pub value : ℤ

-- a call that leaves a job: refused, the job is as given
abbrev pub adds : EncoderEnv → Result EncoderEnv Refusal → Answer
adds given (Ok job) = record { status = 0; env = job; value = pos 0 }
adds given (Err e) = record { status = number e; env = given; value = pos 0 }

-- a reading, which leaves the job as it is
abbrev pub reads : EncoderEnv → Result ℤ Refusal → Answer
reads env (Ok z) = record { status = 0; env = env; value = z }
reads env (Err e) = record { status = number e; env = env; value = pos 0 }

-- the code answers the outcome
pub record Answers (o : Outcome) (a : Answer) (lits-after ends-after : List ℕ) : Type 0 where
  pub status : a.status ≡ o.status
  pub env : a.env ≡ o.env
  pub value : a.value ≡ o.value
  pub lits : lits-after ≡ o.lits
  pub ends : ends-after ≡ o.ends
