-- Laws of the loop over the fields: what is left of the run gives the whole.
use Prim.Native.Nat.{◌+◌, ◌-◌, ◌<◌, ◌≤◌, ℕ}
use native.Mathlib.Omega.{arith}
use mathlib.Core.Path.{◌∙◌, ◌≡◌, ap, refl, sym}
use mathlib.Core.List.{List}
use lib.ListN.{drop, length}
use borrow.Author.Tests.{le-leb, lt-leb, ne_eqb}
use lib.Dec.{eqb}
use mathlib.Core.Bool.{cond}
use Rattle.encoder_env.specs.declared.EncoderEnv.{EncoderEnv}
use Rattle.encoder_read.specs.Calls.{opened}
use Rattle.encoder_answer.proofs.Statuses.{number_some}
use Rattle.refusal.specs.Number.{number}
use Rattle.refusal.specs.declared.Refusal.{Refusal}
use Rattle.std.specs.Prelude.{Option, None, Some, Ok, Err}
use Rattle.job_fields.specs.Fields.{field, fields, fields_of}
use Rattle.job_fields.specs.Places.{Broken, Contents, End, FieldAt, field_at, fields_from}
use Rattle.job_fields.proofs.Places.{field_within, fields_at}
use Rattle.job_file.specs.Run.{JobRun, Leaves, ended, field_outcome, run_fields, run_file, state}
use Rattle.job_file.proofs.Refused.{field_unchanged}

-- from a place on, with enough fields to come
pub record Going (s : List ℕ) (all : JobRun) (at index : ℕ) (env : EncoderEnv) (lits ends : List ℕ) : Type 0 where
  pub most : ℕ
  pub enough : length s - at ≤ most
  pub rest : run_fields index (state env lits ends) (fields most (drop at s)) ≡ all

pub none_there : {A : Type 0} (o : Option A) → ((x : A) → o ≡ Some x → ⊥) → o ≡ None
none_there None h = refl
none_there (Some x) h = absurd (h x refl)

pub too_long : (s lits ends : List ℕ) → 8192 < length s → ended 0 18 (state (opened 0) lits ends) ≡ run_file s lits ends
unfolding run_file
too_long s lits ends h = rw (lt-leb (length s) 8192 h)

pub going_start : (s lits ends : List ℕ) {env : EncoderEnv} → env ≡ opened 0 → length s ≤ 8192 → Going s (run_file s lits ends) 0 0 env lits ends
unfolding run_file fields_of
going_start s lits ends e h = record { most = length s; enough = omega arith; rest = rw (e, le-leb (length s) 8192 h) }

module _ {s : List ℕ} {all : JobRun} {at index : ℕ} {env : EncoderEnv} {lits ends : List ℕ} (g : Going s all at index env lits ends) where
  rest_at : (x : FieldAt) → x ≡ field_at s at → run_fields index (state env lits ends) (fields_from (g.most - 1) s x) ≡ all
  rest_at x p = ap (λ y. run_fields index (state env lits ends) (fields_from (g.most - 1) s y)) p
      ∙ ap (run_fields index (state env lits ends)) (sym (fields_at g.most s at g.enough))
      ∙ g.rest

  -- a length is broken, or the file ends
  pub broken_ends : Broken ≡ field_at s at → ended index 18 (state env lits ends) ≡ all
  unfolding run_fields field_outcome
  broken_ends p = rest_at Broken p

  pub file_ends : End ≡ field_at s at → ended index (cond (eqb index 0) 18 0) (state env lits ends) ≡ all
  unfolding run_fields
  file_ends p = rest_at End p

  module _ (tag : ℕ) (c : List ℕ) (end : ℕ) (p : Contents tag c end ≡ field_at s at) {l e : List ℕ} where
    pub field_refused : (x : Refusal) → Leaves (field_outcome index (state env lits ends) (field tag c)) (Err x) l e → ended index (number x) (state env l e) ≡ all
    unfolding run_fields
    field_refused x h =
        let some = number_some x in
        let k : number x ≡ 0 → ⊥ = λ z. omega arith in
        let u = field_unchanged index (state env lits ends) tag c (λ z. k (h.number ∙ z)) in
        rw (h.lits ∙ u.0, h.ends ∙ u.1) (rw (← h.number, ne_eqb (number x) 0 k) at (rest_at (Contents tag c end) p))

    pub field_accepted : (job : EncoderEnv) → Leaves (field_outcome index (state env lits ends) (field tag c)) (Ok job) l e → Going s all end (index + 1) job l e
    unfolding run_fields
    field_accepted job h =
        let w = field_within s at tag c end (sym p) in
        record {
          most = g.most - 1;
          enough = omega (arith, g.enough, w.from, w.inside);
          rest = rw (← h.number, ← h.job, ← h.lits, ← h.ends) at (rest_at (Contents tag c end) p);
        }
