-- An accepted job file is an opening and a run of its calls (`accepted_is_run`), and its clauses are faithful to its book
-- (`job_file_faithful`).
use Prim.Native.Nat.{◌+◌, ◌<◌, ℕ}
use native.Mathlib.Omega.{arith}
use mathlib.Core.Path.{◌∙◌, ◌≡◌, ap, refl, sym}
use mathlib.Core.Bool.{Bool, ◌&&◌, cond, false, true}
use mathlib.Core.List.{List, [], ◌∷◌}
use lib.Dec.{eqb, leb}
use lib.ListN.{length}
use borrow.Author.Tests.{eqb-false, eqb-true, ne_eqb, not-true}
use Rattle.norm_csp.specs.NormCsp.{NormCsp, begun}
use Rattle.encoder_read.specs.Calls.{open_outcome, opened}
use Rattle.encoder_answer.specs.Outcome.{Outcome}
use Rattle.encoder.specs.Run.{Call, State, answered, book, enter, left, outcome, run}
use Rattle.encoder.proofs.Faithful.{demand_3}
use Rattle.job_fields.specs.Fields.{Field, broken, field, fields_of, right_length, right_place}
use Rattle.job_file.specs.Calls.{call_of, switches_in}
use Rattle.job_file.specs.Run.{JobRun, called, ended, field_outcome, not_read, run_fields, run_file, state}
use Rattle.job_file.specs.Accepted.{AcceptedIsRun, AllAccepted, JobFileFaithful, calls_behind, calls_in, calls_of, entered, left_by, opening_in, switches_of}

-- One field --------------------------------------------------------------------------------------------------------------

-- an accepted field is in its right place, and is its call
field_is_call : (index : ℕ) (s : State) (tag : ℕ) (c : List ℕ) → (field_outcome index s (field tag c)).status ≡ 0
    → (right_place index tag ≡ true) × (field_outcome index s (field tag c) ≡ called s tag c)
unfolding field_outcome
field_is_call index s tag c h = go (right_place index tag) (right_length tag (length c)) h
  where
    go : (x y : Bool) → (cond (x && y) (called s tag c) (not_read s)).status ≡ 0
        → (x ≡ true) × (cond (x && y) (called s tag c) (not_read s) ≡ called s tag c)
    go false y g = absurd (omega arith)
    go true false g = absurd (omega arith)
    go true true g = (refl, refl)

-- the first one is the opening
first_is_open : (s : State) (tag : ℕ) (c : List ℕ) → (field_outcome 0 s (field tag c)).status ≡ 0
    → field_outcome 0 s (field tag c) ≡ open_outcome (switches_in c) s.lits s.ends
unfolding right_place called
first_is_open s tag c h = let (p, q) = field_is_call 0 s tag c h in q ∙ (rw p)

-- every later one is a call
later_is_call : (index : ℕ) (s : State) (tag : ℕ) (c : List ℕ) → 0 < index → (field_outcome index s (field tag c)).status ≡ 0
    → field_outcome index s (field tag c) ≡ outcome s (call_of tag c)
unfolding right_place called
later_is_call index s tag c l h =
    let (p, q) = field_is_call index s tag c h in
    let n : eqb tag 1 ≡ false = not-true (eqb tag 1) (rw (ne_eqb index 0 (λ e. omega arith)) at p) in
    q ∙ (rw n)

-- The fields behind the first --------------------------------------------------------------------------------------------

-- a run of their calls, all accepted
record Ran (index : ℕ) (s : State) (fs : List Field) : Type 0 where
  calls : left_by (run_fields index s fs) ≡ run s (calls_in fs)
  count : (run_fields index s fs).field ≡ index + length fs
  accepted : AllAccepted s (calls_in fs)

-- an accepted run goes on behind its first field, which is accepted
goes_on : (index : ℕ) (s : State) (f : Field) (fs : List Field) → (run_fields index s (f ∷ fs)).status ≡ 0
    → let o = field_outcome index s f in (o.status ≡ 0) × (run_fields index s (f ∷ fs) ≡ run_fields (index + 1) (left o) fs)
unfolding run_fields
goes_on index s f fs h = go (eqb (field_outcome index s f).status 0) refl h
  where
    o : Outcome
    o = field_outcome index s f

    after : JobRun
    after = run_fields (index + 1) (left o) fs

    before : JobRun
    before = ended index o.status s

    go : (x : Bool) → eqb o.status 0 ≡ x → (cond x after before).status ≡ 0 → (o.status ≡ 0) × (cond x after before ≡ after)
    go true p g = (eqb-true o.status 0 p, refl)
    go false p g = absurd (eqb-false o.status 0 p g)

ran : (fs : List Field) (index : ℕ) (s : State) → 0 < index → (run_fields index s fs).status ≡ 0 → Ran index s fs
unfolding run_fields field_outcome
ran [] index s l h = record { calls = refl; count = omega arith; accepted = tt }
ran (broken ∷ fs) index s l h = absurd (omega (arith, (goes_on index s broken fs h).0))
ran (field tag c ∷ fs) index s l h =
    let (a, e) = goes_on index s (field tag c) fs h in
    let o = later_is_call index s tag c l a in
    let e' : run_fields index s (field tag c ∷ fs) ≡ run_fields (index + 1) (left (outcome s (call_of tag c))) fs = rw (← o) e in
    let more = ran fs (index + 1) (left (outcome s (call_of tag c))) (omega arith) (ap (λ r. r.status) (sym e') ∙ h) in
    record {
      calls = ap left_by e' ∙ more.calls;
      count = ap (λ r. r.field) e' ∙ more.count ∙ omega arith;
      accepted = (rw (← o) a, more.accepted);
    }

-- The file ---------------------------------------------------------------------------------------------------------------

module _ (lits ends : List ℕ) where
  abbrev start : State
  start = state (opened 0) lits ends

  -- a file within bounds, by its fields
  record OpenedBy (fs : List Field) : Type 0 where
    opening : (open_outcome (opening_in fs) lits ends).status ≡ 0
    calls : left_by (run_fields 0 start fs) ≡ run (left (open_outcome (opening_in fs) lits ends)) (calls_behind fs)
    count : (run_fields 0 start fs).field ≡ length fs
    accepted : AllAccepted (left (open_outcome (opening_in fs) lits ends)) (calls_behind fs)

  opened_by : (fs : List Field) → (run_fields 0 start fs).status ≡ 0 → OpenedBy fs
  unfolding run_fields field_outcome
  opened_by [] h = absurd (omega arith)
  opened_by (broken ∷ fs) h = absurd (omega (arith, (goes_on 0 start broken fs h).0))
  opened_by (field tag c ∷ fs) h =
      let (a, e) = goes_on 0 start (field tag c) fs h in
      let o = first_is_open start tag c a in
      let e' : run_fields 0 start (field tag c ∷ fs) ≡ run_fields 1 (left (open_outcome (switches_in c) lits ends)) fs = rw (← o) e in
      let more = ran fs 1 (left (open_outcome (switches_in c) lits ends)) (omega arith) (ap (λ r. r.status) (sym e') ∙ h) in
      record {
        opening = rw (← o) a;
        calls = ap left_by e' ∙ more.calls;
        count = ap (λ r. r.field) e' ∙ more.count ∙ omega arith;
        accepted = more.accepted;
      }

  -- an accepted file is within bounds
  within : (s : List ℕ) → (run_file s lits ends).status ≡ 0 → run_file s lits ends ≡ run_fields 0 start (fields_of s)
  unfolding run_file
  within s h = go (leb (length s) 8192) h
    where
      go : (x : Bool) → (cond x (run_fields 0 start (fields_of s)) (ended 0 18 start)).status ≡ 0
          → cond x (run_fields 0 start (fields_of s)) (ended 0 18 start) ≡ run_fields 0 start (fields_of s)
      go true g = refl
      go false g = absurd (omega arith)

pub accepted_is_run : AcceptedIsRun
accepted_is_run s lits ends h =
    let w = within lits ends s h in
    let o = opened_by lits ends (fields_of s) (ap (λ r. r.status) (sym w) ∙ h) in
    record { opening = o.opening; accepted = o.accepted; calls = ap left_by w ∙ o.calls; fields = ap (λ r. r.field) w ∙ o.count }

-- the book holds every call that is accepted
all_entered : (s : State) (cs : List Call) (b : NormCsp) → AllAccepted s cs → book b (answered s cs) ≡ entered b cs
all_entered s [] b h = refl
all_entered s (c ∷ cs) b h =
    ap (λ (n : ℕ). book (cond (eqb n 0) (enter c b) b) (answered (left (outcome s c)) cs)) h.0 ∙ all_entered (left (outcome s c)) cs (enter c b) h.1

pub job_file_faithful : JobFileFaithful
job_file_faithful s lits ends h =
    let r = accepted_is_run s lits ends h in
    let start = left (open_outcome (switches_of s) lits ends) in
    rw (r.calls, ← all_entered start (calls_of s) (begun (switches_of s)) r.accepted)
    (demand_3 (switches_of s) lits ends r.opening (calls_of s))
