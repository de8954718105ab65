-- A refused field changes no store entry.
use Prim.Native.Nat.{ℕ}
use mathlib.Core.Path.{◌≡◌, ap, refl}
use mathlib.Core.Bool.{Bool, ◌&&◌, cond, false, true}
use mathlib.Core.List.{List, []}
use lib.Dec.{eqb}
use lib.IntN.{pos}
use lib.ListN.{length, set}
use Rattle.encoder_read.specs.Calls.{open_checks, open_outcome, opened}
use Rattle.encoder_answer.specs.Outcome.{Outcome, refused, status_of}
use Rattle.encoder.specs.Run.{State, outcome}
use Rattle.encoder.proofs.Faithful.{call_refused}
use Rattle.job_fields.specs.Fields.{field, right_length, right_place}
use Rattle.job_file.specs.Calls.{call_of, switches_in}
use Rattle.job_file.specs.Run.{called, field_outcome, not_read}

abbrev pub Unchanged : Outcome → State → Type 0
Unchanged o s = (o.lits ≡ s.lits) × (o.ends ≡ s.ends)

open_unchanged : (n : ℕ) (s : State) → ((open_outcome n s.lits s.ends).status ≡ 0 → ⊥) → Unchanged (open_outcome n s.lits s.ends) s
open_unchanged n s h = go (eqb status 0) h
  where
    status : ℕ
    status = status_of (open_checks n (length s.lits) (length s.ends))

    ok : Outcome
    ok = record { status = 0; env = opened n; value = pos 0; part = []; lits = s.lits; ends = set s.ends 0 0 }

    go : (x : Bool) → ((cond x ok (refused status (opened 0) s.lits s.ends)).status ≡ 0 → ⊥)
        → Unchanged (cond x ok (refused status (opened 0) s.lits s.ends)) s
    go true k = absurd (k refl)
    go false k = (refl, refl)

called_unchanged : (s : State) (t : ℕ) (c : List ℕ) → ((called s t c).status ≡ 0 → ⊥) → Unchanged (called s t c) s
unfolding called
called_unchanged s t c h = go (eqb t 1) h
  where
    o : Bool → Outcome
    o x = cond x (open_outcome (switches_in c) s.lits s.ends) (outcome s (call_of t c))

    go : (x : Bool) → ((o x).status ≡ 0 → ⊥) → Unchanged (o x) s
    go true k = open_unchanged (switches_in c) s k
    go false k = let e = call_refused s (call_of t c) k in (ap (λ (r : State). r.lits) e, ap (λ (r : State). r.ends) e)

pub field_unchanged : (index : ℕ) (s : State) (t : ℕ) (c : List ℕ) → ((field_outcome index s (field t c)).status ≡ 0 → ⊥)
    → Unchanged (field_outcome index s (field t c)) s
unfolding field_outcome
field_unchanged index s t c h = go (right_place index t && right_length t (length c)) h
  where
    o : Bool → Outcome
    o x = cond x (called s t c) (not_read s)

    go : (x : Bool) → ((o x).status ≡ 0 → ⊥) → Unchanged (o x) s
    go true k = called_unchanged s t c k
    go false k = (refl, refl)
