-- What every call keeps (`Invariant`), and that an accepted opening begins with it (`opened_invariant`).
use Prim.Native.Nat.{◌+◌, ◌<◌, ◌≤◌, ℕ}
use lib.Dec.{leb}
use lib.IntN.{ℤ}
use lib.ListN.{get_or, length, length-set, set}
use lib.Seq.{get_or-set_same}
use mathlib.Core.Bool.{So, true}
use mathlib.Core.List.{List, [], ◌++◌}
use mathlib.Core.Path.{◌∙◌, ◌≡◌, ap, refl, subst, sym}
use native.Mathlib.Omega.{arith}
use borrow.Author.Tests.{leb-true}
use Rattle.sat.specs.Clause.{Assignment, Clauses, sat}
use Rattle.sat.specs.Encodes.{Agree, ClausesBelow}
use Rattle.sat.specs.Size.{entries}
use Rattle.clause_set.specs.Stores.{Sound, add_clauses, clauses_of, stores}
use Rattle.sat.proofs.Size.{entries_append}
use Rattle.clause_set.proofs.Adding.{count_after, used_after}
use Rattle.clause_set.proofs.ReadBack.{read_back}
use Rattle.norm_csp.specs.NormCsp.{NormCsp, Satisfied, begun}
use Rattle.norm_csp.proofs.NormCsp.{Known}
use Rattle.encoder_env.specs.WellFormed.{all_below, eqz, is_spare, record_holds, stores_within, well_formed}
use Rattle.encoder_env.proofs.Kept.{kept, well_formed_of}
use Rattle.encoder_env.proofs.Tests.{both}
use Rattle.encoder_env.specs.declared.EncoderEnv.{EncoderEnv}
use Rattle.encoder_answer.proofs.Adding.{Accepted, number_same}
use Rattle.encoder_answer.specs.Encoded.{number}
use Rattle.encoder_read.specs.Calls.{open_checks, open_outcome, opened}
use Rattle.encoder_answer.specs.Outcome.{Check, Outcome, status_of}
use Rattle.encoder_answer.proofs.Statuses.{passed, settled_known}
use Rattle.encoder.specs.Faithful.{stores_of, written}
use Rattle.encoder.specs.Run.{State, left}

-- The stores hold the clauses cs; these are satisfied where the switches and the numbers read meet the book, and every choice that meets
-- it comes about in one way.
pub record Invariant (s : State) (b : NormCsp) (cs : Clauses) : Type 0 where
  pub held : written s ≡ cs
  pub counted : entries cs ≡ s.env.literals
  pub ends_sound : Sound (stores_of s)
  pub well : well_formed s.env (length s.lits) (length s.ends) ≡ true
  pub long : length s.env.encodings ≡ 32
  pub below : ClausesBelow s.env.variables cs
  pub switches : s.env.switches ≡ b.switches
  pub count : s.env.count ≡ length b.vars
  pub known : Known b
  pub sound : (α : Assignment) → So (sat α cs) → Satisfied b α (number s.env α)
  pub complete : (α : Assignment) (f : ℕ → ℤ) → Satisfied b α f
      → (β : Assignment) × Agree b.switches α β × So (sat β cs) × ((x : ℕ) → x < length b.vars → number s.env β x ≡ f x)
  pub unique : (α β : Assignment) → So (sat α cs) → So (sat β cs) → Agree b.switches α β
      → ((x : ℕ) → x < length b.vars → number s.env α x ≡ number s.env β x) → Agree s.env.variables α β

-- assignments that agree on the job's variables read as the same numbers
pub number_agree : (s : State) (b : NormCsp) (cs : Clauses) → Invariant s b cs → (α β : Assignment) → Agree s.env.variables α β
    → (x : ℕ) → x < length b.vars → number s.env α x ≡ number s.env β x
number_agree s b cs inv α β h x lt =
    let k = kept s.env (length s.lits) (length s.ends) inv.well in
    number_same s.env (length s.lits) (length s.ends) k α β h x (omega (arith, inv.count))

-- The stores of a call that adds --------------------------------------------------------------------------------------

-- the job and the stores after clauses ds are added
abbrev pub after_adding : State → Clauses → EncoderEnv → State
after_adding s ds job = let filled = add_clauses 0 ds (stores_of s) in record { env = job; lits = filled.lits; ends = filled.ends }

pub more_written : (s : State) (b : NormCsp) (cs : Clauses) → Invariant s b cs → (checks : List Check) (ds : Clauses) (job : EncoderEnv)
    → Accepted checks s.env s.lits s.ends ds job → job.literals ≡ s.env.literals + entries ds → job.clauses ≡ s.env.clauses + length ds
    → (written (after_adding s ds job) ≡ cs ++ ds) × Sound (stores_of (after_adding s ds job)) × (entries (cs ++ ds) ≡ job.literals)
more_written s b cs inv checks ds job a l c =
    let filled = add_clauses 0 ds (stores_of s) in
    let same : filled ≡ stores_of (after_adding s ds job) =
    λ i. stores filled.lits filled.ends ((used_after 0 ds (stores_of s) ∙ sym l) i) ((count_after 0 ds (stores_of s) ∙ sym c) i) in
    let back = read_back ds (stores_of s) inv.ends_sound a.lits_fit (omega (arith, a.ends_fit)) in
    (ap clauses_of (sym same) ∙ back.0 ∙ ap (λ (d : Clauses). d ++ ds) inv.held, subst Sound same back.1, omega (arith, entries_append cs ds, inv.counted, l))

-- The opening --------------------------------------------------------------------------------------------------------

module _ (n : ℕ) (lits ends : List ℕ) where
  -- what an accepted opening leaves
  abbrev start : State
  start = record { env = opened n; lits = lits; ends = set ends 0 0 }

  records_spare : all_below 32 (record_holds (opened n)) ≡ true
  unfolding all_below record_holds is_spare eqz
  records_spare = refl

  start_invariant : n ≤ 64 → length lits ≤ 16777216 → length ends ≤ 16777216 → 1 ≤ length ends → Invariant start (begun n) []
  start_invariant s l e f =
      let first : get_or (set ends 0 0) 0 0 ≡ 0 = get_or-set_same ends 0 0 0 (omega arith) in
      let many : length (set ends 0 0) ≡ length ends = length-set ends 0 0 in
      record {
        held = refl;
        counted = refl;
        ends_sound =
            record {
              last_end = first;
              rising = λ k h. absurd (omega arith);
              ends_in = λ k h. let z : k ≡ 0 = omega arith in rw z (omega (arith, first));
              lits_in = omega arith;
              ends_long = omega arith;
            };
        well =
            well_formed_of (opened n) (length lits) (length (set ends 0 0))
            (record {
              lits_max = l;
              ends_max = omega arith;
              switches_max = s;
              variables_max = omega arith;
              switches_in = omega arith;
              count_max = omega arith;
              literals_in = omega arith;
              clauses_in = omega arith;
              records = records_spare;
            });
        long = refl;
        below = tt;
        switches = refl;
        count = refl;
        known = record { vars = λ x h. absurd (omega arith); constraints = tt };
        sound = λ α h. record { values = λ x k. absurd (omega arith); rules = tt };
        complete = λ α g h. (α, λ x k. refl, refl, λ x k. absurd (omega arith));
        unique = λ α β h k a e. a;
      }

  pub opened_invariant : (open_outcome n lits ends).status ≡ 0 → Invariant (left (open_outcome n lits ends)) (begun n) []
  unfolding stores_within
  opened_invariant h =
      let o = settled_known (status_of (open_checks n (length lits) (length ends))) (opened 0) lits ends _ h in
      let s = passed (leb n 64) _ 1 o.0 in
      let b = passed (stores_within (length lits) (length ends)) _ 0 s.1 in
      let f = passed (leb 1 (length ends)) 0 14 b.1 in
      let w = both (leb (length lits) 16777216) (leb (length ends) 16777216) b.0 in
      subst (λ (x : Outcome). Invariant (left x) (begun n) []) (sym o.1)
      (start_invariant (leb-true n 64 s.0) (leb-true (length lits) 16777216 w.0) (leb-true (length ends) 16777216 w.1) (leb-true 1 (length ends) f.0))
