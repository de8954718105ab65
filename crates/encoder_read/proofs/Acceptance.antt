-- A call is accepted exactly where its arguments are within bounds.
use mathlib.Core.Path.{◌≡◌, refl}
use mathlib.Core.Bool.{◌&&◌, true}
use mathlib.Core.List.{List}
use mathlib.Core.Logic.Iff
use mathlib.Core.Logic.{◌↔◌}
use Prim.Native.Nat.{◌+◌, ◌<◌, ◌≤◌, ℕ}
use lib.Dec.{eqb, leb, ltb}
use lib.ListN.{get_or, length}
use Rattle.clause_set.specs.Bytes.{all_hold}
use Rattle.encoder_env.specs.declared.EncoderEnv.{EncoderEnv}
use Rattle.encoder_env.specs.Bounds.{WellFormed}
use Rattle.encoder_env.specs.WellFormed.{stores_within, well_formed}
use Rattle.encoder_env.proofs.Bounds.{all_is, and_is, eqb_is, leb_is, ltb_is, well_formed_is}
use Rattle.encoder_clauses.specs.Readable.{Readable, clauses_written, readable}
use Rattle.encoder_clauses.proofs.Reading.{readable_is}
use Rattle.encoder_answer.specs.Outcome.{status_of}
use Rattle.encoder_answer.proofs.Acceptance.{check_is, last_is, settled_is}
use Rattle.encoder_read.specs.Accepted.{ClauseAccepted, OpenAccepted, ReadAccepted}
use Rattle.encoder_read.specs.Calls.{all_bits, clause_checks, clause_outcome, clause_read, open_checks, open_outcome, opened, read_checks, read_outcome, value_read}

module _ (switches : ℕ) (lits ends : List ℕ) where
  stores_are : (stores_within (length lits) (length ends) ≡ true) ↔ ((length lits ≤ 16777216) × (length ends ≤ 16777216))
  unfolding stores_within
  stores_are = and_is (leb (length lits) 16777216) (leb (length ends) 16777216) (leb_is (length lits) 16777216) (leb_is (length ends) 16777216)

  open_checked : (status_of (open_checks switches (length lits) (length ends)) ≡ 0)
      ↔ ((switches ≤ 64) × (((length lits ≤ 16777216) × (length ends ≤ 16777216)) × (1 ≤ length ends)))
  open_checked =
      check_is (leb switches 64) _ 1 (leb_is switches 64)
      (check_is (stores_within (length lits) (length ends)) _ 0 stores_are (last_is (leb 1 (length ends)) 14 (leb_is 1 (length ends))))

  pub open_accepted : ((open_outcome switches lits ends).status ≡ 0) ↔ OpenAccepted switches (length lits) (length ends)
  open_accepted =
      Iff.trans (settled_is (status_of (open_checks switches (length lits) (length ends))) (opened 0) lits ends _ refl) (
        λ h. let c = open_checked.0 h in record { switches_max = c.0; lits_max = c.1.0.0; ends_max = c.1.0.1; leading = c.1.1 },
        λ a. open_checked.1 (a.switches_max, ((a.lits_max, a.ends_max), a.leading)),
      )

module _ (env : EncoderEnv) (lits ends : List ℕ) (x : ℕ) (assignment : List ℕ) where
  read_checked : (status_of (read_checks env lits ends x assignment) ≡ 0)
      ↔ ((WellFormed env (length lits) (length ends) × Readable env lits ends) × ((x < env.count)
      × (((length assignment ≡ env.variables) × ((i : ℕ) → i < length assignment → get_or assignment i 0 ≤ 1)) × (all_hold assignment (clauses_written env lits ends) ≡ true))))
  read_checked =
      check_is (readable env lits ends) _ 0 (readable_is env lits ends)
      (check_is (ltb x env.count) _ 7 (ltb_is x env.count)
      (check_is (eqb (length assignment) env.variables && all_bits assignment) _ 15
      (and_is (eqb (length assignment) env.variables) (all_bits assignment) (eqb_is (length assignment) env.variables)
      (all_is (λ i. leb (get_or assignment i 0) 1) (length assignment) (λ i. leb_is (get_or assignment i 0) 1)))
      (last_is (all_hold assignment (clauses_written env lits ends)) 20 (λ h. h, λ h. h))))

  pub read_accepted : ((read_outcome env lits ends x assignment).status ≡ 0) ↔ ReadAccepted env lits ends x assignment
  read_accepted =
      Iff.trans (settled_is (status_of (read_checks env lits ends x assignment)) env lits ends (value_read env lits ends x assignment) refl) (
        λ h.
            let c = read_checked.0 h in
            record { job = c.0.0; clauses = c.0.1; setting = c.1.0; long = c.1.1.0.0; bits = c.1.1.0.1; satisfied = c.1.1.1 },
        λ a. read_checked.1 ((a.job, a.clauses), (a.setting, ((a.long, a.bits), a.satisfied))),
      )

module _ (env : EncoderEnv) (lits ends : List ℕ) (k : ℕ) where
  clause_checked : (status_of (clause_checks env (length lits) ends k) ≡ 0)
      ↔ (WellFormed env (length lits) (length ends)
      × ((k < env.clauses) × ((get_or ends k 0 ≤ get_or ends (k + 1) 0) × (get_or ends (k + 1) 0 ≤ env.literals))))
  clause_checked =
      check_is (well_formed env (length lits) (length ends)) _ 0 (well_formed_is env (length lits) (length ends))
      (check_is (ltb k env.clauses) _ 16 (ltb_is k env.clauses)
      (last_is (leb (get_or ends k 0) (get_or ends (k + 1) 0) && leb (get_or ends (k + 1) 0) env.literals) 0
      (and_is (leb (get_or ends k 0) (get_or ends (k + 1) 0)) (leb (get_or ends (k + 1) 0) env.literals)
      (leb_is (get_or ends k 0) (get_or ends (k + 1) 0)) (leb_is (get_or ends (k + 1) 0) env.literals))))

  pub clause_accepted : ((clause_outcome env lits ends k).status ≡ 0) ↔ ClauseAccepted env (length lits) ends k
  clause_accepted =
      Iff.trans (settled_is (status_of (clause_checks env (length lits) ends k)) env lits ends (clause_read env lits ends k) refl) (
        λ h. let c = clause_checked.0 h in record { job = c.0; number = c.1.0; rising = c.1.1.0; within = c.1.1.1 },
        λ a. clause_checked.1 (a.job, (a.number, (a.rising, a.within))),
      )
