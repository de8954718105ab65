-- A call is accepted exactly where what its checks say holds.
use mathlib.Core.Path.{◌≡◌, ◌∙◌, ap, refl}
use mathlib.Core.Bool.{Bool, ◌&&◌, cond, true}
use mathlib.Core.List.{List, ◌++◌}
use mathlib.Core.Logic.Iff
use mathlib.Core.Logic.{◌↔◌}
use Prim.Native.Nat.{◌+◌, ◌≤◌, suc, ℕ}
use lib.Dec.{leb}
use lib.ListN.{length}
use Rattle.sat.specs.Clause.{Clauses}
use Rattle.sat.specs.Size.{entries}
use Rattle.encoder_env.specs.declared.EncoderEnv.{EncoderEnv}
use Rattle.encoder_env.proofs.Bounds.{and_is, leb_is}
use Rattle.encoder_answer.specs.Accepted.{HasSpace}
use Rattle.encoder_answer.specs.Adding.{added, adding, adding_status, space_for}
use Rattle.encoder_answer.specs.Outcome.{Check, Numbered, Outcome, settled, status_of}
use Rattle.encoder_answer.proofs.Statuses.{both_lists, passed, settled_accepted, settled_known, then_rest}

-- a check, and those after it
pub check_is : (b : Bool) (rest n : ℕ) {P Q : Type 0} → (b ≡ true) ↔ P → (rest ≡ 0) ↔ Q → (cond b rest (suc n) ≡ 0) ↔ (P × Q)
check_is b rest n p q = (λ h. let k = passed b rest n h in (p.0 k.0, q.0 k.1), λ h. rw (p.1 h.0) (q.1 h.1))

-- the last check
pub last_is : (b : Bool) (n : ℕ) {P : Type 0} → (b ≡ true) ↔ P → (cond b 0 (suc n) ≡ 0) ↔ P
last_is b n p = (λ h. p.0 (passed b 0 n h).0, λ h. rw (p.1 h))

-- checks one list after another
pub lists_is : (cs ds : List Check) → Numbered cs → {P Q : Type 0} → (status_of cs ≡ 0) ↔ P → (status_of ds ≡ 0) ↔ Q → (status_of (cs ++ ds) ≡ 0) ↔ (P × Q)
lists_is cs ds n p q =
    (λ h. let k = both_lists cs ds n h in (p.0 k.0, q.0 k.1), λ h. then_rest cs ds n (p.1 h.0) ∙ q.1 h.1)

pub settled_is : (status : ℕ) (env : EncoderEnv) (lits ends : List ℕ) (ok : Outcome) → ok.status ≡ 0 → ((settled status env lits ends ok).status ≡ 0) ↔ (status ≡ 0)
settled_is status env lits ends ok z =
    (λ h. (settled_known status env lits ends ok h).0, λ h. ap (λ (o : Outcome). o.status) (settled_accepted status status refl env lits ends ok h) ∙ z)

-- A call that adds: its own checks, then those of space --------------------------------------------------------------

fits_is : (env : EncoderEnv) (lits ends vars : ℕ) (clauses : Clauses) → (status_of (space_for env lits ends vars clauses) ≡ 0) ↔ HasSpace env lits ends vars clauses
fits_is env lits ends vars clauses =
    (λ h. let c = checked.0 h in record { vars_fit = c.0; lits_fit = c.1.0; ends_fit = c.1.1 }, λ f. checked.1 (f.vars_fit, (f.lits_fit, f.ends_fit)))
  where
    checked : (status_of (space_for env lits ends vars clauses) ≡ 0)
        ↔ ((vars ≤ 65535) × ((env.literals + entries clauses ≤ lits) × (env.clauses + length clauses + 1 ≤ ends)))
    checked =
        check_is (leb vars 65535) _ 13 (leb_is vars 65535)
        (last_is (leb (env.literals + entries clauses) lits && leb (env.clauses + length clauses + 1) ends) 14
        (and_is (leb (env.literals + entries clauses) lits) (leb (env.clauses + length clauses + 1) ends)
        (leb_is (env.literals + entries clauses) lits) (leb_is (env.clauses + length clauses + 1) ends)))

pub adding_is : (checks : List Check) (env : EncoderEnv) (lits ends : List ℕ) (clauses : Clauses) (job : EncoderEnv) → Numbered checks
    → {P : Type 0} → (status_of checks ≡ 0) ↔ P
    → ((adding checks env lits ends clauses job).status ≡ 0) ↔ (P × HasSpace env (length lits) (length ends) job.variables clauses)
adding_is checks env lits ends clauses job n p =
    Iff.trans
    (settled_is (adding_status checks env (length lits) (length ends) job.variables clauses) env lits ends (added env lits ends clauses job) refl)
    (lists_is checks (space_for env (length lits) (length ends) job.variables clauses) n p (fits_is env (length lits) (length ends) job.variables clauses))
