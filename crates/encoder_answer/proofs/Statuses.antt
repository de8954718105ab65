-- What a status says of the checks, and what a call answers by it.
use mathlib.Core.Path.{◌≡◌, ◌∙◌, ap, refl, sym}
use mathlib.Core.Bool.{Bool, cond, false, true}
use mathlib.Core.List.{List, [], ◌++◌, ◌∷◌}
use Prim.Native.Nat.{◌<◌, suc, ℕ}
use Rattle.std.specs.Prelude.{Result, Err}
use lib.Dec.{eqb, lit<}
use lib.IntN.{ℤ}
use native.Mathlib.Omega.{arith}
use borrow.Author.Tests.{eqb-false, eqb-true, ne_eqb}
use Rattle.encoder_env.specs.declared.EncoderEnv.{EncoderEnv}
use Rattle.refusal.specs.Number.{number}
use Rattle.refusal.specs.declared.Refusal.{Refusal}
use Rattle.refusal.specs.declared.Refusal.TheVariants.{IllFormed, TooManySwitches, OutOfBounds, BadList, NotRising, UnknownSwitch, TableFull, UnknownSetting, BadTerms, BadCoefficient, BadConstant, UnknownOperation, ColumnTooTall, TooManyVariables, NoSpace, NoAssignment, UnknownClause, BadField, NotWhole, NotGivenOnce, Unsatisfied}
use Rattle.encoder_answer.specs.Outcome.{Answer, Answers, Check, Numbered, Outcome, adds, reads, refused, settled, status_of}

-- no refusal: this check holds, and those after it
pub passed : (b : Bool) (rest n : ℕ) → cond b rest (suc n) ≡ 0 → (b ≡ true) × (rest ≡ 0)
passed true rest n h = (refl, h)
passed false rest n h = absurd (omega arith)

-- the number of a refusal is not 0
pub number_some : (e : Refusal) → 0 < number e
number_some IllFormed = lit< tt
number_some TooManySwitches = lit< tt
number_some OutOfBounds = lit< tt
number_some BadList = lit< tt
number_some NotRising = lit< tt
number_some UnknownSwitch = lit< tt
number_some TableFull = lit< tt
number_some UnknownSetting = lit< tt
number_some BadTerms = lit< tt
number_some BadCoefficient = lit< tt
number_some BadConstant = lit< tt
number_some UnknownOperation = lit< tt
number_some ColumnTooTall = lit< tt
number_some TooManyVariables = lit< tt
number_some NoSpace = lit< tt
number_some NoAssignment = lit< tt
number_some UnknownClause = lit< tt
number_some BadField = lit< tt
number_some NotWhole = lit< tt
number_some NotGivenOnce = lit< tt
number_some Unsatisfied = lit< tt

module _ (r status : ℕ) (s : r ≡ status) (env : EncoderEnv) (lits ends : List ℕ) (ok : Outcome) where
  pub settled_refused : (r ≡ 0 → ⊥) → settled status env lits ends ok ≡ refused r env lits ends
  settled_refused h = rw (← s, ne_eqb r 0 h)

  pub settled_accepted : r ≡ 0 → settled status env lits ends ok ≡ ok
  settled_accepted h = rw (← s, h)

module _ (n : ℕ) (env : EncoderEnv) (lits ends : List ℕ) (ok : Outcome) where
  settled_by : (e : Refusal) → number e ≡ n → settled n env lits ends ok ≡ refused (number e) env lits ends
  settled_by e h = let some = number_some e in settled_refused (number e) n h env lits ends ok (λ z. omega arith)

  -- a call that leaves a job, and a reading: refused
  pub refuses : (e : Refusal) → number e ≡ n → {r : Result EncoderEnv Refusal} → r ≡ Err e → Answers (settled n env lits ends ok) (adds env r) lits ends
  refuses e h is = rw (is, settled_by e h) (record { status = refl; env = refl; value = refl; lits = refl; ends = refl })

  pub reading_refused : (e : Refusal) → number e ≡ n → {r : Result ℤ Refusal} → r ≡ Err e → Answers (settled n env lits ends ok) (reads env r) lits ends
  reading_refused e h is = rw (is, settled_by e h) (record { status = refl; env = refl; value = refl; lits = refl; ends = refl })

  -- accepted
  pub accepts : (a : Answer) (l e : List ℕ) → 0 ≡ n → Answers ok a l e → Answers (settled n env lits ends ok) a l e
  accepts a l e h k = rw (settled_accepted n n refl env lits ends ok (sym h)) k

-- Checks one list after another --------------------------------------------------------------------------------------

pub numbered_both : (cs ds : List Check) → Numbered cs → Numbered ds → Numbered (cs ++ ds)
numbered_both [] ds n m = m
numbered_both (c ∷ cs) ds n m = (n.0, numbered_both cs ds n.1 m)

-- checks that all hold leave those after them
pub then_rest : (cs ds : List Check) → Numbered cs → status_of cs ≡ 0 → status_of (cs ++ ds) ≡ status_of ds
then_rest [] ds n h = refl
then_rest (c ∷ cs) ds n h = go c.holds (status_of cs) (status_of (cs ++ ds)) c.number h (λ k. then_rest cs ds n.1 k) n.0 where
  go : (t : Bool) (a b m : ℕ) → cond t a m ≡ 0 → (a ≡ 0 → b ≡ status_of ds) → 0 < m → cond t b m ≡ status_of ds
  go true a b m e k p = k e
  go false a b m e k p = absurd (omega arith)

-- one that fails is the answer of all
pub stops : (cs ds : List Check) → (status_of cs ≡ 0 → ⊥) → status_of (cs ++ ds) ≡ status_of cs
stops [] ds h = absurd (h refl)
stops (c ∷ cs) ds h = go c.holds (status_of cs) (status_of (cs ++ ds)) c.number h (λ k. stops cs ds k) where
  go : (t : Bool) (a b m : ℕ) → (cond t a m ≡ 0 → ⊥) → ((a ≡ 0 → ⊥) → b ≡ a) → cond t b m ≡ cond t a m
  go true a b m e k = k e
  go false a b m e k = refl

-- all hold: those of both lists do
pub both_lists : (cs ds : List Check) → Numbered cs → status_of (cs ++ ds) ≡ 0 → (status_of cs ≡ 0) × (status_of ds ≡ 0)
both_lists cs ds n h = go (eqb (status_of cs) 0) refl
  where
    go : (t : Bool) → eqb (status_of cs) 0 ≡ t → (status_of cs ≡ 0) × (status_of ds ≡ 0)
    go true e = let z = eqb-true (status_of cs) 0 e in (z, sym (then_rest cs ds n z) ∙ h)
    go false e = let z = eqb-false (status_of cs) 0 e in absurd (z (sym (stops cs ds z) ∙ h))

-- an outcome with the number 0 is that of all checks holding
pub settled_known : (status : ℕ) (env : EncoderEnv) (lits ends : List ℕ) (ok : Outcome) → (settled status env lits ends ok).status ≡ 0
    → (status ≡ 0) × (settled status env lits ends ok ≡ ok)
settled_known status env lits ends ok h = go (eqb status 0) refl
  where
    go : (t : Bool) → eqb status 0 ≡ t → (status ≡ 0) × (settled status env lits ends ok ≡ ok)
    go true e = (eqb-true status 0 e, rw e)
    go false e = absurd (eqb-false status 0 e (sym (ap (λ (o : Outcome). o.status) (settled_refused status status refl env lits ends ok (eqb-false status 0 e))) ∙ h))
