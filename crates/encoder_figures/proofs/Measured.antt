-- A rule measured has the figures of its definition.
use Prim.Native.Nat.{◌-◌, ◌≤◌, suc, zero, ℕ}
use mathlib.Core.Bool.{not}
use mathlib.Core.List.{List, [], ◌++◌, ◌∷◌}
use mathlib.Core.Path.{◌∙◌, ◌≡◌, ap, refl, sym}
use native.Mathlib.Omega.{arith}
use Rattle.std.specs.Prelude.{Err, IfSome, None, Ok, Option, Result, Some}
use Rattle.sat.specs.Encoded.{EncodedRule}
use Rattle.sat.specs.Size.{HasSize, Size}
use Rattle.log_encoding.specs.AdderSize.{Reached, too_tall}
use Rattle.log_linear.specs.declared.RuleCounts.{RuleCounts}
use Rattle.refusal.specs.Number.{number, status}
use Rattle.refusal.specs.declared.Refusal.{Refusal}
use Rattle.encoder_answer.specs.Outcome.{Check, Numbered, check, status_of}
use Rattle.encoder_answer.proofs.Statuses.{number_some, stops, then_rest}
use Rattle.eq_size.specs.Sized.{Sized}
use Rattle.terms_size.specs.Measured.{Measured}
use Rattle.encoder_figures.specs.Figures.{adds, figured, figures_of, size_figures}
use Rattle.encoder_figures.specs.declared.Figures.{Figures}

-- the figures fit the code's numbers
pub measured_few : (rs : List Reached) (size : Size) (r : Option RuleCounts) → Measured 2 rs size r
    → IfSome r (λ s. (s.used.clauses ≤ 100000000) × (s.used.lits ≤ 1073741824))
measured_few rs size None m = tt
measured_few rs size (Some s) m = (omega (arith, m.1.few_clauses), omega (arith, m.1.few_lits))

-- the checks on the arguments, then that of the heights
module _ (first : List Check) (numbered : Numbered first) (rs : List Reached) (size : Size) (v : ℕ) (out : EncodedRule) where
  abbrev last : List Check
  last = check (not (too_tall rs)) 13 ∷ []

  figures_as : (r : ℕ) → r ≡ status_of first → (r ≡ 0 → ⊥)
      → record { status = r; variables = 0; clauses = 0; literals = 0 } ≡ figures_of (status_of (first ++ last)) (adds v out)
  figures_as zero e d = absurd (d refl)
  figures_as (suc n) e d = ap (λ (k : ℕ). figures_of k (adds v out)) (e ∙ sym (stops first last (λ z. d (e ∙ z))))

  sized_as : (r : RuleCounts) → HasSize v out.vars out.clauses size → Sized size r
      → figures_of 0 record { vars = r.vars; clauses = r.used.clauses; literals = r.used.lits } ≡ figures_of 0 (adds v out)
  sized_as r h s =
      let a : r.vars ≡ out.vars - v = omega (arith, h.vars_are, s.vars_are) in
      let b = s.clauses_are ∙ sym h.clauses_are in
      let c = s.lits_are ∙ sym h.literals_are in
      λ i. figures_of 0 record { vars = a i; clauses = b i; literals = c i }

  measured_last : (r : Option RuleCounts) → HasSize v out.vars out.clauses size → Measured 2 rs size r → figured (size_figures r) ≡ figures_of (status_of last) (adds v out)
  measured_last None h m = rw m
  measured_last (Some r) h m = rw m.0 (sized_as r h m.1.sized)

  module _ (c : Result (Unit {0}) Refusal) (checked : status c ≡ status_of first) where
    pub refused_as : {e : Refusal} {r : Result Figures Refusal} → c ≡ Err e → r ≡ Err e → figured r ≡ figures_of (status_of (first ++ last)) (adds v out)
    refused_as {e} h k = rw k (figures_as (number e) (sym (ap status h) ∙ checked) (λ z. let n = number_some e in absurd (omega (arith, n, z))))

    -- the arguments are right
    all_passed : c ≡ Ok (tt {0}) → status_of first ≡ 0
    all_passed h = sym checked ∙ ap status h

    pub measured_figures : (r : Option RuleCounts) {f : Result Figures Refusal} → c ≡ Ok (tt {0}) → HasSize v out.vars out.clauses size → Measured 2 rs size r → f ≡ size_figures r
        → figured f ≡ figures_of (status_of (first ++ last)) (adds v out)
    measured_figures r z h m e =
        ap figured e ∙ measured_last r h m ∙ ap (λ (k : ℕ). figures_of k (adds v out)) (sym (then_rest first last numbered (all_passed z)))
