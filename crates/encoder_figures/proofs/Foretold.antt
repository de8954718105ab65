-- The figures are what the call adds, or would add with enough space (`linear_foretold`, `mul_foretold`).
use Prim.Native.Nat.{◌<◌, ◌≤◌, suc, zero, ℕ}
use lib.Dec.{lit<}
use lib.ListN.{drop, length}
use mathlib.Core.Bool.{Bool, cond, false, false≢true, true}
use mathlib.Core.List.{List, ◌++◌, ◌∷◌}
use mathlib.Core.Logic.{◌⊎◌, ⊎_elim}
use mathlib.Core.Path.{◌∙◌, ◌≡◌, ap, refl, sym}
use native.Mathlib.Omega.{arith}
use Rattle.arithmetic.proofs.Tests.{same_or}
use Rattle.sat.specs.Encoded.{EncodedRule}
use Rattle.sat.specs.Size.{HasSize, Size}
use Rattle.norm_csp.specs.Rules.{cmp_op_of, terms_of}
use Rattle.norm_csp.specs.Turned.{turned}
use Rattle.log_encoding.proofs.LinearSize.{encode_linear_log_size}
use Rattle.log_encoding.proofs.MulSize.{encode_mul_log_size}
use Rattle.encoder_env.specs.WellFormed.{int_map, well_formed}
use Rattle.encoder_env.specs.declared.EncoderEnv.{EncoderEnv}
use Rattle.encoder_answer.specs.Adding.{adding, adding_status, grown, space_for}
use Rattle.encoder_answer.specs.Outcome.{Check, Outcome, check, status_of}
use Rattle.encoder_answer.proofs.Adding.{known}
use Rattle.encoder_answer.proofs.Statuses.{settled_accepted, settled_refused, stops, then_rest}
use Rattle.encoder_linear.specs.Sums.{linear_checks}
use Rattle.encoder_mul.specs.Products.{mul_checks}
use Rattle.encoder_figures.specs.Figures.{Figures, adds, figures_of, linear_figures, most_entries, mul_figures, rule_figures}
use Rattle.encoder_figures.specs.Foretells.{Foretells, HasAdded, LinearForetold, MulForetold, OtherThanSpace, size_of}
use Rattle.encoder_figures.proofs.Numbers.{Between, between_numbered, greatest, number_between, number_of_space}

-- the number of the outcome is that of all checks
settled_number : (n : ℕ) (env : EncoderEnv) (lits ends : List ℕ) (clauses : List (List ℕ)) (checks : List Check) (job : EncoderEnv)
    → n ≡ adding_status checks env (length lits) (length ends) job.variables clauses → (adding checks env lits ends clauses job).status ≡ n
settled_number zero env lits ends clauses checks job e = ap (λ (o : Outcome). o.status) (settled_accepted 0 _ e env lits ends _ refl)
settled_number (suc n) env lits ends clauses checks job e =
    ap (λ (o : Outcome). o.status) (settled_refused (suc n) _ e env lits ends _ (λ z. absurd (omega arith)))

-- figures by their number
figures_number : (n : ℕ) (size : Size) → (figures_of n size).status ≡ n
figures_number zero size = refl
figures_number (suc n) size = refl

figures_refused : (n : ℕ) (size : Size) → 1 < n → figures_of n size ≡ record { status = n; variables = 0; clauses = 0; literals = 0 }
figures_refused zero size h = absurd (omega arith)
figures_refused (suc n) size h = refl

-- A rule whose first check is that of the job, and the others go neither by stores nor by space -----------------------

module _ (env : EncoderEnv) (lits ends : List ℕ) (rest : List Check) (between : Between rest) (out : EncodedRule) (grows : env.variables ≤ out.vars) where
  abbrev checks : ℕ → ℕ → List Check
  checks l e = check (well_formed env l e) 1 ∷ rest

  abbrev formed : Bool
  formed = well_formed env (length lits) (length ends)

  abbrev job : EncoderEnv
  job = grown env out.vars out.clauses

  abbrev outcome : Outcome
  outcome = adding (checks (length lits) (length ends)) env lits ends out.clauses job

  abbrev figures : Figures
  figures = rule_figures env checks out

  abbrev space : List Check
  space = space_for env (length lits) (length ends) out.vars out.clauses

  -- the call's number, and that of the figures
  number_is : outcome.status ≡ cond formed (status_of (rest ++ space)) 1
  number_is = settled_number _ env lits ends out.clauses (checks (length lits) (length ends)) job refl

  figures_are : (t : Bool) → well_formed env most_entries most_entries ≡ t → figures ≡ figures_of (cond t (status_of rest) 1) (adds env.variables out)
  figures_are t e = rw e

  abbrev size : Size
  size = adds env.variables out

  -- what the clauses take
  takes : HasSize env.variables out.vars out.clauses size
  takes = record { vars_are = omega arith; clauses_are = refl; literals_are = refl }

  -- the job is not well formed; or all checks but those of space hold; or one of them does not
  data Case : Type 0 where
    ill_formed : outcome.status ≡ 1 → Case
    passed : figures ≡ figures_of 0 size → (outcome.status ≡ 0) ⊎ ((13 < outcome.status) × (outcome.status < 16)) → Case
    stopped : (1 < outcome.status) × (outcome.status < 14) → figures ≡ figures_of outcome.status size → Case

  case : Case
  case = go formed refl
    where
      go : (t : Bool) → formed ≡ t → Case
      go false e = ill_formed (number_is ∙ rw e)
      go true e =
          let f = figures_are true (greatest env (length lits) (length ends) e) in
          let n : outcome.status ≡ status_of (rest ++ space) = number_is ∙ rw e in
          ⊎_elim
          (λ (z : status_of rest ≡ 0).
          let m : outcome.status ≡ status_of space = n ∙ then_rest rest space (between_numbered rest between) z in
          passed (f ∙ ap (λ (k : ℕ). figures_of k size) z) (rw m (number_of_space out.vars job.literals job.clauses (length lits) (length ends))))
          (λ (z : (1 < status_of rest) × (status_of rest < 14)).
          let m : outcome.status ≡ status_of rest = n ∙ stops rest space (λ k. absurd (omega (arith, z.0))) in
          stopped (rw m z) (f ∙ ap (λ (k : ℕ). figures_of k size) (sym m)))
          (number_between rest between)

  -- the job after the call
  added : outcome.status ≡ 0 → figures ≡ figures_of 0 size → HasAdded env outcome.env figures
  added h f =
      let a = known (checks (length lits) (length ends)) env lits ends out.clauses job (lit< tt, between_numbered rest between) h in
      rw (a.outcome_is, f) (record { variables_are = omega arith; clauses_are = refl; literals_are = refl })

  pub foretold : Foretells env out outcome figures
  foretold =
      record {
        accepted = accepted case;
        short = short case;
        refused = refused case;
        unformed = unformed;
        only_unformed = only_unformed (well_formed env most_entries most_entries) refl;
        no_space = no_space (well_formed env most_entries most_entries) refl;
      }
    where
      accepted : Case → outcome.status ≡ 0 → (figures.status ≡ 0) × HasAdded env outcome.env figures
      accepted (ill_formed e) h = absurd (omega arith)
      accepted (passed f s) h = (ap (λ (x : Figures). x.status) f, added h f)
      accepted (stopped s f) h = absurd (omega arith)

      short : Case → (outcome.status ≡ 14) ⊎ (outcome.status ≡ 15)
          → (figures.status ≡ 0) × HasSize env.variables out.vars out.clauses (size_of figures)
      short (ill_formed e) h = ⊎_elim (λ k. absurd (omega arith)) (λ k. absurd (omega arith)) h
      short (passed f s) h = (ap (λ (x : Figures). x.status) f, rw f takes)
      short (stopped s f) h = ⊎_elim (λ k. absurd (omega arith)) (λ k. absurd (omega arith)) h

      refused : Case → OtherThanSpace outcome.status → figures ≡ record { status = outcome.status; variables = 0; clauses = 0; literals = 0 }
      refused (ill_formed e) h = absurd (h.not_the_job e)
      refused (passed f s) h = ⊎_elim (λ k. absurd (h.is_refusal k)) (λ k. absurd (neither outcome.status k h.not_variables h.not_entries)) s
        where
          neither : (n : ℕ) → (13 < n) × (n < 16) → (n ≡ 14 → ⊥) → (n ≡ 15 → ⊥) → ⊥
          neither n b p q = ⊎_elim (λ k. p k) (λ k. q (omega (arith, k))) (same_or n 14)
      refused (stopped s f) h = f ∙ figures_refused outcome.status size s.0

      unformed : well_formed env most_entries most_entries ≡ false → (figures.status ≡ 1) × (outcome.status ≡ 1)
      unformed e = (ap (λ (x : Figures). x.status) (figures_are false e), go formed refl)
        where
          go : (t : Bool) → formed ≡ t → outcome.status ≡ 1
          go true f = absurd (false≢true (sym e ∙ greatest env (length lits) (length ends) f))
          go false f = number_is ∙ rw f

      figures_say : well_formed env most_entries most_entries ≡ true → figures.status ≡ status_of rest
      figures_say e = ap (λ (x : Figures). x.status) (figures_are true e) ∙ figures_number (status_of rest) size

      only_unformed : (t : Bool) → well_formed env most_entries most_entries ≡ t → figures.status ≡ 1 → well_formed env most_entries most_entries ≡ false
      only_unformed false e h = e
      only_unformed true e h = let n = figures_say e in ⊎_elim (λ k. absurd (omega arith)) (λ k. absurd (omega (arith, k.0))) (number_between rest between)

      no_space : (t : Bool) → well_formed env most_entries most_entries ≡ t → (figures.status ≡ 14 → ⊥) × (figures.status ≡ 15 → ⊥)
      no_space false e = let n = (unformed e).0 in (λ h. omega arith, λ h. omega arith)
      no_space true e =
          let n = figures_say e in
          ⊎_elim
          (λ (k : status_of rest ≡ 0). ((λ h. omega arith), (λ h. omega arith)))
          (λ (k : (1 < status_of rest) × (status_of rest < 14)). ((λ h. omega (arith, k.1)), (λ h. omega (arith, k.1))))
          (number_between rest between)

-- Sums and products ---------------------------------------------------------------------------------------------------

pub linear_foretold : LinearForetold
unfolding linear_figures
linear_foretold env lits ends op constant terms =
    let t = turned (cmp_op_of op) constant (terms_of terms) in
    let h = encode_linear_log_size (int_map env) t.op t.constant t.terms env.variables in
    foretold env lits ends (drop 1 (linear_checks env 0 0 op constant terms))
    ((lit< tt, lit< tt), ((lit< tt, lit< tt), ((lit< tt, lit< tt), ((lit< tt, lit< tt), ((lit< tt, lit< tt), ((lit< tt, lit< tt), ((lit< tt, lit< tt), tt)))))))
    _ (omega (arith, h.vars_are))

pub mul_foretold : MulForetold
unfolding mul_figures
mul_foretold env lits ends x y m =
    let h = encode_mul_log_size (int_map env) x y m env.variables in
    foretold env lits ends (drop 1 (mul_checks env 0 0 x y m)) ((lit< tt, lit< tt), ((lit< tt, lit< tt), tt)) _ (omega (arith, h.vars_are))
