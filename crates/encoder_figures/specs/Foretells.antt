-- What the figures say of the call itself, on every job and stores.
use Rattle.std.specs.Prelude.{◌+◌, ℕ, ℤ, false, List, ◌⊎◌, ◌≡◌}
use Rattle.sat.specs.Encoded.{EncodedRule}
use Rattle.sat.specs.Size.{HasSize, Size}
use Rattle.encoder_env.specs.WellFormed.{well_formed}
use Rattle.encoder_env.specs.declared.EncoderEnv.{EncoderEnv}
use Rattle.encoder_answer.specs.Outcome.{Outcome}
use Rattle.encoder_linear.specs.Sums.{linear_outcome, sum_encoded}
use Rattle.encoder_mul.specs.Products.{mul_outcome, product_encoded}
use Rattle.encoder_figures.specs.Figures.{Figures, linear_figures, most_entries, mul_figures}

-- the figures as a size
abbrev pub size_of : Figures → Size
size_of f = record { vars = f.variables; clauses = f.clauses; literals = f.literals }

-- the job after a call has that much more than the job before it
pub record HasAdded (before after : EncoderEnv) (f : Figures) : Type 0 where
  pub variables_are : after.variables ≡ before.variables + f.variables
  pub clauses_are : after.clauses ≡ before.clauses + f.clauses
  pub literals_are : after.literals ≡ before.literals + f.literals

-- the numbers that the figures answer too: not 0, not 1 (which goes by the stores lent), not those of space
pub record OtherThanSpace (n : ℕ) : Type 0 where
  pub is_refusal : n ≡ 0 → ⊥
  pub not_the_job : n ≡ 1 → ⊥
  pub not_variables : n ≡ 14 → ⊥
  pub not_entries : n ≡ 15 → ⊥

-- of a rule with these clauses, a call on a job with this outcome, and the figures for the job
pub record Foretells (env : EncoderEnv) (out : EncodedRule) (o : Outcome) (f : Figures) : Type 0 where
  -- accepted: what it added
  pub accepted : o.status ≡ 0 → (f.status ≡ 0) × HasAdded env o.env f
  -- short of space only: what it would add with enough, its very clauses
  pub short : (o.status ≡ 14) ⊎ (o.status ≡ 15) → (f.status ≡ 0) × HasSize env.variables out.vars out.clauses (size_of f)
  -- refused for a reason other than space: the same number, and no figures
  pub refused : OtherThanSpace o.status → f ≡ record { status = o.status; variables = 0; clauses = 0; literals = 0 }
  -- 1 exactly where the job is not well formed at the greatest stores, and the call on any stores answers it then
  pub unformed : well_formed env most_entries most_entries ≡ false → (f.status ≡ 1) × (o.status ≡ 1)
  pub only_unformed : f.status ≡ 1 → well_formed env most_entries most_entries ≡ false
  -- 14 and 15 don't arise
  pub no_space : (f.status ≡ 14 → ⊥) × (f.status ≡ 15 → ⊥)

-- for every sum (`linear_foretold`)
abbrev pub LinearForetold : Type 0
LinearForetold =
    (env : EncoderEnv) (lits ends : List ℕ) (op : ℕ) (constant : ℤ) (terms : List ℤ)
    → Foretells env (sum_encoded env op constant terms) (linear_outcome env lits ends op constant terms) (linear_figures env op constant terms)

-- and every product (`mul_foretold`)
abbrev pub MulForetold : Type 0
MulForetold =
    (env : EncoderEnv) (lits ends : List ℕ) (x y m : ℕ)
    → Foretells env (product_encoded env x y m) (mul_outcome env lits ends x y m) (mul_figures env x y m)
