-- The figures of a sum and of a product (document 02, #105): what the call would add to a job, before any store is lent.
use Rattle.std.specs.Prelude.{◌-◌, suc, zero, ℕ, ℤ, length, List, Option, Some, None, Result, Ok, Err}
use Rattle.sat.specs.Encoded.{EncodedRule}
use Rattle.sat.specs.Size.{Size, entries}
use Rattle.encoder_env.specs.declared.EncoderEnv.{EncoderEnv}
use Rattle.encoder_answer.specs.Outcome.{Check, status_of}
use Rattle.encoder_linear.specs.Sums.{linear_checks, sum_encoded}
use Rattle.encoder_mul.specs.Products.{mul_checks, product_encoded}
use Rattle.log_linear.specs.declared.RuleCounts.{RuleCounts}
use Rattle.refusal.specs.Number.{number}
use Rattle.refusal.specs.declared.Refusal.{Refusal}
use Rattle.refusal.specs.declared.Refusal.TheVariants.{ColumnTooTall}
use Rattle.encoder_figures.specs.declared.Figures.{Figures as Added}

-- the number answered, and what the call would add: new variables, clauses and literal entries
pub record Figures : Type 0 where
  pub status : ℕ
  pub variables : ℕ
  pub clauses : ℕ
  pub literals : ℕ

-- the entries of the greatest store
abbrev pub most_entries : ℕ
most_entries = 16777216

-- the new variables, clauses and literal entries of a rule, with v variables before it
abbrev pub adds : ℕ → EncodedRule → Size
adds v out = record { vars = out.vars - v; clauses = length out.clauses; literals = entries out.clauses }

-- the figures of a call by its number; a refusal has none
abbrev pub figures_of : ℕ → Size → Figures
figures_of zero size = record { status = 0; variables = size.vars; clauses = size.clauses; literals = size.literals }
figures_of (suc n) size = record { status = suc n; variables = 0; clauses = 0; literals = 0 }

-- the call's checks but for those of space, at the greatest stores, and what its clauses take
abbrev pub rule_figures : EncoderEnv → (ℕ → ℕ → List Check) → EncodedRule → Figures
rule_figures env checks out = figures_of (status_of (checks most_entries most_entries)) (adds env.variables out)

-- of a sum: 1, 12, 9, 8, 9, 10, 11, 13
unfoldable pub linear_figures : EncoderEnv → ℕ → ℤ → List ℤ → Figures
linear_figures env op constant terms =
    rule_figures env (λ lits ends. linear_checks env lits ends op constant terms) (sum_encoded env op constant terms)

-- of a product: 1, 8, 13
unfoldable pub mul_figures : EncoderEnv → ℕ → ℕ → ℕ → Figures
mul_figures env x y m = rule_figures env (λ lits ends. mul_checks env lits ends x y m) (product_encoded env x y m)

-- As the code has them -------------------------------------------------------------------------------------------------

-- what each case says; a refusal has its number and no figures
abbrev pub figured : Result Added Refusal → Figures
figured (Ok f) = record { status = 0; variables = f.variables; clauses = f.clauses; literals = f.literals }
figured (Err e) =
    record {
      status = number e;
      variables = 0;
      clauses = 0;
      literals = 0;
    }

-- a rule measured: 13, or its size
abbrev pub size_figures : Option RuleCounts → Result Added Refusal
size_figures None = Err ColumnTooTall
size_figures (Some r) = Ok (record { variables = r.vars; clauses = r.used.clauses; literals = r.used.lits })
