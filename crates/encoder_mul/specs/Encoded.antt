-- Demand 2 at the call for products: what the clauses that it added say.
use Rattle.std.specs.Prelude.{ℕ, List}
use Rattle.norm_csp.specs.Rules.{MulHolds}
use Rattle.encoder_env.specs.declared.EncoderEnv.{EncoderEnv}
use Rattle.encoder_mul.specs.Products.{mul_outcome}
use Rattle.encoder_answer.specs.Encoded.{RuleEncodes, RuleExact, number}

-- for every product (`mul_encodes`)
abbrev pub MulEncodes : Type 0
MulEncodes =
    (env : EncoderEnv) (lits ends : List ℕ) (x y m : ℕ)
    → RuleEncodes env (mul_outcome env lits ends x y m) (λ α. MulHolds (number env α) x y m)

-- and exactly when the product holds of the values read (`mul_exact`)
abbrev pub MulExact : Type 0
MulExact =
    (env : EncoderEnv) (lits ends : List ℕ) (x y m : ℕ)
    → RuleExact env (mul_outcome env lits ends x y m) (λ α. MulHolds (number env α) x y m)
