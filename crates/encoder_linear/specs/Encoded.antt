-- Demand 2 at the call for sums: what the clauses that it added say.
use Rattle.std.specs.Prelude.{ℕ, ℤ, List}
use Rattle.norm_csp.specs.Rules.{LinearHolds, cmp_op_of, terms_of}
use Rattle.encoder_env.specs.declared.EncoderEnv.{EncoderEnv}
use Rattle.encoder_linear.specs.Sums.{linear_outcome}
use Rattle.encoder_answer.specs.Encoded.{RuleEncodes, RuleExact, number}

-- for every sum (`linear_encodes`)
abbrev pub LinearEncodes : Type 0
LinearEncodes =
    (env : EncoderEnv) (lits ends : List ℕ) (op : ℕ) (constant : ℤ) (terms : List ℤ)
    → RuleEncodes env (linear_outcome env lits ends op constant terms) (λ α. LinearHolds (number env α) (cmp_op_of op) constant (terms_of terms))

-- and exactly when the sum holds of the values read (`linear_exact`)
abbrev pub LinearExact : Type 0
LinearExact =
    (env : EncoderEnv) (lits ends : List ℕ) (op : ℕ) (constant : ℤ) (terms : List ℤ)
    → RuleExact env (linear_outcome env lits ends op constant terms) (λ α. LinearHolds (number env α) (cmp_op_of op) constant (terms_of terms))
