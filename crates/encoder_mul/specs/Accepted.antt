-- When a product is accepted (document 01: operation by operation), as inequalities.
use Rattle.std.specs.Prelude.{◌<◌, ℕ}
use Rattle.log_encoding.specs.Columns.{HeightsWithin}
use Rattle.encoder_env.specs.declared.EncoderEnv.{EncoderEnv}
use Rattle.encoder_env.specs.Bounds.{WellFormed}
use Rattle.encoder_answer.specs.Accepted.{HasSpace}
use Rattle.encoder_mul.specs.Products.{product_encoded, product_reached}

-- a well-formed job, three of its settings, a height of at most 12 in every column reached, and space
pub record ProductAccepted (env : EncoderEnv) (lits ends x y m : ℕ) : Type 0 where
  pub job : WellFormed env lits ends
  pub x_known : x < env.count
  pub y_known : y < env.count
  pub m_known : m < env.count
  pub heights : HeightsWithin (product_reached env x y m)
  pub fits : HasSpace env lits ends (product_encoded env x y m).vars (product_encoded env x y m).clauses
