-- When a sum is accepted (document 01: operation by operation), as inequalities.
use Rattle.std.specs.Prelude.{◌%◌, ◌+◌, ◌<◌, ◌≤◌, ℕ, negsuc, pos, ℤ, length, ◌<ℤ◌, ◌≤ℤ◌, List, ◌≡◌}
use Rattle.log_encoding.specs.Columns.{HeightsWithin}
use Rattle.encoder_env.specs.declared.EncoderEnv.{EncoderEnv}
use Rattle.encoder_env.specs.Bounds.{WellFormed}
use Rattle.encoder_answer.specs.Accepted.{HasSpace}
use Rattle.encoder_linear.specs.Sums.{coef_at, setting_at, sum_encoded, sum_reached, term_count}

-- one of the job's settings, numbered from 0
abbrev pub Known : ℕ → ℤ → Type 0
Known count x = (pos 0 ≤ℤ x) × (x <ℤ pos count)

-- coefficients ±1 to ±255
pub record CoefBounds (k : ℤ) : Type 0 where
  pub least : negsuc 254 ≤ℤ k
  pub most : k ≤ℤ pos 255
  pub not_zero : k ≡ pos 0 → ⊥

-- constant within ±1,000,000
pub record ConstantBounds (k : ℤ) : Type 0 where
  pub least : negsuc 999999 ≤ℤ k
  pub most : k ≤ℤ pos 1000000

-- a well-formed job; an operation from 0 to 5; at most six terms, each with its coefficient; known settings, strictly rising; coefficients and
-- constant within bounds; a height of at most 12 in every column reached; and space
pub record SumAccepted (env : EncoderEnv) (lits ends op : ℕ) (constant : ℤ) (terms : List ℤ) : Type 0 where
  pub job : WellFormed env lits ends
  pub operation : op ≤ 5
  pub six : length terms ≤ 12
  pub paired : length terms % 2 ≡ 0
  pub settings : (i : ℕ) → i < term_count terms → Known env.count (setting_at terms i)
  pub rising : (i : ℕ) → i + 1 < term_count terms → setting_at terms i <ℤ setting_at terms (i + 1)
  pub coefs : (i : ℕ) → i < term_count terms → CoefBounds (coef_at terms i)
  pub constant_in : ConstantBounds constant
  pub heights : HeightsWithin (sum_reached env op constant terms)
  pub fits : HasSpace env lits ends (sum_encoded env op constant terms).vars (sum_encoded env op constant terms).clauses
