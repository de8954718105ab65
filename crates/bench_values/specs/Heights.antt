-- The greatest height of a column that a rule reaches, 0 where one of document 01's checks before 13 fails.
use Rattle.std.specs.Prelude.{ℕ, eqb, ltb, ℤ, ◌&&◌, cond, List}
use Rattle.log_encoding.specs.AdderSize.{greatest_height}
use Rattle.encoder_env.specs.declared.EncoderEnv.{EncoderEnv}
use Rattle.encoder_env.specs.WellFormed.{well_formed}
use Rattle.encoder_answer.specs.Outcome.{status_of}
use Rattle.encoder_linear.specs.Sums.{argument_checks, sum_reached}
use Rattle.encoder_mul.specs.Products.{product_reached}

-- of a sum
abbrev pub sum_height : EncoderEnv → ℕ → ℕ → ℕ → ℤ → List ℤ → ℕ
sum_height env lits ends op constant terms =
    cond (eqb (status_of (argument_checks env lits ends op constant terms)) 0) (greatest_height (sum_reached env op constant terms)) 0

-- of a product
abbrev pub product_height : EncoderEnv → ℕ → ℕ → ℕ → ℕ → ℕ → ℕ
product_height env lits ends x y m =
    cond (well_formed env lits ends && (ltb x env.count && ltb y env.count && ltb m env.count)) (greatest_height (product_reached env x y m)) 0
