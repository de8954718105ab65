-- The outcome of a product on every input (document 01: operation by operation).
use Rattle.std.specs.Prelude.{ℕ, ltb, length, ◌&&◌, not, List, [], ◌++◌, ◌∷◌}
use Rattle.sat.specs.Encoded.{EncodedRule}
use Rattle.log_encoding.specs.VarSize.{setting_shape}
use Rattle.log_encoding.specs.AdderSize.{Reached, too_tall}
use Rattle.log_encoding.specs.EncodeMulLog.{encode_mul_log}
use Rattle.log_encoding.specs.MulSize.{mul_reached}
use Rattle.encoder_env.specs.declared.EncoderEnv.{EncoderEnv}
use Rattle.encoder_env.specs.WellFormed.{int_map, well_formed}
use Rattle.encoder_answer.specs.Adding.{adding, adding_status, grown}
use Rattle.encoder_answer.specs.Outcome.{Check, Outcome, check}

-- the columns reached, over the bit counts and offsets of the settings
abbrev pub product_reached : EncoderEnv → ℕ → ℕ → ℕ → List Reached
product_reached env x y m = mul_reached (setting_shape (int_map env x)) (setting_shape (int_map env y)) (setting_shape (int_map env m))

-- all checks but those of heights and space: 8 a setting unknown
abbrev pub argument_checks : EncoderEnv → ℕ → ℕ → ℕ → ℕ → ℕ → List Check
argument_checks env lits ends x y m =
    check (well_formed env lits ends) 1 ∷ check (ltb x env.count && ltb y env.count && ltb m env.count) 8 ∷ []

-- all checks but those of space; 13 a column above 12
abbrev pub mul_checks : EncoderEnv → ℕ → ℕ → ℕ → ℕ → ℕ → List Check
mul_checks env lits ends x y m =
    argument_checks env lits ends x y m ++ (check (not (too_tall (product_reached env x y m))) 13 ∷ [])

-- the clauses of `encode_mul_log` and the variable count after them
abbrev pub product_encoded : EncoderEnv → ℕ → ℕ → ℕ → EncodedRule
product_encoded env x y m = encode_mul_log (int_map env) x y m env.variables

-- the number of all checks
abbrev pub mul_status : EncoderEnv → ℕ → ℕ → ℕ → ℕ → ℕ → ℕ
mul_status env lits ends x y m =
    let out = product_encoded env x y m in
    adding_status (mul_checks env lits ends x y m) env lits ends out.vars out.clauses

abbrev pub mul_outcome : EncoderEnv → List ℕ → List ℕ → ℕ → ℕ → ℕ → Outcome
mul_outcome env lits ends x y m =
    let out = product_encoded env x y m in
    adding (mul_checks env (length lits) (length ends) x y m) env lits ends out.clauses (grown env out.vars out.clauses)
