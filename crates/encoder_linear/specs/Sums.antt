-- The outcome of a sum on every input (document 01: operation by operation). Its terms are one list: setting, coefficient, in turn.
use Rattle.std.specs.Prelude.{◌%◌, ◌*◌, ◌+◌, ◌-◌, ◌/◌, ℕ, eqb, leb, ltb, negsuc, pos, ℤ, get_or, length, Bool, ◌&&◌, not, List, [], ◌++◌, ◌∷◌}
use Rattle.std.specs.Int.Signed.{lt_z}
use Rattle.sat.specs.Encoded.{EncodedRule}
use Rattle.norm_csp.specs.Rules.{cmp_op_of, terms_of}
use Rattle.log_encoding.specs.VarSize.{setting_shape}
use Rattle.log_encoding.specs.AdderSize.{Reached, too_tall}
use Rattle.log_encoding.specs.Turned.{encode_turned, turned_reached}
use Rattle.encoder_env.specs.declared.EncoderEnv.{EncoderEnv}
use Rattle.encoder_env.specs.WellFormed.{all_below, eqz, int_map, lez, well_formed}
use Rattle.encoder_answer.specs.Adding.{adding, adding_status, grown}
use Rattle.encoder_answer.specs.Outcome.{Check, Outcome, check}

-- Terms --------------------------------------------------------------------------------------------------------------

abbrev pub term_count : List ℤ → ℕ
term_count terms = length terms / 2

abbrev pub setting_at : List ℤ → ℕ → ℤ
setting_at terms i = get_or terms (2 * i) (pos 0)

abbrev pub coef_at : List ℤ → ℕ → ℤ
coef_at terms i = get_or terms (2 * i + 1) (pos 0)

-- at most six terms, no setting lacking its coefficient
abbrev pub terms_paired : List ℤ → Bool
terms_paired terms = leb (length terms) 12 && eqb (length terms % 2) 0

-- a setting is one of the job's
abbrev pub setting_known : ℕ → ℤ → Bool
setting_known count x = lez (pos 0) x && lt_z x (pos count)

abbrev pub settings_known : ℕ → List ℤ → Bool
settings_known count terms = all_below (term_count terms) (λ i. setting_known count (setting_at terms i))

-- strictly rising
abbrev pub settings_rise : List ℤ → Bool
settings_rise terms = all_below (term_count terms - 1) (λ i. lt_z (setting_at terms i) (setting_at terms (i + 1)))

-- ±1 to ±255
abbrev pub coef_fits : ℤ → Bool
coef_fits k = lez (negsuc 254) k && lez k (pos 255) && not (eqz k (pos 0))

abbrev pub coefs_fit : List ℤ → Bool
coefs_fit terms = all_below (term_count terms) (λ i. coef_fits (coef_at terms i))

-- within ±1,000,000
abbrev pub constant_fits : ℤ → Bool
constant_fits k = lez (negsuc 999999) k && lez k (pos 1000000)

-- one of the operations 0 to 5
abbrev pub operation_known : ℕ → Bool
operation_known op = ltb op 6

-- The outcome --------------------------------------------------------------------------------------------------------

-- the columns that the turned sum reaches, over the bit counts and offsets of the settings
abbrev pub sum_reached : EncoderEnv → ℕ → ℤ → List ℤ → List Reached
sum_reached env op constant terms = turned_reached (λ i. setting_shape (int_map env i)) (cmp_op_of op) constant (terms_of terms)

-- 12 operation unknown; 9 over six terms, or a setting lacking its coefficient; 8 a setting unknown; 9 not strictly rising;
-- 10 coefficient zero or outside; 11 constant outside
abbrev pub argument_checks : EncoderEnv → ℕ → ℕ → ℕ → ℤ → List ℤ → List Check
argument_checks env lits ends op constant terms =
    check (well_formed env lits ends) 1
    ∷ check (operation_known op) 12
    ∷ check (terms_paired terms) 9
    ∷ check (settings_known env.count terms) 8
    ∷ check (settings_rise terms) 9
    ∷ check (coefs_fit terms) 10
    ∷ check (constant_fits constant) 11
    ∷ []

-- all checks but those of space; 13 a column above 12
abbrev pub linear_checks : EncoderEnv → ℕ → ℕ → ℕ → ℤ → List ℤ → List Check
linear_checks env lits ends op constant terms =
    argument_checks env lits ends op constant terms ++ (check (not (too_tall (sum_reached env op constant terms))) 13 ∷ [])

-- the clauses of the turned sum and the variable count after them
abbrev pub sum_encoded : EncoderEnv → ℕ → ℤ → List ℤ → EncodedRule
sum_encoded env op constant terms = encode_turned (int_map env) (cmp_op_of op) constant (terms_of terms) env.variables

-- the number of all checks
abbrev pub linear_status : EncoderEnv → ℕ → ℕ → ℕ → ℤ → List ℤ → ℕ
linear_status env lits ends op constant terms =
    let out = sum_encoded env op constant terms in
    adding_status (linear_checks env lits ends op constant terms) env lits ends out.vars out.clauses

abbrev pub linear_outcome : EncoderEnv → List ℕ → List ℕ → ℕ → ℤ → List ℤ → Outcome
linear_outcome env lits ends op constant terms =
    let out = sum_encoded env op constant terms in
    adding (linear_checks env (length lits) (length ends) op constant terms) env lits ends out.clauses (grown env out.vars out.clauses)
