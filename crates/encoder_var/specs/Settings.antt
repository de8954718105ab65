-- The outcome of a range, a list and two values on every input (document 01: operation by operation).
use Rattle.std.specs.Prelude.{◌*◌, ◌+◌, ◌-◌, ℕ, leb, ltb, pos, ℤ, get_or, length, Bool, ◌&&◌, List, [], ◌++◌, ◌∷◌, Some}
use Rattle.std.specs.Int.Signed.{lt_z}
use Rattle.norm_csp.specs.Domain.{IntVarRepresentation, binary, list, range}
use Rattle.log_encoding.specs.EncodeVarLog.{EncodedVar, encode_var_log}
use Rattle.log_var.specs.Record.{record_of}
use Rattle.encoder_env.specs.declared.EncoderEnv.{EncoderEnv}
use Rattle.encoder_env.specs.WellFormed.{all_below, bounds_hold, code_fits, in_range, well_formed}
use Rattle.encoder_answer.specs.Adding.{adding, adding_status, grown, with_record}
use Rattle.encoder_answer.specs.Call.{Addition}
use Rattle.encoder_answer.specs.Outcome.{Check, Outcome, check}

abbrev pub all_in_range : List ℤ → Bool
all_in_range ks = all_below (length ks) (λ i. in_range (get_or ks i (pos 0)))

-- each value is below the next
abbrev pub rising : List ℤ → Bool
rising ks = all_below (length ks - 1) (λ i. lt_z (get_or ks i (pos 0)) (get_or ks (i + 1) (pos 0)))

-- the checks of a setting call's own arguments
abbrev pub var_checks : ℕ → IntVarRepresentation → List Check
var_checks switches (range low high) = check (bounds_hold low high) 3 ∷ []
var_checks switches (list ks) =
    check (leb 1 (length ks) && leb (length ks) 64) 4
    ∷ check (all_in_range ks) 3
    ∷ check (rising ks) 4
    ∷ check (code_fits (get_or ks 0 (pos 0)) (get_or ks (length ks - 1) (pos 0))) 3
    ∷ []
var_checks switches (binary c f t) =
    check (ltb c (2 * switches)) 6 ∷ check (in_range f && in_range t) 3 ∷ check (lt_z f t) 5 ∷ check (code_fits f t) 3 ∷ []

-- all checks but those of space; 7 table full
abbrev pub setting_checks : EncoderEnv → ℕ → ℕ → IntVarRepresentation → List Check
setting_checks env lits ends repr =
    check (well_formed env lits ends) 1 ∷ (var_checks env.switches repr ++ (check (ltb env.count 32) 7 ∷ []))

-- the job with the setting's clauses and its record
abbrev pub with_encoding : EncoderEnv → EncodedVar → EncoderEnv
with_encoding env out = with_record (grown env out.vars out.clauses) (record_of out.encoding)

-- the clauses and the record of a new setting
abbrev pub setting_given : EncoderEnv → IntVarRepresentation → Addition
setting_given env repr =
    let out = encode_var_log repr env.variables in
    record { clauses = out.clauses; vars = out.vars; setting = Some (record_of out.encoding) }

-- the number of all checks
abbrev pub setting_status : EncoderEnv → ℕ → ℕ → IntVarRepresentation → ℕ
setting_status env lits ends repr =
    let out = encode_var_log repr env.variables in
    adding_status (setting_checks env lits ends repr) env lits ends out.vars out.clauses

-- a range, a list or two values: what `encode_var_log` gives
abbrev pub setting_outcome : EncoderEnv → List ℕ → List ℕ → IntVarRepresentation → Outcome
setting_outcome env lits ends repr =
    let out = encode_var_log repr env.variables in
    adding (setting_checks env (length lits) (length ends) repr) env lits ends out.clauses (with_encoding env out)
