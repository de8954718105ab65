-- Demand 2 at a setting call: what the clauses that it added say.
use Rattle.std.specs.Prelude.{◌<◌, ◌^◌, ℕ, ℤ, length, List, ◌≡◌}
use Rattle.std.proofs.Math.Bool.{So}
use Rattle.arithmetic.specs.Offset.{code, value}
use Rattle.sat.specs.Clause.{Assignment, sat}
use Rattle.sat.specs.Number.{code_of}
use Rattle.norm_csp.specs.Domain.{IntVarRepresentation, IsValue}
use Rattle.log_encoding.specs.EncodeVarLog.{EncodedVar}
use Rattle.log_encoding.specs.EncodesVar.{EncodesVar}
use Rattle.encoder_env.specs.declared.EncoderEnv.{EncoderEnv}
use Rattle.encoder_env.specs.WellFormed.{int_map}
use Rattle.encoder_var.specs.Settings.{setting_outcome}
use Rattle.encoder_answer.specs.Outcome.{Outcome}
use Rattle.encoder_answer.specs.Encoded.{added_clauses}

-- the new record as a setting, the clauses added, and the variable count after them
abbrev pub added_var : EncoderEnv → Outcome → EncodedVar
added_var env o = record { encoding = int_map o.env env.count; clauses = added_clauses env o; vars = o.env.variables }

-- For every job of 32 records, well formed as an accepted call's job is, forged or not: the clauses added admit, over the new record's
-- literals, exactly the codes of the setting's values (`setting_encodes`).
abbrev pub SettingEncodes : Type 0
SettingEncodes =
    (env : EncoderEnv) (lits ends : List ℕ) (repr : IntVarRepresentation)
    → length env.encodings ≡ 32
    → (setting_outcome env lits ends repr).status ≡ 0
    → EncodesVar env.variables repr (added_var env (setting_outcome env lits ends repr))

-- Values and codes convert both ways (demand 2), of a setting's record and clauses.
pub record Converts (repr : IntVarRepresentation) (out : EncodedVar) : Type 0 where
  -- every value has a code within the record's bits, and that code's value is the value
  pub to_code : (α : Assignment) (z : ℤ) → IsValue α repr z
      → (code out.encoding.offset z < 2 ^ length out.encoding.lits) × (value out.encoding.offset (code out.encoding.offset z) ≡ z)
  -- every code read where the clauses hold has one of the values, and that value's code is the code
  pub to_value : (α : Assignment) → So (sat α out.clauses)
      → (let c = code_of α out.encoding.lits in
      IsValue α repr (value out.encoding.offset c) × (code out.encoding.offset (value out.encoding.offset c) ≡ c))

-- for every accepted setting call, as above (`setting_converts`)
abbrev pub SettingConverts : Type 0
SettingConverts =
    (env : EncoderEnv) (lits ends : List ℕ) (repr : IntVarRepresentation)
    → length env.encodings ≡ 32
    → (setting_outcome env lits ends repr).status ≡ 0
    → Converts repr (added_var env (setting_outcome env lits ends repr))
