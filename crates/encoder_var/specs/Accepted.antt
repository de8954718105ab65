-- When a range, a list and two values are accepted (document 01: operation by operation), as inequalities.
use Rattle.std.specs.Prelude.{◌*◌, ◌+◌, ◌-◌, ◌<◌, ◌≤◌, ℕ, pos, ℤ, get_or, length, ◌<ℤ◌, List}
use Rattle.norm_csp.specs.Domain.{IntVarRepresentation, binary, list, range}
use Rattle.log_encoding.specs.EncodeVarLog.{encode_var_log}
use Rattle.encoder_env.specs.declared.EncoderEnv.{EncoderEnv}
use Rattle.encoder_env.specs.Bounds.{CodeFits, InRange, ValueBounds, WellFormed}
use Rattle.encoder_answer.specs.Accepted.{HasSpace}

-- 1 to 64 strictly rising values
pub record ListBounds (ks : List ℤ) : Type 0 where
  pub some : 1 ≤ length ks
  pub most : length ks ≤ 64
  pub values_in : (i : ℕ) → i < length ks → InRange (get_or ks i (pos 0))
  pub rising : (i : ℕ) → i + 1 < length ks → get_or ks i (pos 0) <ℤ get_or ks (i + 1) (pos 0)
  pub code_in : CodeFits (get_or ks 0 (pos 0)) (get_or ks (length ks - 1) (pos 0))

-- a switch literal below 2 × switches, two values f < t
pub record BinaryBounds (switches c : ℕ) (f t : ℤ) : Type 0 where
  pub switch : c < 2 * switches
  pub f_in : InRange f
  pub t_in : InRange t
  pub below : f <ℤ t
  pub code_in : CodeFits f t

-- the bounds of a setting call's own arguments
abbrev pub VarBounds : ℕ → IntVarRepresentation → Type 0
VarBounds switches (range low high) = ValueBounds low high
VarBounds switches (list ks) = ListBounds ks
VarBounds switches (binary c f t) = BinaryBounds switches c f t

-- a well-formed job, arguments within bounds, fewer than 32 settings, and space
pub record SettingAccepted (env : EncoderEnv) (lits ends : ℕ) (repr : IntVarRepresentation) : Type 0 where
  pub job : WellFormed env lits ends
  pub arguments : VarBounds env.switches repr
  pub free : env.count < 32
  pub fits : HasSpace env lits ends (encode_var_log repr env.variables).vars (encode_var_log repr env.variables).clauses
