-- What the functions that encode a setting ask and answer.
use Rattle.std.specs.Prelude.{◌+◌, ◌≤◌, pos, ℤ, [], ◌∷◌, ◌≡◌}
use Rattle.arithmetic.specs.Integers.{down}
use Rattle.clause_set.specs.Stores.{Wrote}
use Rattle.clause_set.specs.declared.ClauseSet.{ClauseSet}
use Rattle.norm_csp.specs.Domain.{IntVarRepresentation, binary, list, range}
use Rattle.log_encoding.specs.EncodeVarLog.{Encodable, encode_var_log}
use Rattle.log_var.specs.Record.{record_of}
use Rattle.log_var.specs.declared.LogEncoding.{LogEncoding as Encoding}

-- the lowest value
abbrev pub lowest : IntVarRepresentation → ℤ
lowest (range low high) = low
lowest (list []) = pos 0
lowest (list (k ∷ ks)) = k
lowest (binary c f t) = f

-- the arguments passed document 01's checks, and no count of the set can wrap
pub record Ready (repr : IntVarRepresentation) (s : ClauseSet) : Type 0 where
  pub encodable : Encodable s.vars repr
  pub low : down (lowest repr) ≤ 4095
  pub vars_fit : s.vars ≤ 65535
  pub lits_fit : s.base + s.used.lits ≤ 16777216
  pub clauses_fit : s.used.clauses ≤ 16777216

-- the setting's record r, and the set t, which is s with its clauses
pub record VarAdded (repr : IntVarRepresentation) (s : ClauseSet) (r : Encoding) (t : ClauseSet) : Type 0 where
  pub wrote : Wrote s (encode_var_log repr s.vars).vars (encode_var_log repr s.vars).clauses t
  pub encoding : r ≡ record_of (encode_var_log repr s.vars).encoding
