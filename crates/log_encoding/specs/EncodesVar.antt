-- What it means that a setting's record and clauses are right (document 01, demand 2: the clauses admit exactly the log codes of its
-- values).
use Rattle.std.specs.Prelude.{◌≤◌, ℕ, ℤ, ◌↔◌, ◌≡◌}
use Rattle.std.proofs.Math.Bool.{So}
use Rattle.sat.specs.Clause.{Assignment, sat}
use Rattle.sat.specs.Encodes.{Agree, ClausesBelow, LitsBelow}
use Rattle.norm_csp.specs.Domain.{IntVarRepresentation, IsValue}
use Rattle.log_encoding.specs.EncodeVarLog.{EncodedVar}
use Rattle.log_encoding.specs.LogEncoding.{get_int_value}

pub record EncodesVar (v : ℕ) (repr : IntVarRepresentation) (out : EncodedVar) : Type 0 where
  pub grows : v ≤ out.vars
  pub below : ClausesBelow out.vars out.clauses
  pub lits_below : LitsBelow out.vars out.encoding.lits
  -- the clauses hold exactly where the code read is one of a value
  pub admits : (α : Assignment) → So (sat α out.clauses) ↔ IsValue α repr (get_int_value α out.encoding)
  -- every value is read under some choice of the new variables
  pub complete : (α : Assignment) (z : ℤ) → IsValue α repr z → (β : Assignment) × Agree v α β × (get_int_value β out.encoding ≡ z)
  -- and under one only
  pub unique : (α β : Assignment) → Agree v α β → get_int_value α out.encoding ≡ get_int_value β out.encoding → Agree out.vars α β
