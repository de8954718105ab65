-- Document 02, #102: a sum of any operation as one of Eq, Ne or Ge, after `normalized` in `encode_constraint` of encoder/mod.rs.
use Rattle.std.specs.Prelude.{◌+ℤ◌, ◌-ℤ◌, neg_ℤ, pos, ℤ, List, map}
use Rattle.norm_csp.specs.NormOp.{NormOp, eq as norm-eq, ge as norm-ge, ne as norm-ne}
use Rattle.norm_csp.specs.Rules.{CmpOp, LinearTerm, eq, ge, gt, le, lt, ne}

-- a sum and its operation, after `LinearLit` of norm_csp/mod.rs
pub record LinearLit : Type 0 where
  pub op : NormOp
  pub constant : ℤ
  pub terms : List LinearTerm

-- a term with its coefficient negated
abbrev pub negated : LinearTerm → LinearTerm
negated t = record { var = t.var; coef = neg_ℤ t.coef }

-- Ge
abbrev pub ge_lit : ℤ → List LinearTerm → LinearLit
ge_lit constant terms = record { op = norm-ge; constant = constant; terms = terms }

-- Le: Ge with every coefficient and the constant negated
abbrev pub le_lit : ℤ → List LinearTerm → LinearLit
le_lit constant terms = ge_lit (neg_ℤ constant) (map negated terms)

-- Lt is Le with the constant plus 1 beforehand, Gt is Ge with the constant less 1
abbrev pub turned : CmpOp → ℤ → List LinearTerm → LinearLit
turned eq constant terms = record { op = norm-eq; constant = constant; terms = terms }
turned ne constant terms = record { op = norm-ne; constant = constant; terms = terms }
turned ge constant terms = ge_lit constant terms
turned le constant terms = le_lit constant terms
turned lt constant terms = le_lit (constant +ℤ pos 1) terms
turned gt constant terms = ge_lit (constant -ℤ pos 1) terms
