-- The operations as the code has them.
use Rattle.norm_csp.specs.NormOp.{NormOp, eq as norm-eq, ge as norm-ge, ne as norm-ne}
use Rattle.norm_csp.specs.Rules.{CmpOp, eq, ge, gt, le, lt, ne}
use Rattle.norm_csp.specs.declared.CmpOp.{CmpOp as CodeOp}
use Rattle.norm_csp.specs.declared.CmpOp.TheVariants.{Eq, Ge, Gt, Le, Lt, Ne}
use Rattle.norm_csp.specs.declared.NormOp.{NormOp as CodeNormOp}
use Rattle.norm_csp.specs.declared.NormOp.TheVariants.{Eq as NormEq, Ge as NormGe, Ne as NormNe}

-- those to which a sum is turned
abbrev pub normalized : CodeNormOp → NormOp
normalized NormEq = norm-eq
normalized NormNe = norm-ne
normalized NormGe = norm-ge

-- all
abbrev pub compared : CodeOp → CmpOp
compared Eq = eq
compared Ne = ne
compared Ge = ge
compared Le = le
compared Lt = lt
compared Gt = gt
