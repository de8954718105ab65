-- The operations that a sum is turned to, the only ones that `encode_linear_log` of log.rs takes.
use Rattle.std.specs.Prelude.{suc, zero, ℕ}
use Rattle.norm_csp.specs.Rules.{CmpOp, eq as cmp-eq, ge as cmp-ge, ne as cmp-ne}

-- document 01's operations 0 Eq, 1 Ne, 2 Ge
pub data NormOp : Type 0 where
  eq ne ge : NormOp

-- an operation by its number
abbrev pub op_of : ℕ → NormOp
op_of zero = eq
op_of (suc zero) = ne
op_of (suc (suc n)) = ge

-- as one of the book's
abbrev pub cmp_op : NormOp → CmpOp
cmp_op eq = cmp-eq
cmp_op ne = cmp-ne
cmp_op ge = cmp-ge
