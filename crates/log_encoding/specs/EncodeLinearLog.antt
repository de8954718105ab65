-- The clauses of a sum over the settings' records, after `encode_linear_log` of log.rs.
use Rattle.std.specs.Prelude.{◌+◌, ◌<◌, suc, ℕ, negsuc, pos, ℤ, false, true, List, [], ◌++◌, ◌∷◌}
use Rattle.arithmetic.specs.Integers.{down, up}
use Rattle.sat.specs.Encoded.{EncodedRule}
use Rattle.sat.specs.Encodes.{LitsBelow}
use Rattle.norm_csp.specs.NormOp.{NormOp, eq, ge, ne}
use Rattle.norm_csp.specs.Rules.{LinearTerm, linear_sum}
use Rattle.log_encoding.specs.LogEncoding.{LogEncoding}
use Rattle.log_encoding.specs.Adder2.{EncodedEq}
use Rattle.log_encoding.specs.Linear.{Weighted, linear_eq, linear_ge, linear_ne}

-- literals with a signed coefficient
abbrev pub weighted : ℤ → List ℕ → Weighted
weighted (pos k) ls = record { negative = false; coef = k; lits = ls }
weighted (negsuc k) ls = record { negative = true; coef = suc k; lits = ls }

-- each term's setting by its literals; `int_map` gives the settings' records
abbrev pub weighted_terms : (ℕ → LogEncoding) → List LinearTerm → List Weighted
weighted_terms int_map [] = []
weighted_terms int_map (t ∷ ts) = weighted t.coef (int_map t.var).lits ∷ weighted_terms int_map ts

-- the constant plus every coefficient times its setting's offset
abbrev pub offset_constant : (ℕ → LogEncoding) → ℤ → List LinearTerm → ℤ
offset_constant int_map constant terms = linear_sum (λ i. (int_map i).offset) constant terms

-- a call's clauses: those sent during it, then the returned set
abbrev pub eq_rule : EncodedEq → EncodedRule
eq_rule out = record { clauses = out.sent ++ out.returned; vars = out.vars }

-- the constant k is up k less down k
abbrev pub encode_weighted : NormOp → List Weighted → ℤ → ℕ → EncodedRule
encode_weighted eq ps k v = eq_rule (linear_eq ps (up k) (down k) v)
encode_weighted ne ps k v = linear_ne ps (up k) (down k) v
encode_weighted ge ps k v = linear_ge ps (up k) (down k) v

-- v variables are there before
abbrev pub encode_linear_log : (ℕ → LogEncoding) → NormOp → ℤ → List LinearTerm → ℕ → EncodedRule
encode_linear_log int_map op constant terms v = encode_weighted op (weighted_terms int_map terms) (offset_constant int_map constant terms) v

-- the records have literals of the first v variables, and coefficients are below 4,096
abbrev pub TermsBelow : ℕ → (ℕ → LogEncoding) → List LinearTerm → Type 0
TermsBelow v int_map [] = Unit
TermsBelow v int_map (t ∷ ts) =
    (LitsBelow v (int_map t.var).lits × (up t.coef + down t.coef < 4096)) × TermsBelow v int_map ts
