-- The clauses of a sum of weighted literals, after `encode_linear_log_from_encodings` of log.rs, in natural numbers: the terms that
-- count positive with a constant a, those that count negative with a constant b.
use Rattle.std.specs.Prelude.{◌*◌, ◌+◌, ◌-◌, ℕ, length, Bool, cond, false, true, List, [], ◌++◌, ◌∷◌, map}
use Rattle.std.specs.Bool.{beq}
use Rattle.arithmetic.specs.Bits.{shl}
use Rattle.sat.specs.Clause.{Assignment}
use Rattle.sat.specs.Encoded.{EncodedBits, EncodedRule}
use Rattle.sat.specs.Lit.{neg}
use Rattle.sat.specs.Number.{code_of}
use Rattle.log_encoding.specs.Adder.{adder}
use Rattle.log_encoding.specs.Adder2.{EncodedEq, eq_adder}
use Rattle.log_encoding.specs.Gather.{Grid, push_scaled, with_constant}
use Rattle.log_encoding.specs.Compare.{ge_first, ne_bits, none_of}

-- a number's literals, the lowest bit first, with a coefficient below 4,096 and its sign
pub record Weighted : Type 0 where
  pub negative : Bool
  pub coef : ℕ
  pub lits : List ℕ

-- what the terms of one sign come to
abbrev pub signed_sum : Bool → Assignment → List Weighted → ℕ
signed_sum s α [] = 0
signed_sum s α (p ∷ ps) = cond (beq s p.negative) (p.coef * code_of α p.lits) 0 + signed_sum s α ps

-- Ne and Ge: the terms of one sign in columns
abbrev pub gather_sign : Bool → List Weighted → Grid → Grid
gather_sign s [] grid = grid
gather_sign s (p ∷ ps) grid = gather_sign s ps (cond (beq s p.negative) (push_scaled 12 p.coef 0 p.lits grid) grid)

-- the sum of the terms of one sign and a constant; there is at least one column
abbrev pub sign_adder : Bool → List Weighted → ℕ → ℕ → EncodedBits
sign_adder s ps k v = adder (with_constant 32 (gather_sign s ps ([] ∷ [])) k) [] [] v

-- Ge of any two lists of bits
abbrev pub ge_bits : List ℕ → List ℕ → ℕ → EncodedRule
ge_bits [] ns v = record { clauses = none_of ns; vars = v }
ge_bits (p ∷ ps) [] v = record { clauses = (p ∷ ps) ∷ []; vars = v }
ge_bits (p ∷ ps) (n ∷ ns) v = ge_first p ps n ns v

-- the positive part, then the negative part, then the comparison of their bits
abbrev pub compare : (List ℕ → List ℕ → ℕ → EncodedRule) → EncodedBits → (ℕ → EncodedBits) → EncodedRule
compare test pos neg-from =
    let neg = neg-from pos.vars in
    let last = test pos.bits neg.bits neg.vars in
    record { clauses = (pos.clauses ++ neg.clauses) ++ last.clauses; vars = last.vars }

-- Ne's comparison, or Ge's
abbrev pub comparison : Bool → List ℕ → List ℕ → ℕ → EncodedRule
comparison true = λ p n v. ne_bits p n [] v
comparison false = ge_bits

abbrev pub linear_compared : Bool → List Weighted → ℕ → ℕ → ℕ → EncodedRule
linear_compared is_ne ps a b v = compare (comparison is_ne) (sign_adder false ps a v) (λ w. sign_adder true ps b w)

abbrev pub linear_ge : List Weighted → ℕ → ℕ → ℕ → EncodedRule
linear_ge = linear_compared false

abbrev pub linear_ne : List Weighted → ℕ → ℕ → ℕ → EncodedRule
linear_ne = linear_compared true

-- Eq: a term that counts negative, by its negated literals
abbrev pub positive_lits : Weighted → List ℕ
positive_lits p = cond p.negative (map neg p.lits) p.lits

-- no literal makes no column
abbrev pub push_scaled_some : ℕ → List ℕ → Grid → Grid
push_scaled_some k [] grid = grid
push_scaled_some k (l ∷ ls) grid = push_scaled 12 k 0 (l ∷ ls) grid

-- the terms in columns
abbrev pub gather : List Weighted → Grid → Grid
gather [] grid = grid
gather (p ∷ ps) grid = gather ps (push_scaled_some p.coef (positive_lits p) grid)

-- what the negated literals add too much
abbrev pub negated_constant : List Weighted → ℕ
negated_constant [] = 0
negated_constant (p ∷ ps) = cond p.negative (p.coef * (shl (length p.lits) 1 - 1)) 0 + negated_constant ps

-- the columns have to reach b + what was added too much - a
abbrev pub linear_eq : List Weighted → ℕ → ℕ → ℕ → EncodedEq
linear_eq ps a b v = eq_adder (gather ps []) (a - (b + negated_constant ps)) (b + negated_constant ps - a) v
