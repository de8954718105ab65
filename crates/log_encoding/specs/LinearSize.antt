-- The columns that a sum reaches, and the size of its clauses, from bit counts, coefficients and the constant alone.
use Rattle.std.specs.Prelude.{◌%◌, ◌*◌, ◌+◌, ◌-◌, ◌/◌, max, min, suc, zero, ℕ, negsuc, pos, ℤ, length, Bool, cond, false, true, List, [], ◌++◌, ◌∷◌}
use Rattle.std.specs.Bool.{beq}
use Rattle.arithmetic.specs.Bits.{shl}
use Rattle.arithmetic.specs.Integers.{down, up}
use Rattle.sat.specs.Size.{Size, size_by}
use Rattle.norm_csp.specs.NormOp.{NormOp, eq, ge, ne}
use Rattle.norm_csp.specs.Rules.{LinearTerm, linear_sum}
use Rattle.log_encoding.specs.VarSize.{SettingShape}
use Rattle.log_encoding.specs.AdderSize.{ColumnShape, Reached, adder_count, adder_vars, carry_vars, eq_count, eq_reached, push_scaled_counts, reached}
use Rattle.log_encoding.specs.Linear.{Weighted}

-- the numbers of a term: its bits, and a coefficient with its sign
pub record WeightedShape : Type 0 where
  pub negative : Bool
  pub coef : ℕ
  pub bits : ℕ

-- of a weighted number
abbrev pub shape_of : Weighted → WeightedShape
shape_of p = record { negative = p.negative; coef = p.coef; bits = length p.lits }

-- of n bits with a signed coefficient
abbrev pub weighted_shape : ℤ → ℕ → WeightedShape
weighted_shape (pos k) n = record { negative = false; coef = k; bits = n }
weighted_shape (negsuc k) n = record { negative = true; coef = suc k; bits = n }

-- The columns reached -------------------------------------------------------------------------------------------------

-- Ne and Ge: the terms of one sign in columns
abbrev pub sign_counts : Bool → List WeightedShape → List ℕ → List ℕ
sign_counts s [] hs = hs
sign_counts s (p ∷ ps) hs =
    sign_counts s ps (cond (beq s p.negative) (push_scaled_counts 12 p.coef 0 p.bits hs) hs)

-- the constant's bits, in the columns and past them, of which there are at most f
abbrev pub constant_shapes : ℕ → List ℕ → ℕ → List ColumnShape
constant_shapes f (h ∷ hs) k = record { own = h; constant = k % 2 } ∷ constant_shapes f hs (k / 2)
constant_shapes zero [] k = []
constant_shapes (suc f) [] zero = []
constant_shapes (suc f) [] (suc k) = record { own = 0; constant = suc k % 2 } ∷ constant_shapes f [] (suc k / 2)

-- the columns of the terms of one sign and a constant; there is at least one
abbrev pub sign_reached : Bool → List WeightedShape → ℕ → List Reached
sign_reached s ps k = reached (constant_shapes 32 (sign_counts s ps (0 ∷ [])) k) 0

-- Eq: a term in columns; no bit makes no column
abbrev pub push_some_counts : ℕ → ℕ → List ℕ → List ℕ
push_some_counts k zero hs = hs
push_some_counts k (suc n) hs = push_scaled_counts 12 k 0 (suc n) hs

-- the terms in columns
abbrev pub gather_counts : List WeightedShape → List ℕ → List ℕ
gather_counts [] hs = hs
gather_counts (p ∷ ps) hs = gather_counts ps (push_some_counts p.coef p.bits hs)

-- what the negated literals add too much
abbrev pub negated_bits : List WeightedShape → ℕ
negated_bits [] = 0
negated_bits (p ∷ ps) = cond p.negative (p.coef * (shl p.bits 1 - 1)) 0 + negated_bits ps

-- with the constant a - b: the columns and `sum_plus` have to reach `sum_target`; one of the two is 0
abbrev pub sum_plus : List WeightedShape → ℕ → ℕ → ℕ
sum_plus ps a b = a - (b + negated_bits ps)

abbrev pub sum_target : List WeightedShape → ℕ → ℕ → ℕ
sum_target ps a b = b + negated_bits ps - a

-- document 01's columns reached, of terms with the constant a - b
abbrev pub linear_reached : NormOp → List WeightedShape → ℕ → ℕ → List Reached
linear_reached eq ps a b = eq_reached (gather_counts ps []) (sum_plus ps a b) (sum_target ps a b) 0
linear_reached ne ps a b = sign_reached false ps a ++ sign_reached true ps b
linear_reached ge ps a b = sign_reached false ps a ++ sign_reached true ps b

-- Variables and clauses -----------------------------------------------------------------------------------------------

-- Ne and Ge: one variable more for each bit that both sums have
abbrev pub compare_vars : List Reached → List Reached → ℕ
compare_vars ps ns = adder_vars ps 0 + adder_vars ns 0 + min (length ps) (length ns)

-- the new variables
abbrev pub linear_vars : NormOp → List WeightedShape → ℕ → ℕ → ℕ
linear_vars eq ps a b = carry_vars (linear_reached eq ps a b)
linear_vars ne ps a b = compare_vars (sign_reached false ps a) (sign_reached true ps b)
linear_vars ge ps a b = compare_vars (sign_reached false ps a) (sign_reached true ps b)

-- a clause of d literals counts `weigh d`
module _ (weigh : ℕ → ℕ) where
  -- Ne of sums of p and n bits: a gate of four clauses for each bit that both have, then one clause
  abbrev pub ne_count : ℕ → ℕ → ℕ
  ne_count p n = min p n * (4 * weigh 3) + weigh (max p n)

  -- Ge past the first bits: a gate of six clauses for each bit that both have, then the last clauses
  abbrev pub ge_from_count : ℕ → ℕ → ℕ
  ge_from_count p n = min p n * (4 * weigh 3 + 2 * weigh 4) + (weigh (suc (p - n)) + (n - p) * weigh 1)

  -- Ge of sums of p and n bits
  abbrev pub ge_count : ℕ → ℕ → ℕ
  ge_count zero n = n * weigh 1
  ge_count (suc p) zero = weigh (suc p)
  ge_count (suc p) (suc n) = weigh 3 + 2 * weigh 2 + ge_from_count p n

  -- both sums, then the last clauses
  abbrev pub compare_count : (ℕ → ℕ → ℕ) → List Reached → List Reached → ℕ
  compare_count last ps ns = adder_count weigh ps + adder_count weigh ns + last (length ps) (length ns)

  -- all clauses
  abbrev pub linear_count : NormOp → List WeightedShape → ℕ → ℕ → ℕ
  linear_count eq ps a b = eq_count weigh (gather_counts ps []) (sum_plus ps a b) (sum_target ps a b)
  linear_count ne ps a b = compare_count ne_count (sign_reached false ps a) (sign_reached true ps b)
  linear_count ge ps a b = compare_count ge_count (sign_reached false ps a) (sign_reached true ps b)

-- the size of terms with the constant k
abbrev pub linear_size : NormOp → List WeightedShape → ℤ → Size
linear_size op ps k = size_by (linear_vars op ps (up k) (down k)) (λ weigh. linear_count weigh op ps (up k) (down k))

-- a sum's terms, from the settings' shapes
abbrev pub term_shapes : (ℕ → SettingShape) → List LinearTerm → List WeightedShape
term_shapes settings [] = []
term_shapes settings (t ∷ ts) = weighted_shape t.coef (settings t.var).bits ∷ term_shapes settings ts

-- the size of a sum of document 01
abbrev pub linear_log_size : (ℕ → SettingShape) → NormOp → ℤ → List LinearTerm → Size
linear_log_size settings op constant terms =
    linear_size op (term_shapes settings terms) (linear_sum (λ i. (settings i).offset) constant terms)

-- document 01's columns reached, of a sum
abbrev pub linear_log_reached : (ℕ → SettingShape) → NormOp → ℤ → List LinearTerm → List Reached
linear_log_reached settings op constant terms =
    let k = linear_sum (λ i. (settings i).offset) constant terms in
    linear_reached op (term_shapes settings terms) (up k) (down k)
