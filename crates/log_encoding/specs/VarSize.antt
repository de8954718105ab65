-- The size of a setting's clauses, from its codes and bit count alone.
use Rattle.std.specs.Prelude.{◌*◌, ◌+◌, ◌-◌, ◌/◌, suc, zero, ℕ, ℤ, length, cond, List, [], ◌∷◌, map}
use Rattle.std.specs.Bool.{beq}
use Rattle.arithmetic.specs.Bits.{bit_length, odd}
use Rattle.arithmetic.specs.Offset.{code, offset_of}
use Rattle.sat.specs.Size.{Size, size_by}
use Rattle.norm_csp.specs.Domain.{IntVarRepresentation, binary, last_from, list, range}
use Rattle.log_encoding.specs.LogEncoding.{LogEncoding}

-- what a sum's or a product's size takes from document 01's setting record
pub record SettingShape : Type 0 where
  pub bits : ℕ
  pub offset : ℤ

-- the numbers of a setting record
abbrev pub setting_shape : LogEncoding → SettingShape
setting_shape e = record { bits = length e.lits; offset = e.offset }

-- the missing codes between k and the codes after it, rising
abbrev pub missing_codes : ℕ → List ℕ → ℕ
missing_codes k [] = 0
missing_codes k (m ∷ ms) = m - suc k + missing_codes m ms

-- two values: a new variable for each bit, of n, that is equal in both codes
abbrev pub binary_vars : ℕ → ℕ → ℕ → ℕ
binary_vars zero f t = 0
binary_vars (suc n) f t = cond (beq (odd f) (odd t)) 1 0 + binary_vars n (f / 2) (t / 2)

-- a clause of d literals counts `weigh d`
module _ (weigh : ℕ → ℕ) where
  -- each set bit of k, of n bits: a clause over it and those above it
  abbrev pub at_least_count : ℕ → ℕ → ℕ
  at_least_count zero k = 0
  at_least_count (suc n) k = cond (odd k) (weigh (suc n)) 0 + at_least_count n (k / 2)

  -- each clear bit of k
  abbrev pub at_most_count : ℕ → ℕ → ℕ
  at_most_count zero k = 0
  at_most_count (suc n) k = cond (odd k) 0 (weigh (suc n)) + at_most_count n (k / 2)

  -- the codes low, ms.. up to high
  abbrev pub domain_count : ℕ → ℕ → List ℕ → ℕ → ℕ
  domain_count bits low ms high = at_least_count bits low + (at_most_count bits high + missing_codes low ms * weigh bits)

  -- each of these variables has a one-literal clause
  abbrev pub binary_count : ℕ → ℕ → ℕ → ℕ
  binary_count bits f t = binary_vars bits f t * weigh 1

-- the size of a range or a list
abbrev pub domain_size : ℤ → List ℤ → ℤ → Size
domain_size low ks high =
    let offset = offset_of low in
    let bits = bit_length (code offset high) in
    size_by bits (λ weigh. domain_count weigh bits (code offset low) (map (code offset) ks) (code offset high))

-- the size of two values
abbrev pub binary_size : ℤ → ℤ → Size
binary_size f t =
    let offset = offset_of f in
    let bits = bit_length (code offset t) in
    size_by (binary_vars bits (code offset f) (code offset t)) (λ weigh. binary_count weigh bits (code offset f) (code offset t))

-- the size of a setting; that of two values does not depend on the switch literal
abbrev pub var_size : IntVarRepresentation → Size
var_size (range low high) = domain_size low [] high
var_size (list []) = record { vars = 0; clauses = 0; literals = 0 }
var_size (list (k ∷ ks)) = domain_size k ks (last_from k ks)
var_size (binary c f t) = binary_size f t
