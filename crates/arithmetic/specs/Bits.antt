-- Bits of natural numbers.
use Rattle.std.specs.Prelude.{◌%◌, ◌*◌, ◌/◌, suc, zero, ℕ, eqb, Bool}

-- 2 ^ o times x, in a form that is linear in x
abbrev pub shl : ℕ → ℕ → ℕ
shl zero x = x
shl (suc o) x = 2 * shl o x

abbrev pub odd : ℕ → Bool
odd k = eqb (k % 2) 1

-- bit i of k
abbrev pub testbit : ℕ → ℕ → Bool
testbit k zero = odd k
testbit k (suc i) = testbit (k / 2) i

-- the bit length of k, counted up to f
abbrev pub bit_length_within : ℕ → ℕ → ℕ
bit_length_within zero k = 0
bit_length_within (suc f) zero = 0
bit_length_within (suc f) (suc k) = suc (bit_length_within f (suc k / 2))

-- the bit length of a number below 2 ^ 32
abbrev pub bit_length : ℕ → ℕ
bit_length k = bit_length_within 32 k
