-- Whole numbers, after `CheckedInt` of arithmetic.rs: their two parts, halves and shifts.
use Rattle.std.specs.Prelude.{◌%◌, ◌^◌, suc, ℕ, negsuc, neg_ℤ, pos, ℤ}
use Rattle.std.specs.Int.Signed.{shr_z}

-- a whole number as the difference of two naturals, one of which is 0
abbrev pub up : ℤ → ℕ
up (pos n) = n
up (negsuc n) = 0

abbrev pub down : ℤ → ℕ
down (pos n) = 0
down (negsuc n) = suc n

-- `z >> i`, which keeps the sign
abbrev pub shift : ℤ → ℕ → ℤ
shift z i = shr_z z (2 ^ i)

-- `div_floor` by 2: rounded down, negatives too
abbrev pub div_floor : ℤ → ℤ
div_floor z = shr_z z 2

-- `div_ceil` by 2: rounded up, negatives too
abbrev pub div_ceil : ℤ → ℤ
div_ceil z = neg_ℤ (div_floor (neg_ℤ z))

-- `z & 1`, in two's complement
abbrev pub low_bit : ℤ → ℤ
low_bit (pos n) = pos (n % 2)
low_bit (negsuc n) = pos (suc n % 2)
