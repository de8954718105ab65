-- The offset of a setting, the code of a value and the value of a code.
use Rattle.std.specs.Prelude.{ℕ, ◌+ℤ◌, ◌-ℤ◌, negsuc, pos, ℤ}
use Rattle.arithmetic.specs.Integers.{up}

-- the offset of a setting, from its low: low if low is negative, else 0
abbrev pub offset_of : ℤ → ℤ
offset_of (pos n) = pos 0
offset_of (negsuc n) = negsuc n

-- the code of a value: the value less the offset, which is not above it
abbrev pub code : ℤ → ℤ → ℕ
code offset z = up (z -ℤ offset)

-- the value of a code: the code plus the offset
abbrev pub value : ℤ → ℕ → ℤ
value offset k = pos k +ℤ offset
