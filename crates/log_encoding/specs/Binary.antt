-- The literals and clauses of two values on a switch literal c.
use Rattle.std.specs.Prelude.{◌*◌, ◌/◌, suc, zero, ℕ, Bool, false, true, [], ◌∷◌}
use Rattle.arithmetic.specs.Bits.{odd}
use Rattle.sat.specs.Encoded.{EncodedBits}
use Rattle.sat.specs.Lit.{neg}

-- one bit, where both codes have the same: a new variable, fixed by the one-literal clause l
abbrev pub fixed : ℕ → ℕ → (ℕ → EncodedBits) → EncodedBits
fixed l v more = record { clauses = (l ∷ []) ∷ (more (suc v)).clauses; bits = 2 * v ∷ (more (suc v)).bits; vars = (more (suc v)).vars }

-- one bit, where the codes differ: the literal l, which is c or its negation
abbrev pub switched : ℕ → ℕ → (ℕ → EncodedBits) → EncodedBits
switched l v more = record { clauses = (more v).clauses; bits = l ∷ (more v).bits; vars = (more v).vars }

-- by the bits of f and t
abbrev pub binary_bit : Bool → Bool → ℕ → ℕ → (ℕ → EncodedBits) → EncodedBits
binary_bit false false c v more = fixed (neg (2 * v)) v more
binary_bit false true c v more = switched c v more
binary_bit true false c v more = switched (neg c) v more
binary_bit true true c v more = fixed (2 * v) v more

-- n bits that spell code t where c holds, else code f, with new variables from v on
abbrev pub binary_bits : ℕ → ℕ → ℕ → ℕ → ℕ → EncodedBits
binary_bits zero f t c v = record { clauses = []; bits = []; vars = v }
binary_bits (suc n) f t c v = binary_bit (odd f) (odd t) c v (λ w. binary_bits n (f / 2) (t / 2) c w)
