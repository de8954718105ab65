-- What the parts of these functions ask and answer: the codes of the bounds, the bits of two values.
use Rattle.std.specs.Prelude.{◌<◌, ◌≤◌, ℕ, ℤ, ◌≤ℤ◌, List, [], ◌∷◌, ◌≡◌}
use Rattle.arithmetic.specs.Bits.{bit_length}
use Rattle.arithmetic.specs.Integers.{down, up}
use Rattle.arithmetic.specs.Offset.{code, offset_of}
use Rattle.sat.specs.declared.Lit.{Lit}
use Rattle.clause_set.specs.Stores.{Wrote}
use Rattle.clause_set.specs.declared.ClauseSet.{ClauseSet}
use Rattle.log_encoding.specs.Binary.{binary_bits}
use Rattle.log_var.specs.Record.{pad}
use Rattle.log_var.specs.declared.CodeRange.{CodeRange}

-- the codes of values from low to high are small, and so are the values
pub record CodesFit (low high : ℤ) : Type 0 where
  pub low_above : offset_of low ≤ℤ low
  pub high_above : offset_of low ≤ℤ high
  pub low_up : up low < 4096
  pub high_up : up high < 4096
  pub offset_down : down (offset_of low) < 4096
  pub low_code : code (offset_of low) low ≤ code (offset_of low) high
  pub high_code : code (offset_of low) high < 4096
  pub bits : bit_length (code (offset_of low) high) ≤ 12

-- the offset, the lowest and the highest code, and how many bits they take
abbrev pub code_range : ℤ → ℤ → CodeRange
code_range low high =
    let offset = offset_of low in
    record { offset = offset; low = code offset low; high = code offset high; bits = bit_length (code offset high) }

-- one bit of two values: its literal r, and the set u, which is s with its clause
pub record BitAdded (f t c : ℕ) (s : ClauseSet) (r : Lit) (u : ClauseSet) : Type 0 where
  pub wrote : Wrote s (binary_bits 1 f t c s.vars).vars (binary_bits 1 f t c s.vars).clauses u
  pub lits_are : r.0 ∷ [] ≡ (binary_bits 1 f t c s.vars).bits

-- the same for n bits
pub record BitsAdded (n f t c : ℕ) (s : ClauseSet) (r : List Lit) (u : ClauseSet) : Type 0 where
  pub wrote : Wrote s (binary_bits n f t c s.vars).vars (binary_bits n f t c s.vars).clauses u
  pub lits_are : r ≡ pad (binary_bits n f t c s.vars).bits
