-- Document 01's bounds of values and its well-formed job, as inequalities of whole numbers; proofs/Bounds has that the tests say the same.
use Rattle.std.specs.Prelude.{◌*◌, ◌+◌, ◌<◌, ◌≤◌, ℕ, ◌-ℤ◌, negsuc, pos, ℤ, get_or, ◌≤ℤ◌, ◌≡◌}
use Rattle.sat.specs.LitArray.{lit}
use Rattle.arithmetic.specs.Bits.{bit_length}
use Rattle.arithmetic.specs.Offset.{code, offset_of}
use Rattle.log_var.specs.declared.LogEncoding.{LogEncoding}
use Rattle.encoder_env.specs.declared.EncoderEnv.{EncoderEnv}
use Rattle.encoder_env.specs.WellFormed.{encoding_at}

-- values −4,095 to 4,095
abbrev pub InRange : ℤ → Type 0
InRange z = (negsuc 4094 ≤ℤ z) × (z ≤ℤ pos 4095)

-- high − offset at most 4,095
abbrev pub CodeFits : ℤ → ℤ → Type 0
CodeFits low high = (high -ℤ offset_of low) ≤ℤ pos 4095

-- bounds of a setting's low and high
pub record ValueBounds (low high : ℤ) : Type 0 where
  pub low_in : InRange low
  pub high_in : InRange high
  pub ordered : low ≤ℤ high
  pub code_in : CodeFits low high

-- every setting as document 01's record has it, with literals below 2 × variables; unused places are 0
pub record InUse (variables : ℕ) (e : LogEncoding) : Type 0 where
  pub values : ValueBounds e.low e.high
  pub offset_is : e.offset ≡ offset_of e.low
  pub bits_are : e.len ≡ bit_length (code (offset_of e.low) e.high)
  pub lits_below : (i : ℕ) → i < e.len → (get_or e.lits i (lit 0)).0 < 2 * variables
  pub unused : (i : ℕ) → e.len ≤ i → i < 12 → (get_or e.lits i (lit 0)).0 ≡ 0

-- spare records all 0
pub record Spare (e : LogEncoding) : Type 0 where
  pub low_is : e.low ≡ pos 0
  pub high_is : e.high ≡ pos 0
  pub offset_is : e.offset ≡ pos 0
  pub bits_are : e.len ≡ 0
  pub unused : (i : ℕ) → i < 12 → (get_or e.lits i (lit 0)).0 ≡ 0

-- counts within bounds, stores of that many literals and ends within theirs; every setting in use, and the spare records
pub record WellFormed (env : EncoderEnv) (lits ends : ℕ) : Type 0 where
  pub lits_max : lits ≤ 16777216
  pub ends_max : ends ≤ 16777216
  pub switches_max : env.switches ≤ 64
  pub variables_max : env.variables ≤ 65535
  pub switches_in : env.switches ≤ env.variables
  pub count_max : env.count ≤ 32
  pub literals_in : env.literals ≤ lits
  pub clauses_in : env.clauses + 1 ≤ ends
  pub in_use : (i : ℕ) → i < env.count → InUse env.variables (encoding_at env i)
  pub spare : (i : ℕ) → env.count ≤ i → i < 32 → Spare (encoding_at env i)
