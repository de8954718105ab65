-- When a job is well formed (document 01: the job).
use Rattle.std.specs.Prelude.{◌*◌, ◌+◌, suc, zero, ℕ, eqb, leb, ltb, negsuc, pos, ℤ, get_or, Bool, ◌&&◌, cond, false, true, List}
use Rattle.std.specs.Int.Signed.{le_z}
use Rattle.sat.specs.LitArray.{lit}
use Rattle.arithmetic.specs.Bits.{bit_length}
use Rattle.arithmetic.specs.Offset.{code, offset_of}
use Rattle.sat.specs.declared.Lit.{Lit}
use Rattle.log_encoding.specs.LogEncoding.{LogEncoding as Setting}
use Rattle.log_var.specs.Record.{int_map_of, record_at}
use Rattle.log_var.specs.declared.LogEncoding.{LogEncoding}
use Rattle.encoder_env.specs.declared.EncoderEnv.{EncoderEnv}

-- the tests of whole numbers
unfoldable pub lez : ℤ → ℤ → Bool
lez a b = le_z a b

unfoldable pub eqz : ℤ → ℤ → Bool
eqz (pos a) (pos b) = eqb a b
eqz (negsuc a) (negsuc b) = eqb a b
eqz (pos a) (negsuc b) = false
eqz (negsuc a) (pos b) = false

-- the test holds at each number below n
unfoldable pub all_below : ℕ → (ℕ → Bool) → Bool
all_below zero f = true
all_below (suc n) f = all_below n f && f n

-- a value: −4,095 to 4,095
abbrev pub in_range : ℤ → Bool
in_range z = lez (negsuc 4094) z && lez z (pos 4095)

-- high − offset at most 4,095
abbrev pub code_fits : ℤ → ℤ → Bool
code_fits low high = leb (code (offset_of low) high) 4095

-- bounds of a setting's values
unfoldable pub bounds_hold : ℤ → ℤ → Bool
bounds_hold low high = in_range low && in_range high && lez low high && code_fits low high

-- either store has at most 16,777,216 entries
unfoldable pub stores_within : ℕ → ℕ → Bool
stores_within lits ends = leb lits 16777216 && leb ends 16777216

-- a literal in use is below 2 × variables, an unused place is 0
abbrev pub lit_fits : ℕ → ℕ → List Lit → ℕ → Bool
lit_fits variables len lits i = cond (ltb i len) (ltb (get_or lits i (lit 0)).0 (2 * variables)) (eqb (get_or lits i (lit 0)).0 0)

abbrev pub lits_fit : ℕ → ℕ → List Lit → Bool
lits_fit variables len lits = all_below 12 (lit_fits variables len lits)

-- a record in use
unfoldable pub encoding_holds : ℕ → LogEncoding → Bool
encoding_holds variables e =
    bounds_hold e.low e.high
    && eqz e.offset (offset_of e.low)
    && eqb e.len (bit_length (code (offset_of e.low) e.high))
    && lits_fit variables e.len e.lits

-- a spare record: all 0
unfoldable pub is_spare : LogEncoding → Bool
is_spare e = eqz e.low (pos 0) && eqz e.high (pos 0) && eqz e.offset (pos 0) && eqb e.len 0 && lits_fit 0 0 e.lits

-- record i of the job, which has 32
abbrev pub encoding_at : EncoderEnv → ℕ → LogEncoding
encoding_at env i = record_at env.encodings i

-- and the setting that it is
abbrev pub int_map : EncoderEnv → ℕ → Setting
int_map env i = int_map_of env.encodings i

unfoldable pub record_holds : EncoderEnv → ℕ → Bool
record_holds env i = cond (ltb i env.count) (encoding_holds env.variables (encoding_at env i)) (is_spare (encoding_at env i))

-- lits and ends are the lengths of the two stores, whose bound is part of every call's first check
unfoldable pub well_formed : EncoderEnv → ℕ → ℕ → Bool
well_formed env lits ends =
    stores_within lits ends
    && leb env.switches 64
    && leb env.variables 65535
    && leb env.switches env.variables
    && leb env.count 32
    && leb env.literals lits
    && leb (env.clauses + 1) ends
    && all_below 32 (record_holds env)
