-- The setting record as the code holds it, and the value that bytes read it as.
use Rattle.std.specs.Prelude.{◌*◌, ◌+◌, ◌-◌, ℕ, pos, ℤ, get_or, length, replicate, cond, List, [], ◌++◌, ◌∷◌, map}
use Rattle.arithmetic.specs.Offset.{value}
use Rattle.sat.specs.declared.Lit.{Lit}
use Rattle.clause_set.specs.Bytes.{lit_holds}
use Rattle.sat.specs.LitArray.{first_lits, lit}
use Rattle.log_encoding.specs.LogEncoding.{LogEncoding}
use Rattle.log_var.specs.declared.LogEncoding.{LogEncoding as Encoding}

-- literals in the twelve places of a record; unused places are 0
unfoldable pub pad : List ℕ → List Lit
pad ls = map lit ls ++ replicate (12 - length ls) (lit 0)

-- the record as the code holds it
abbrev pub record_of : LogEncoding → Encoding
record_of e = record { lits = pad e.lits; len = length e.lits; low = e.low; high = e.high; offset = e.offset }

-- the literals in use
abbrev pub lits_of : Encoding → List ℕ
lits_of e = first_lits e.lits e.len

-- the setting that a record is
abbrev pub encoding_of : Encoding → LogEncoding
encoding_of e = record { lits = lits_of e; low = e.low; high = e.high; offset = e.offset }

-- record i of an array of records, and the setting that it is
abbrev pub record_at : List Encoding → ℕ → Encoding
record_at es i = get_or es i (record { lits = []; len = 0; low = pos 0; high = pos 0; offset = pos 0 })

abbrev pub int_map_of : List Encoding → ℕ → LogEncoding
int_map_of es i = encoding_of (record_at es i)

-- the sum of 2 ^ i over those literals that hold under an assignment of bytes
abbrev pub code_of_bytes : List ℕ → List ℕ → ℕ
code_of_bytes bytes [] = 0
code_of_bytes bytes (l ∷ ls) = cond (lit_holds bytes l) 1 0 + 2 * code_of_bytes bytes ls

-- the value that bytes read as
abbrev pub read_bytes : List ℕ → Encoding → ℤ
read_bytes bytes e = value e.offset (code_of_bytes bytes (lits_of e))
