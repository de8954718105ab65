-- The adder's state as the code holds it, and what the adder leaves.
use Rattle.std.specs.Prelude.{ℕ, zero, suc, ◌+◌, ◌*◌, ◌/◌, ◌%◌, ◌^◌, ◌≤◌, ◌<◌, ◌≡◌, List, [], ◌∷◌, ◌++◌, Option, None, Some, get_or, length, map}
use Rattle.sat.specs.declared.Lit.{Lit}
use Rattle.sat.specs.Encoded.{EncodedBits}
use Rattle.sat.specs.LitArray.{first_lits, lit, num}
use Rattle.clause_set.specs.declared.ClauseSet.{ClauseSet}
use Rattle.clause_set.specs.Stores.{Wrote}
use Rattle.log_encoding.specs.Adder.{AdderColumn, adder}
use Rattle.log_encoding.specs.Column.{column}
use Rattle.log_linear.specs.declared.Bits.{Bits}
use Rattle.log_linear.specs.Added.{bits_of}
use Rattle.log_adder.specs.declared.VarRange.{VarRange}
use Rattle.log_adder.specs.declared.AdderState.{AdderState}
use Rattle.log_adder.specs.declared.Columns.{Columns}
use Rattle.log_adder.specs.ColumnInfo.{AllLow, range_lits}

-- The columns as the code holds them ---------------------------------------------------------------------------------

-- the literals of column i
abbrev pub own_at : List (List Lit) → List ℕ → ℕ → List ℕ
own_at cols counts i = first_lits (get_or cols i []) (get_or counts i 0)

-- w columns from the i-th on, with the bits of k
abbrev pub input_columns : ℕ → ℕ → List (List Lit) → List ℕ → ℕ → List AdderColumn
input_columns zero i cols counts k = []
input_columns (suc w) i cols counts k =
    record { own = own_at cols counts i; constant = k % 2 } ∷ input_columns w (i + 1) cols counts (k / 2)

-- every count is a number below 2 ^ 31
abbrev pub CountsLow : List ℕ → Type 0
CountsLow counts = (i : ℕ) → get_or counts i 0 < 2 ^ 31

-- One column ---------------------------------------------------------------------------------------------------------

-- its result, and the variable count after it
abbrev pub result_lit : Option Lit → ℕ → Lit
result_lit None v = lit (2 * v)
result_lit (Some l) v = l

abbrev pub result_count : Option Lit → ℕ → ℕ
result_count None v = suc v
result_count (Some l) v = v

-- a state within bounds: they grow with the columns passed
pub record InBounds (t : ClauseSet) (s : AdderState) : Type 0 where
  pub long : length s.bits.lits ≡ 32
  pub vars : t.vars ≤ 1048576 + 7 * s.bits.len
  pub carry : s.carry.first.0 ≤ t.vars
  pub few : s.carry.count ≤ 6
  pub lits : t.base + t.used.lits ≤ 1073741824 + 15728640 * s.bits.len
  pub clauses : t.used.clauses ≤ 1073741824 + 1048576 * s.bits.len

module _ (own : List Lit) (bit : ℕ) (given : Option Lit) where
  -- a column within bounds, with the carry that comes in
  pub record ColumnReady (s : AdderState) : Type 0 where
    pub high : length own + s.carry.count ≤ 12
    pub bit_low : bit ≤ 1
    pub result : (result_lit given 0).0 < 2 ^ 31
    pub own_low : AllLow own
    pub room : s.bits.len < 32

  -- its new carry
  abbrev pub carry_count : AdderState → ℕ
  carry_count s = (bit + length own + s.carry.count) / 2

  abbrev pub next_carry : ClauseSet → AdderState → VarRange
  next_carry t s = record { first = record { 0 = t.vars }; count = carry_count s }

  -- its result, whose variable, if it is new, stands behind those of the carry
  abbrev pub column_result : ClauseSet → AdderState → Lit
  column_result t s = result_lit given (t.vars + carry_count s)

  -- what a column leaves
  pub record ColumnAdded (t : ClauseSet) (s : AdderState) (u : ClauseSet) (r : AdderState) : Type 0 where
    pub wrote : Wrote t (result_count given (t.vars + carry_count s))
        (column (map num own) (range_lits s.carry) bit (range_lits (next_carry t s)) (column_result t s).0) u
    pub bits : bits_of r.bits ≡ bits_of s.bits ++ ((column_result t s).0 ∷ [])
    pub carry : r.carry ≡ next_carry t s
    pub len : r.bits.len ≡ s.bits.len + 1
    pub steady : InBounds u r

-- The adder ----------------------------------------------------------------------------------------------------------

-- what the columns ask
pub record AdderFits (cols : Columns) (given : List Lit) (width : ℕ) : Type 0 where
  pub few : width ≤ 26
  pub fewer : length given ≤ width
  pub own : (i : ℕ) → AllLow (get_or cols.lits i [])
  pub results : AllLow given

-- the definition's clauses, bits and variables for these columns
abbrev pub adder_output : Columns → List Lit → ℕ → ℕ → ℕ → EncodedBits
adder_output cols given width constant v = adder (input_columns width 0 cols.lits cols.counts constant) [] (map num given) v

-- the clauses and variables of a sum, and the literals of its bits: how many variables, literals and clauses there can be then
pub record AdderAdded (s : ClauseSet) (sum : EncodedBits) (t : ClauseSet) (r : Bits) : Type 0 where
  pub wrote : Wrote s sum.vars sum.clauses t
  pub bits_are : bits_of r ≡ sum.bits
  pub len : r.len ≤ 32
  pub vars : t.vars ≤ 1048576 + 7 * r.len
  pub lits : t.base + t.used.lits ≤ 1073741824 + 15728640 * r.len
  pub clauses : t.used.clauses ≤ 1073741824 + 1048576 * r.len
