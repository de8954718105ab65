-- What the code of products asks and leaves.
use Rattle.std.specs.Prelude.{◌+◌, ◌^◌, ◌≤◌, suc, zero, ℕ, false, length, List, [], ◌≡◌}
use Rattle.sat.specs.Encoded.{EncodedBits}
use Rattle.sat.specs.Fresh.{fresh}
use Rattle.sat.specs.declared.Lit.{Lit}
use Rattle.clause_set.specs.Stores.{Wrote}
use Rattle.clause_set.specs.declared.ClauseSet.{ClauseSet}
use Rattle.log_adder.specs.declared.Columns.{Columns}
use Rattle.log_adder.specs.ColumnInfo.{AllLow}
use Rattle.log_encoding.specs.Gather.{Grid, push_value}
use Rattle.log_encoding.specs.AdderSize.{too_tall}
use Rattle.log_gather.specs.Arrays.{Arrays, Few, Holds}
use Rattle.log_linear.specs.Added.{bits_of}
use Rattle.log_linear.specs.declared.Bits.{Bits}
use Rattle.log_encoding.specs.Multiply.{rows, rows_vars}
use Rattle.log_encoding.specs.MulSize.{multiplier_reached}

-- The rows -----------------------------------------------------------------------------------------------------------

-- the clauses and the variables of the rows; each gate has three clauses of seven literals
pub record RowsWritten (s : ClauseSet) (xs ys : List ℕ) (t : ClauseSet) : Type 0 where
  pub wrote : Wrote s (rows_vars xs ys s.vars) (rows xs ys s.vars) t
  pub few_vars : t.vars ≤ s.vars + 144
  pub few_lits : t.used.lits ≤ s.used.lits + 1008
  pub few_clauses : t.used.clauses ≤ s.used.clauses + 432

-- `rows_grid` from bit counts: x rows of y literals, the first from column o on
abbrev pub rows_of : ℕ → ℕ → ℕ → ℕ → Grid → Grid
rows_of zero y o v grid = grid
rows_of (suc x) y o v grid = rows_of x y (suc o) (v + y) (push_value o (fresh y v) grid)

-- the arrays hold the rows of x by y bits
pub record RowsGathered (x y v : ℕ) (c : Columns) : Type 0 where
  pub arrays : Arrays c
  pub few : Few 144 c
  pub holds : Holds c (rows_of x y 0 v [])

-- The multiplier -----------------------------------------------------------------------------------------------------

-- bit counts of settings, counts with room, and no column above 12
pub record MultiplierReady (x y m : List Lit) (s : ClauseSet) : Type 0 where
  pub x_len : length x ≤ 12
  pub y_len : length y ≤ 12
  pub m_len : length m ≤ 12
  pub low : AllLow m
  pub vars : s.vars ≤ 1000000
  pub lits : s.base + s.used.lits ≤ 2 ^ 29
  pub clauses : s.used.clauses ≤ 2 ^ 29
  pub heights : too_tall (multiplier_reached (length x) (length y) (length m)) ≡ false

-- the clauses, bits and variables of the definition
pub record MultiplierAdded (s : ClauseSet) (mul : EncodedBits) (t : ClauseSet) (r : Bits) : Type 0 where
  pub wrote : Wrote s mul.vars mul.clauses t
  pub bits : bits_of r ≡ mul.bits
  pub len : r.len ≤ 32
  pub few_lits : t.base + t.used.lits ≤ 1577058304
  pub few_clauses : t.used.clauses ≤ 1577058304
