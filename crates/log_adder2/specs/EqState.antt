-- The state of the adder of Eq as the code holds it, and what is still to come.
use Rattle.std.specs.Prelude.{ℕ, zero, suc, ◌+◌, ◌-◌, ◌/◌, ◌%◌, ◌≤◌, ◌<◌, ◌≡◌, Bool, true, false, List, [], ◌∷◌, ◌++◌, get_or, length}
use Rattle.std.proofs.Math.Option.{Option, none, some}
use Rattle.sat.specs.declared.Lit.{Lit}
use Rattle.clause_set.specs.declared.ClauseSet.{ClauseSet}
use Rattle.log_adder.specs.declared.VarRange.{VarRange}
use Rattle.log_adder.specs.declared.ColumnInfo.{ColumnInfo}
use Rattle.log_adder.specs.declared.Columns.{Columns}
use Rattle.log_adder2.specs.declared.Column.{Column}
use Rattle.log_adder2.specs.declared.Column.TheVariants.{Carry, Dead}
use Rattle.log_adder2.specs.declared.EqInput.{EqInput}
use Rattle.log_adder2.specs.declared.EqState.{EqState}
use Rattle.sat.specs.Clause.{Clauses}
use Rattle.clause_set.specs.Stores.{Wrote}
use Rattle.log_adder.specs.AdderState.{own_at}
use Rattle.log_adder.specs.ColumnInfo.{AllLow, own_lits, range_lits}
use Rattle.sat.specs.Fresh.{fresh}
use Rattle.log_encoding.specs.Adder2.{Adder2Output, EqColumn, LastColumn, NewCarry, adder2, column_answer, eq_column, ordering}

-- a column's clauses: x + own + carry = 2 next + y
abbrev pub eq_column_clauses : ColumnInfo → ℕ → ℕ → Clauses
eq_column_clauses c x y = eq_column (own_lits c) (range_lits c.carry) x (range_lits c.next) y

-- what a column answers: its carry's literals and the variable count after them; a dead end has none
abbrev pub carry_of : Column → Option NewCarry
carry_of (Carry first n) = some record { lits = fresh n first.0; vars = first.0 + n }
carry_of Dead = none

-- The columns of a goal: with x they are to add up to y --------------------------------------------------------------

abbrev pub columns_at : ℕ → ℕ → List (List Lit) → List ℕ → ℕ → ℕ → List EqColumn
columns_at zero i cols counts x y = []
columns_at (suc w) i cols counts x y = record { own = own_at cols counts i; target = (x + y) % 2 } ∷ columns_at w (i + 1) cols counts ((x + 1) / 2) (y / 2)

abbrev pub last_at : ℕ → ℕ → List (List Lit) → List ℕ → ℕ → ℕ → LastColumn
last_at zero i cols counts x y = record { own = own_at cols counts i; plus = x; target = y }
last_at (suc w) i cols counts x y = last_at w (i + 1) cols counts ((x + 1) / 2) (y / 2)

-- w columns from the i-th on, and the last after them, with a carry from a variable on
abbrev pub output_at : ℕ → ℕ → List (List Lit) → List ℕ → ℕ → ℕ → VarRange → ℕ → Adder2Output
output_at w i cols counts x y p v = adder2 (columns_at w i cols counts x y) (last_at w i cols counts x y) (range_lits p) v

-- Bounds -------------------------------------------------------------------------------------------------------------

-- each of the 32 columns has room for 12 literals
abbrev pub Wide : List (List Lit) → Type 0
Wide cols = (i : ℕ) → i < 32 → length (get_or cols i []) ≡ 12

-- what the columns ask
pub record EqFits (cols : Columns) (g : EqInput) : Type 0 where
  pub some : 1 ≤ g.width
  pub width : g.width ≤ 26
  pub x : g.x ≤ 1073741824
  pub y : g.y ≤ 1073741824
  pub vars : g.vars ≤ 1048576
  pub own : (i : ℕ) → AllLow (get_or cols.lits i [])
  pub wide : Wide cols.lits

abbrev pub eq_input : ℕ → ℕ → ℕ → ℕ → EqInput
eq_input width x y vars = record { width = width; x = x; y = y; vars = vars }

-- The two passes apart -----------------------------------------------------------------------------------------------

-- the ordering clauses, the variables, and the carry into the last column, or a dead end before it: they follow from the heights alone
pub record Carries : Type 0 where
  pub sent : Clauses
  pub vars : ℕ
  pub last : Option NewCarry

-- whether a column was a dead end
abbrev pub is_dead : Option NewCarry → Bool
is_dead none = true
is_dead (some next) = false

-- ordering clauses before those of the columns after
abbrev pub carries_then : Clauses → Carries → Carries
carries_then cs r = record { sent = cs ++ r.sent; vars = r.vars; last = r.last }

-- with its carry a column goes on to the next; a dead end leaves early
abbrev pub carries_unless_dead : Option NewCarry → ℕ → (NewCarry → Carries) → Carries
carries_unless_dead none v more = record { sent = []; vars = v; last = none }
carries_unless_dead (some next) v more = carries_then (ordering next.lits) (more next)

-- w columns from the i-th on, with the carry into the first of them
abbrev pub carries_from : ℕ → ℕ → List ℕ → ℕ → ℕ → NewCarry → Carries
carries_from zero i counts x y p = record { sent = []; vars = p.vars; last = some p }
carries_from (suc w) i counts x y p =
    carries_unless_dead (column_answer (get_or counts i 0 + length p.lits) ((x + y) % 2) p.vars) p.vars
    (λ next. carries_from w (i + 1) counts ((x + 1) / 2) (y / 2) next)

-- the columns' clauses, where none is a dead end
abbrev pub columns_clauses : ℕ → ℕ → List (List Lit) → List ℕ → ℕ → ℕ → VarRange → ℕ → Clauses
columns_clauses zero i cols counts x y p v = eq_column (own_at cols counts i) (range_lits p) x [] y
columns_clauses (suc w) i cols counts x y p v =
    let n = (get_or counts i 0 + p.count - (x + y) % 2) / 2 in
    eq_column (own_at cols counts i) (range_lits p) 0 (fresh n v) ((x + y) % 2)
    ++ columns_clauses w (i + 1) cols counts ((x + 1) / 2) (y / 2) (record { first = record { 0 = v }; count = n }) (v + n)

-- no carry comes in
abbrev pub no_vars : VarRange
no_vars = record { first = record { 0 = 0 }; count = 0 }

-- the carries of all columns
abbrev pub carries : List ℕ → EqInput → Carries
carries counts g = carries_from (g.width - 1) 0 counts g.x g.y (record { lits = []; vars = g.vars })

-- the definition's output for these literals and counts
abbrev pub output_of : List (List Lit) → List ℕ → EqInput → Adder2Output
output_of cols counts g = output_at (g.width - 1) 0 cols counts g.x g.y no_vars g.vars

abbrev pub eq_output : Columns → EqInput → Adder2Output
eq_output cols = output_of cols.lits cols.counts

-- the first pass: the definition's ordering clauses and variables, whatever literals the columns hold, and the carry into the last column
pub record CarriesOrdered (s : ClauseSet) (counts : List ℕ) (g : EqInput) (t : ClauseSet) (r : Column) : Type 0 where
  pub wrote : (cols : List (List Lit)) → Wide cols → Wrote s (output_of cols counts g).vars (output_of cols counts g).sent t
  pub carry : carry_of r ≡ (carries counts g).last
  pub lits : t.used.lits ≤ s.used.lits + 312
  pub clauses : t.used.clauses ≤ s.used.clauses + 156

-- The second pass ----------------------------------------------------------------------------------------------------

-- the state after a column but the last
abbrev pub target_bit : EqState → ℕ
target_bit s = (s.x + s.y) % 2

abbrev pub eq_carry_count : ℕ → EqState → ℕ
eq_carry_count h s = (h + s.carry.count - target_bit s) / 2

abbrev pub next_state : ℕ → EqState → EqState
next_state h s =
    record { x = (s.x + 1) / 2; y = s.y / 2; vars = s.vars + eq_carry_count h s; carry = record { first = record { 0 = s.vars }; count = eq_carry_count h s } }

-- a column within bounds, with the carry into it
pub record EqColumnReady (own : List Lit) (carry : VarRange) (s : EqState) : Type 0 where
  pub high : length own + carry.count ≤ 12
  pub x : s.x ≤ 1073741824
  pub y : s.y ≤ 1073741824
  pub vars : s.vars < 536870912
  pub first : carry.first.0 < 536870912
  pub low : AllLow own
