-- A column as the code holds it.
use Rattle.std.specs.Prelude.{ℕ, ◌+◌, ◌*◌, ◌^◌, ◌≤◌, ◌<◌, Bool, false, true, List, [], ◌∷◌, ◌++◌, map, get_or, length}
use Rattle.sat.specs.LitArray.{lit, num}
use Rattle.sat.specs.declared.Lit.{Lit}
use Rattle.mixed.specs.declared.LinearInfo.{LinearInfo}
use Rattle.clause_set.specs.declared.Counts.{Counts}
use Rattle.log_adder.specs.declared.VarRange.{VarRange}
use Rattle.log_adder.specs.declared.ColumnInfo.{ColumnInfo}
use Rattle.sat.specs.Clause.{Clauses}
use Rattle.log_encoding.specs.Column.{column}
use Rattle.sat.specs.Fresh.{fresh}

-- every literal of the array is a number below 2 ^ 31
abbrev pub AllLow : List Lit → Type 0
AllLow ls = (k : ℕ) → (get_or ls k (lit 0)).0 < 2 ^ 31

-- consecutive variables, as literals
abbrev pub range_lits : VarRange → List ℕ
range_lits s = fresh s.count s.first.0

abbrev pub own_lits : ColumnInfo → List ℕ
own_lits c = map num c.own.now

-- the terms of a column as the code holds them
abbrev pub lit_info : Bool → Lit → LinearInfo
lit_info s l = record { weight = 1; falling = s; first = l; count = 1 }

abbrev pub range_info : ℕ → Bool → VarRange → LinearInfo
range_info w s p = record { weight = w; falling = s; first = lit (2 * p.first.0); count = p.count }

-- own + carry - 2 next
abbrev pub eq_infos : ColumnInfo → List LinearInfo
eq_infos c = map (lit_info false) c.own.now ++ (range_info 1 false c.carry ∷ range_info 2 true c.next ∷ [])

-- own + carry - 2 next - result
abbrev pub column_infos : ColumnInfo → List LinearInfo
column_infos c = eq_infos c ++ (lit_info true c.result ∷ [])

-- a column within bounds
pub record ColumnSized (c : ColumnInfo) : Type 0 where
  pub high : length c.own.now + c.carry.count ≤ 12
  pub next : c.next.count ≤ 6
  pub bit : c.bit ≤ 1
  pub first : c.carry.first.0 < 2 ^ 30
  pub second : c.next.first.0 < 2 ^ 30
  pub result : c.result.0 < 2 ^ 31
  pub own : AllLow c.own.now

-- the clauses of a column
abbrev pub column_clauses : ColumnInfo → Clauses
column_clauses c = column (own_lits c) (range_lits c.carry) c.bit (range_lits c.next) c.result.0

-- nothing is in use of a part of the stores
abbrev pub none : Counts
none = record { clauses = 0; lits = 0 }
