-- The columns of Eq counted one by one, as the code holds the counts.
use Rattle.std.specs.Prelude.{◌%◌, ◌*◌, ◌+◌, ◌-◌, ◌/◌, ◌≤◌, ℕ, ◌≡◌}
use Rattle.clause_set.specs.declared.Counts.{Counts}
use Rattle.log_encoding.specs.AdderSize.{eq_column_count}
use Rattle.eq_size.specs.declared.CountedColumns.{CountedColumns}

-- within the bounds of all columns of a rule
pub record Few (u : Counts) : Type 0 where
  pub clauses : u.clauses ≤ 33554432
  pub lits : u.lits ≤ 503316480

-- both counts with `count` more, where a clause of d literals counts `weigh d`; a column has at most so many
pub record Grown (count : (ℕ → ℕ) → ℕ) (u r : Counts) : Type 0 where
  pub clauses_are : r.clauses ≡ u.clauses + count (λ d. 1)
  pub lits_are : r.lits ≡ u.lits + count (λ d. d)
  pub few_clauses : r.clauses ≤ u.clauses + 1048576
  pub few_lits : r.lits ≤ u.lits + 15728640

-- within the bounds of n columns
pub record InBounds (n : ℕ) (s : CountedColumns) : Type 0 where
  pub x : s.x ≤ 1073741824
  pub y : s.y ≤ 1073741824
  pub carry : s.carry ≤ 6
  pub vars : s.vars ≤ 6 * n
  pub sent_clauses : s.sent.clauses ≤ 6 * n
  pub sent_lits : s.sent.lits ≤ 12 * n
  pub returned_clauses : s.returned.clauses ≤ 1048576 * n
  pub returned_lits : s.returned.lits ≤ 15728640 * n

-- before the first column
abbrev pub start : ℕ → ℕ → CountedColumns
start x y =
    record { x = x; y = y; carry = 0; vars = 0; sent = record { clauses = 0; lits = 0 }; returned = record { clauses = 0; lits = 0 } }

-- the constant bit of the next column
abbrev pub odd_bit : CountedColumns → ℕ
odd_bit s = (s.x + s.y) % 2

-- the new carry's literals, of a column of so many own
abbrev pub new_carry : ℕ → CountedColumns → ℕ
new_carry own s = (own + s.carry - odd_bit s) / 2

-- a column but the last is counted
pub record ColumnCounted (own : ℕ) (s r : CountedColumns) : Type 0 where
  pub x : r.x ≡ (s.x + 1) / 2
  pub y : r.y ≡ s.y / 2
  pub carry : r.carry ≡ new_carry own s
  pub vars : r.vars ≡ s.vars + new_carry own s
  pub sent : Grown (λ weigh. (new_carry own s - 1) * weigh 2) s.sent r.sent
  pub returned : Grown (λ weigh. eq_column_count weigh own s.carry 0 (new_carry own s) (odd_bit s)) s.returned r.returned

-- the ordering clauses and the columns' together
abbrev pub both : CountedColumns → Counts
both s = record { clauses = s.sent.clauses + s.returned.clauses; lits = s.sent.lits + s.returned.lits }
