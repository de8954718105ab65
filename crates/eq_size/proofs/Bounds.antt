-- The bounds of the counts, as they grow with the columns.
use Prim.Native.Nat.{◌+◌, ◌≤◌, ℕ}
use borrow.Author.Rules.{rules}
use Rattle.eq_size.specs.Counted.{ColumnCounted, InBounds}
use Rattle.eq_size.specs.declared.CountedColumns.{CountedColumns}

-- more columns have wider bounds
pub wider : {m n : ℕ} {s : CountedColumns} → m ≤ n → InBounds m s → InBounds n s
wider h b = search rules

-- a column more
pub bounds_turn : {i own : ℕ} {s r : CountedColumns} → own + s.carry ≤ 12 → ColumnCounted own s r → InBounds i s → InBounds (i + 1) r
bounds_turn h a b = search rules
