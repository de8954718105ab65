-- A step of counting, whatever was counted before.
use Rattle.std.specs.Prelude.{ℕ, ◌+◌, List}
use Rattle.log_counts.specs.Counted.{CountsUpTo}
use Rattle.log_counts.specs.declared.ColumnCounts.{ColumnCounts}

-- c has the counts of some list
pub record Counted (m : ℕ) (c : ColumnCounts) : Type 0 where
  pub list : List ℕ
  pub holds : CountsUpTo m list c

-- whatever list c has the counts of, r has those of f of it; no count grew by more than k
pub record Grown (k : ℕ) (f : List ℕ → List ℕ) (c r : ColumnCounts) : Type 0 where
  pub holds : (m : ℕ) (hs : List ℕ) → CountsUpTo m hs c → CountsUpTo (m + k) (f hs) r
