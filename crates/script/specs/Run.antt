-- What is kept from line to line keeps to this.
use Rattle.std.specs.Prelude.{ℕ, ◌≤◌, List, length}
use Rattle.script.specs.declared.Run.{Run}

-- the lent lengths are within the stores
pub record Lent (r : Run) (lits ends : List ℕ) : Type 0 where
  pub lits_within : r.lits ≤ length lits
  pub ends_within : r.ends ≤ length ends
