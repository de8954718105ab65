-- The size of Eq's adder, as a call answers it.
use Rattle.std.specs.Prelude.{◌≤◌, ℕ, List, ◌≡◌}
use Rattle.sat.specs.Size.{Size, size_by}
use Rattle.log_linear.specs.declared.RuleCounts.{RuleCounts}
use Rattle.log_encoding.specs.AdderSize.{carry_vars, eq_count, eq_reached}

-- the code's counts are those of a size
pub record Sized (size : Size) (r : RuleCounts) : Type 0 where
  pub vars_are : r.vars ≡ size.vars
  pub clauses_are : r.used.clauses ≡ size.clauses
  pub lits_are : r.used.lits ≡ size.literals

-- what Eq adds, over the columns' literal counts
abbrev pub eq_size : List ℕ → ℕ → ℕ → Size
eq_size hs x y = size_by (carry_vars (eq_reached hs x y 0)) (λ weigh. eq_count weigh hs x y)

-- the size of Eq, and the bounds of at most 26 columns
pub record EqSized (hs : List ℕ) (x y : ℕ) (r : RuleCounts) : Type 0 where
  pub sized : Sized (eq_size hs x y) r
  pub few_vars : r.vars ≤ 1000
  pub few_clauses : r.used.clauses ≤ 33554432
  pub few_lits : r.used.lits ≤ 503316480
