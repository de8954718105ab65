-- The counts of a column, as the code walks it.
use Rattle.std.specs.Prelude.{◌+◌, ◌≤◌, ℕ, List, ◌≡◌}
use Rattle.sat.specs.declared.Lit.{Lit}
use Rattle.sat.specs.LitArray.{lit}
use Rattle.clause_set.specs.declared.Counts.{Counts}
use Rattle.log_adder.specs.declared.ColumnInfo.{ColumnInfo}

-- both counts, where a clause of d literals counts `weigh d`; a column has at most so many
pub record Walked (count : (ℕ → ℕ) → ℕ) (r : Counts) : Type 0 where
  pub clauses_are : r.clauses ≡ count (λ d. 1)
  pub lits_are : r.lits ≡ count (λ d. d)
  pub few_clauses : r.clauses ≤ 1048576
  pub few_lits : r.lits ≤ 15728640

-- both counts together
abbrev pub plus : Counts → Counts → Counts
plus a b = record { clauses = a.clauses + b.clauses; lits = a.lits + b.lits }

-- a column of these own literals, and so many carries and new carries
pub record AnyColumn (own : List Lit) (carries bit next : ℕ) (c : ColumnInfo) : Type 0 where
  pub own_are : c.own.now ≡ own
  pub carry_is : c.carry ≡ record { first = record { 0 = 0 }; count = carries }
  pub bit_is : c.bit ≡ bit
  pub next_is : c.next ≡ record { first = record { 0 = 0 }; count = next }
  pub result_is : c.result ≡ lit 0
