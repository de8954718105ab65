-- What the blocks of the encoder answer.
use Rattle.std.specs.Prelude.{ℕ, List, ◌++◌}
use Rattle.sat.specs.Clause.{Clauses}

-- clauses, the literals of the sum's bits, and the variables counted so far
pub record EncodedBits : Type 0 where
  pub clauses : Clauses
  pub bits : List ℕ
  pub vars : ℕ

-- clauses, and the variables counted so far
pub record EncodedRule : Type 0 where
  pub clauses : Clauses
  pub vars : ℕ

abbrev pub after_clauses : Clauses → EncodedRule → EncodedRule
after_clauses cs rest = record { clauses = cs ++ rest.clauses; vars = rest.vars }
