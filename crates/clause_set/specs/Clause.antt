-- A clause as the code holds it.
use Rattle.std.specs.Prelude.{ℕ, List}
use Rattle.sat.specs.LitArray.{first_lits}
use Rattle.clause_set.specs.declared.Clause.{Clause}

-- the literals of a clause
abbrev pub clause_lits : Clause → List ℕ
clause_lits c = first_lits c.lits c.len
