-- The columns of the benchmark.
use Rattle.std.specs.Prelude.{ℕ, ◌+◌, ◌/◌, List, [], ◌∷◌, map, take}
use Rattle.sat.specs.Clause.{Clauses}
use Rattle.sat.specs.declared.Lit.{Lit}
use Rattle.sat.specs.Fresh.{fresh}
use Rattle.sat.specs.LitArray.{lit, num}
use Rattle.clause_set.specs.Stores.{Stores, add_clauses, stores}
use Rattle.log_encoding.specs.Column.{column}

-- twelve own literals
abbrev pub bench_own : List Lit
bench_own = map lit (0 ∷ 2 ∷ 4 ∷ 6 ∷ 8 ∷ 10 ∷ 12 ∷ 14 ∷ 16 ∷ 18 ∷ 20 ∷ 22 ∷ [])

-- the clauses of the column with that many own literals and carries
abbrev pub bench_clauses : ℕ → ℕ → ℕ → Clauses
bench_clauses height carries bit =
    column (map num (take height bench_own)) (fresh carries 100) bit (fresh ((bit + height + carries) / 2) 200) 600

-- the stores after them
abbrev pub written : ℕ → ℕ → ℕ → List ℕ → List ℕ → Stores
written height carries bit lits ends = add_clauses 0 (bench_clauses height carries bit) (stores lits ends 0 0)
