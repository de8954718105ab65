-- The print of a job's clauses and of a refusal, in ASCII (document 01: the job file and its print).
use Rattle.std.specs.Prelude.{◌+◌, ℕ, cond, List, [], ◌++◌, ◌∷◌}
use Rattle.sat.specs.Clause.{Clauses}
use Rattle.sat.specs.Lit.{is_negated, var}
use Rattle.clause_set.specs.Stores.{clauses_of, stores}
use Rattle.encoder_env.specs.declared.EncoderEnv.{EncoderEnv}
use Rattle.text.specs.Decimal.{decimal}

-- the number that a literal's variable is printed as: variable v as v + 1
abbrev pub number : ℕ → ℕ
number l = var l + 1

-- a literal: the number of its variable, `-` before it if negated
unfoldable pub literal : ℕ → List ℕ
literal l = cond (is_negated l) (45 ∷ decimal (number l)) (decimal (number l))

-- a clause: each literal and a space, ending in `0` and a line feed
unfoldable pub clause : List ℕ → List ℕ
clause [] = 48 ∷ 10 ∷ []
clause (l ∷ ls) = literal l ++ (32 ∷ clause ls)

-- the clauses, one after the other
unfoldable pub clauses : Clauses → List ℕ
clauses [] = []
clauses (c ∷ cs) = clause c ++ clauses cs

-- a word, two numbers with a space between them, and a line feed
abbrev pub line : List ℕ → ℕ → ℕ → List ℕ
line word a b = word ++ (decimal a ++ (32 ∷ (decimal b ++ (10 ∷ []))))

-- `p cnf V C`
unfoldable pub header : ℕ → ℕ → List ℕ
header v c = line (112 ∷ 32 ∷ 99 ∷ 110 ∷ 102 ∷ 32 ∷ []) v c

-- `refused F N`: field index, number
unfoldable pub refused : ℕ → ℕ → List ℕ
refused f n = line (114 ∷ 101 ∷ 102 ∷ 117 ∷ 115 ∷ 101 ∷ 100 ∷ 32 ∷ []) f n

-- the header with V and C, then the clauses
unfoldable pub dimacs : ℕ → ℕ → Clauses → List ℕ
dimacs v c cs = header v c ++ clauses cs

-- The print of a job and its stores. V is the job's variable count (document 02, #101), C its clause count; the clauses written are all those
-- below C, as the stores hold them.
unfoldable pub print_of : EncoderEnv → List ℕ → List ℕ → List ℕ
print_of env lits ends = dimacs env.variables env.clauses (clauses_of (stores lits ends env.literals env.clauses))
