-- The clauses of a range or a list, over the literals of a code's bits, the lowest first.
use Rattle.std.specs.Prelude.{◌-◌, ◌/◌, suc, zero, ℕ, cond, List, [], ◌++◌, ◌∷◌}
use Rattle.arithmetic.specs.Bits.{odd}
use Rattle.sat.specs.Clause.{Clauses}
use Rattle.sat.specs.Lit.{neg}

-- the clause against code k: each literal fails where the code is k
abbrev pub against : List ℕ → ℕ → List ℕ
against [] k = []
against (l ∷ ls) k = cond (odd k) (neg l) l ∷ against ls (k / 2)

-- for each set bit of k, the lowest first: it is 1 when all higher bits equal k's
abbrev pub at_least : List ℕ → ℕ → Clauses
at_least [] k = []
at_least (l ∷ ls) k = cond (odd k) ((l ∷ against ls (k / 2)) ∷ []) [] ++ at_least ls (k / 2)

-- for each clear bit of k: it is 0 when all higher bits equal k's
abbrev pub at_most : List ℕ → ℕ → Clauses
at_most [] k = []
at_most (l ∷ ls) k = cond (odd k) [] ((neg l ∷ against ls (k / 2)) ∷ []) ++ at_most ls (k / 2)

-- against n codes, from k on
abbrev pub gap : List ℕ → ℕ → ℕ → Clauses
gap ls k zero = []
gap ls k (suc n) = against ls k ∷ gap ls (suc k) n

-- against each missing code between k and the codes after it, rising
abbrev pub gaps : List ℕ → ℕ → List ℕ → Clauses
gaps ls k [] = []
gaps ls k (m ∷ ms) = gap ls (suc k) (m - suc k) ++ gaps ls m ms

-- the clauses of codes low, ms.. up to high; a range has no ms and so no gaps
abbrev pub domain_clauses : List ℕ → ℕ → List ℕ → ℕ → Clauses
domain_clauses ls low ms high = at_least ls low ++ (at_most ls high ++ gaps ls low ms)
