-- A column of the adder of Ne, Ge and products, after `log_encoding_adder` of log.rs: its own literals, the incoming carry and a
-- constant bit c add up to twice the outgoing carry plus the result bit. A carry is a list of ordered literals; its number is how
-- many hold.
use Rattle.std.specs.Prelude.{◌*◌, ◌+◌, ◌-◌, ℕ, length, List, [], ◌++◌, ◌∷◌, map}
use Rattle.sat.specs.Clause.{Clauses}
use Rattle.sat.specs.Lit.{neg}
use Rattle.log_encoding.specs.Enumerate.{enumerate}
use Rattle.log_encoding.specs.Terms.{Term, flip, singles, term}

-- own + carry - 2 next - result
abbrev pub ge_terms : List ℕ → List ℕ → List ℕ → ℕ → List Term
ge_terms own carry next r = singles own ++ (term 1 carry ∷ term 2 (flip next) ∷ term 1 (neg r ∷ []) ∷ [])

-- the same, negated
abbrev pub le_terms : List ℕ → List ℕ → List ℕ → ℕ → List Term
le_terms own carry next r = singles (map neg own) ++ (term 1 (flip carry) ∷ term 2 next ∷ term 1 (r ∷ []) ∷ [])

-- with the constant bit c: the first is at least -c, the second at least c
abbrev pub column_ge : List ℕ → List ℕ → ℕ → List ℕ → ℕ → Clauses
column_ge own carry c next r = enumerate (ge_terms own carry next r) (c + length own + length carry) []

abbrev pub column_le : List ℕ → List ℕ → ℕ → List ℕ → ℕ → Clauses
column_le own carry c next r = enumerate (le_terms own carry next r) (2 * length next + 1 - c) []

-- the two inequalities, in this order
unfoldable pub column : List ℕ → List ℕ → ℕ → List ℕ → ℕ → Clauses
column own carry c next r = column_ge own carry c next r ++ column_le own carry c next r
