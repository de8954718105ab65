-- Ge's `Option<Lit>`: none yet, or the literal that says that the bits passed of the positive part make no less than those of the
-- negative part.
use Rattle.std.specs.Prelude.{ℕ, List, [], ◌++◌, ◌∷◌, Option, None, Some}
use Rattle.sat.specs.declared.Lit.{Lit}
use Rattle.sat.specs.Clause.{Clauses}
use Rattle.sat.specs.Encoded.{EncodedRule}
use Rattle.log_encoding.specs.Compare.{first_gate, ge_from, none_of, sub_gate}
use Rattle.log_encoding.specs.Linear.{ge_bits}

-- its number
abbrev pub sub_of : Option Lit → Option ℕ
sub_of None = None
sub_of (Some l) = Some l.0

-- the clauses of the next literal
abbrev pub ge_gate : Option ℕ → ℕ → ℕ → ℕ → Clauses
ge_gate None next p n = first_gate next p n
ge_gate (Some sub) next p n = sub_gate next p n sub

-- the bits left
abbrev pub ge_left : Option ℕ → List ℕ → List ℕ → ℕ → EncodedRule
ge_left None ps ns v = ge_bits ps ns v
ge_left (Some sub) ps ns v = ge_from ps ns sub v

-- as the literals of a clause
abbrev pub sub_lits : Option ℕ → List ℕ
sub_lits None = []
sub_lits (Some l) = l ∷ []

-- a clause of its own, if there is one
abbrev pub sub_clauses : Option ℕ → Clauses
sub_clauses None = []
sub_clauses (Some l) = (l ∷ []) ∷ []

-- past the bits that both sums have
abbrev pub ge_end : Option ℕ → List ℕ → List ℕ → Clauses
ge_end sub [] ns = sub_clauses sub ++ none_of ns
ge_end sub (p ∷ ps) ns = (sub_lits sub ++ (p ∷ ps)) ∷ []
