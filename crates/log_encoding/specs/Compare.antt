-- The clauses of Ne and Ge over the bits of two sums, the lowest first, after `encode_linear_log_from_encodings` of log.rs.
use Rattle.std.specs.Prelude.{◌*◌, suc, ℕ, List, [], ◌++◌, ◌∷◌}
use Rattle.sat.specs.Clause.{Clauses}
use Rattle.sat.specs.Encoded.{EncodedRule, after_clauses}
use Rattle.sat.specs.Lit.{neg}

-- aux is p xor n
abbrev pub xor_gate : ℕ → ℕ → ℕ → Clauses
xor_gate aux p n =
    (neg aux ∷ p ∷ n ∷ []) ∷ (neg aux ∷ neg p ∷ neg n ∷ []) ∷ (aux ∷ p ∷ neg n ∷ []) ∷ (aux ∷ neg p ∷ n ∷ []) ∷ []

-- Ne: some bit differs; `front` holds the literals gathered so far
abbrev pub ne_bits : List ℕ → List ℕ → List ℕ → ℕ → EncodedRule
ne_bits [] ns front v = record { clauses = (front ++ ns) ∷ []; vars = v }
ne_bits (p ∷ ps) [] front v = record { clauses = (front ++ (p ∷ ps)) ∷ []; vars = v }
ne_bits (p ∷ ps) (n ∷ ns) front v = after_clauses (xor_gate (2 * v) p n) (ne_bits ps ns (front ++ (2 * v ∷ [])) (suc v))

-- next is p or not n
abbrev pub first_gate : ℕ → ℕ → ℕ → Clauses
first_gate next p n = (neg next ∷ p ∷ neg n ∷ []) ∷ (neg p ∷ next ∷ []) ∷ (n ∷ next ∷ []) ∷ []

-- next is p and not n, or sub where the two are alike
abbrev pub sub_gate : ℕ → ℕ → ℕ → ℕ → Clauses
sub_gate next p n sub =
    (neg next ∷ neg n ∷ sub ∷ [])
    ∷ (neg next ∷ p ∷ neg n ∷ [])
    ∷ (neg next ∷ p ∷ sub ∷ [])
    ∷ (neg p ∷ n ∷ next ∷ [])
    ∷ (neg p ∷ neg n ∷ neg sub ∷ next ∷ [])
    ∷ (p ∷ n ∷ neg sub ∷ next ∷ [])
    ∷ []

-- bits that are all 0
abbrev pub none_of : List ℕ → Clauses
none_of [] = []
none_of (n ∷ ns) = (neg n ∷ []) ∷ none_of ns

-- Ge past the first bit: sub says that the bits of p passed make no less than those of n
abbrev pub ge_from : List ℕ → List ℕ → ℕ → ℕ → EncodedRule
ge_from [] ns sub v = record { clauses = (sub ∷ []) ∷ none_of ns; vars = v }
ge_from (p ∷ ps) [] sub v = record { clauses = (sub ∷ p ∷ ps) ∷ []; vars = v }
ge_from (p ∷ ps) (n ∷ ns) sub v = after_clauses (sub_gate (2 * v) p n sub) (ge_from ps ns (2 * v) (suc v))

-- Ge; a sum has at least one bit
abbrev pub ge_first : ℕ → List ℕ → ℕ → List ℕ → ℕ → EncodedRule
ge_first p ps n ns v = after_clauses (first_gate (2 * v) p n) (ge_from ps ns (2 * v) (suc v))
