-- The clauses of Eq in integers, after `encode_linear_log_from_encodings` of log.rs: each literal in its column with its sign.
use Rattle.std.specs.Prelude.{◌%◌, ◌/◌, suc, zero, ℕ, eqb, ℤ, Bool, cond, List, [], ◌++◌, ◌∷◌, map}
use Rattle.log_encoding.specs.Adder2.{EncodedEq}
use Rattle.log_encoding.specs.PlainAdder2.{Signed, SignedColumns, plain_eq_adder}
use Rattle.log_encoding.specs.Linear.{Weighted}

-- a literal at the end of column o
abbrev pub push_lit : ℕ → Signed → SignedColumns → SignedColumns
push_lit zero s [] = (s ∷ []) ∷ []
push_lit zero s (c ∷ cols) = (c ++ (s ∷ [])) ∷ cols
push_lit (suc o) s [] = [] ∷ push_lit o s []
push_lit (suc o) s (c ∷ cols) = c ∷ push_lit o s cols

-- literals in column o and those after it
abbrev pub push_lits : ℕ → List Signed → SignedColumns → SignedColumns
push_lits o [] cols = cols
push_lits o (s ∷ ss) cols = push_lits (suc o) ss (push_lit o s cols)

-- once for each set bit of a coefficient, of at most f bits
abbrev pub push_scaled_lits : ℕ → ℕ → ℕ → List Signed → SignedColumns → SignedColumns
push_scaled_lits zero k o ss cols = cols
push_scaled_lits (suc f) k o ss cols = push_scaled_lits f (k / 2) (suc o) ss (cond (eqb (k % 2) 1) (push_lits o ss cols) cols)

abbrev pub sign : Bool → ℕ → Signed
sign m l = record { negative = m; lit = l }

-- the terms in columns
abbrev pub gather_signed : List Weighted → SignedColumns → SignedColumns
gather_signed [] cols = cols
gather_signed (p ∷ ps) cols = gather_signed ps (push_scaled_lits 12 p.coef 0 (map (sign p.negative) p.lits) cols)

-- the terms and the constant k add up to 0
abbrev pub plain_linear_eq : List Weighted → ℤ → ℕ → EncodedEq
plain_linear_eq ps k v = plain_eq_adder (gather_signed ps []) k v
