-- The multiplier, after `log_encoding_multiplier` of log.rs, and the product rule of codes.
use Rattle.std.specs.Prelude.{◌*◌, ◌+◌, suc, ℕ, drop, length, List, [], ◌++◌, ◌∷◌}
use Rattle.sat.specs.Clause.{Clauses}
use Rattle.sat.specs.Encoded.{EncodedBits, EncodedRule}
use Rattle.sat.specs.Fresh.{fresh}
use Rattle.sat.specs.Lit.{neg}
use Rattle.log_encoding.specs.Adder.{adder}
use Rattle.log_encoding.specs.Gather.{Grid, pad_columns, push_value}
use Rattle.log_encoding.specs.Compare.{none_of}

-- m is x and y
abbrev pub and_gate : ℕ → ℕ → ℕ → Clauses
and_gate m x y = (neg m ∷ x ∷ []) ∷ (neg m ∷ y ∷ []) ∷ (neg x ∷ neg y ∷ m ∷ []) ∷ []

-- x and each y, in new variables from v on
abbrev pub row : ℕ → List ℕ → ℕ → Clauses
row x [] v = []
row x (y ∷ ys) v = and_gate (2 * v) x y ++ row x ys (suc v)

-- each x and each y: x's bits outer, y's inner
abbrev pub rows : List ℕ → List ℕ → ℕ → Clauses
rows [] ys v = []
rows (x ∷ xs) ys v = row x ys v ++ rows xs ys (v + length ys)

-- row i in the columns from i on; the first row starts at column o
abbrev pub rows_grid : List ℕ → List ℕ → ℕ → ℕ → Grid → Grid
rows_grid [] ys o v cols = cols
rows_grid (x ∷ xs) ys o v cols = rows_grid xs ys (suc o) (v + length ys) (push_value o (fresh (length ys) v) cols)

-- the variable count after the rows
abbrev pub rows_vars : List ℕ → List ℕ → ℕ → ℕ
rows_vars [] ys v = v
rows_vars (x ∷ xs) ys v = rows_vars xs ys (v + length ys)

-- the multiplier: clauses, the literals of the product's bits, of which the first are given in rs, and the variable count
abbrev pub multiplier : List ℕ → List ℕ → List ℕ → ℕ → EncodedBits
multiplier xs ys rs v =
    let sum = adder (pad_columns (length rs) (rows_grid xs ys 0 v [])) [] rs (rows_vars xs ys v) in
    record { clauses = rows xs ys v ++ sum.clauses; bits = sum.bits; vars = sum.vars }

-- x times y is m: the product's bits are m's literals, and those past them are 0
abbrev pub product : List ℕ → List ℕ → List ℕ → ℕ → EncodedRule
product xs ys ms v =
    let mul = multiplier xs ys ms v in
    record { clauses = mul.clauses ++ none_of (drop (length ms) mul.bits); vars = mul.vars }
