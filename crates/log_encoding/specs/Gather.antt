-- Literals gathered into columns by weight, after `log_encoding_adder` and `encode_linear_log_from_encodings` of log.rs.
use Rattle.std.specs.Prelude.{◌%◌, ◌*◌, ◌+◌, ◌/◌, suc, zero, ℕ, eqb, cond, List, [], ◌++◌, ◌∷◌}
use Rattle.sat.specs.Clause.{Assignment}
use Rattle.sat.specs.Count.{count}
use Rattle.sat.specs.Encodes.{LitsBelow}
use Rattle.log_encoding.specs.Adder.{AdderColumn}

-- columns of literals, the lowest weight first
abbrev pub Grid : Type 0
Grid = List (List ℕ)

-- Literal j at the end of column o + j. There are at least o columns then, even where no literal is pushed.
abbrev pub push_value : ℕ → List ℕ → Grid → Grid
push_value zero [] cols = cols
push_value zero (l ∷ ls) [] = (l ∷ []) ∷ push_value zero ls []
push_value zero (l ∷ ls) (c ∷ cols) = (c ++ (l ∷ [])) ∷ push_value zero ls cols
push_value (suc o) ls [] = [] ∷ push_value o ls []
push_value (suc o) ls (c ∷ cols) = c ∷ push_value o ls cols

-- once for each set bit of a coefficient k, of at most f bits
abbrev pub push_scaled : ℕ → ℕ → ℕ → List ℕ → Grid → Grid
push_scaled zero k o ls cols = cols
push_scaled (suc f) k o ls cols = push_scaled f (k / 2) (suc o) ls (cond (eqb (k % 2) 1) (push_value o ls cols) cols)

-- the number that the columns add up to
abbrev pub grid_value : Assignment → Grid → ℕ
grid_value α [] = 0
grid_value α (c ∷ cols) = count α c + 2 * grid_value α cols

-- columns over the first v variables
abbrev pub GridBelow : ℕ → Grid → Type 0
GridBelow v [] = Unit
GridBelow v (c ∷ cols) = LitsBelow v c × GridBelow v cols

-- at least n columns, no constant
abbrev pub pad_columns : ℕ → Grid → List AdderColumn
pad_columns zero [] = []
pad_columns (suc n) [] = record { own = []; constant = 0 } ∷ pad_columns n []
pad_columns zero (c ∷ cols) = record { own = c; constant = 0 } ∷ pad_columns zero cols
pad_columns (suc n) (c ∷ cols) = record { own = c; constant = 0 } ∷ pad_columns n cols

-- the constant's bits, in the columns and past them, of which there are at most f
abbrev pub with_constant : ℕ → Grid → ℕ → List AdderColumn
with_constant f (c ∷ cols) k = record { own = c; constant = k % 2 } ∷ with_constant f cols (k / 2)
with_constant zero [] k = []
with_constant (suc f) [] zero = []
with_constant (suc f) [] (suc k) = record { own = []; constant = suc k % 2 } ∷ with_constant f [] (suc k / 2)
