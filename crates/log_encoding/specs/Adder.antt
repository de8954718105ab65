-- The adder of Ne, Ge and products, after `log_encoding_adder` of log.rs: column after column, each with the carry of the one before.
use Rattle.std.specs.Prelude.{◌%◌, ◌*◌, ◌+◌, ◌/◌, suc, zero, ℕ, length, List, [], ◌++◌, ◌∷◌, ◌≡◌}
use Rattle.sat.specs.Clause.{Assignment, Clauses, bit}
use Rattle.sat.specs.Count.{count}
use Rattle.sat.specs.Encoded.{EncodedBits}
use Rattle.sat.specs.Encodes.{LitsBelow}
use Rattle.sat.specs.Fresh.{fresh}
use Rattle.log_encoding.specs.Column.{column}

-- a column's own literals and its constant bit
pub record AdderColumn : Type 0 where
  pub own : List ℕ
  pub constant : ℕ

-- a result literal: the next one given, else a new variable's
abbrev pub result : List ℕ → ℕ → ℕ
result [] v = 2 * v
result (r ∷ rs) v = r

-- the variable count after it
abbrev pub result_vars : List ℕ → ℕ → ℕ
result_vars [] v = suc v
result_vars (r ∷ rs) v = v

abbrev pub tail : List ℕ → List ℕ
tail [] = []
tail (r ∷ rs) = rs

-- how many variables the outgoing carry has
abbrev pub carry_size : AdderColumn → List ℕ → ℕ
carry_size col carry = (col.constant + length col.own + length carry) / 2

-- a column's clauses and result, before those of the columns after it
abbrev pub joined : Clauses → ℕ → EncodedBits → EncodedBits
joined cs r rest = record { clauses = cs ++ rest.clauses; bits = r ∷ rest.bits; vars = rest.vars }

-- one column, with the new carry of n variables from v on; `more` goes on with that carry
abbrev pub add_column : AdderColumn → List ℕ → ℕ → List ℕ → ℕ → (List ℕ → ℕ → EncodedBits) → EncodedBits
add_column col carry n rs v more =
    joined
    (column col.own carry col.constant (fresh n v) (result rs (v + n)))
    (result rs (v + n))
    (more (fresh n v) (result_vars rs (v + n)))

abbrev pub no_more_columns : ℕ → EncodedBits
no_more_columns v = record { clauses = []; bits = []; vars = v }

abbrev pub empty_column : AdderColumn
empty_column = record { own = []; constant = 0 }

-- past the columns, as long as there is a carry; it halves, so that its length f bounds the columns
abbrev pub extend : ℕ → List ℕ → ℕ → EncodedBits
extend zero carry v = no_more_columns v
extend (suc f) [] v = no_more_columns v
extend (suc f) (k ∷ ks) v = add_column empty_column (k ∷ ks) (carry_size empty_column (k ∷ ks)) [] v (λ next w. extend f next w)

-- the columns, the carry into the first, the result literals that are given, and the variable count before
abbrev pub adder : List AdderColumn → List ℕ → List ℕ → ℕ → EncodedBits
adder [] carry rs v = extend (length carry) carry v
adder (col ∷ cols) carry rs v = add_column col carry (carry_size col carry) rs v (λ next w. adder cols next (tail rs) w)

-- the number that columns add up to
abbrev pub columns_value : Assignment → List AdderColumn → ℕ
columns_value α [] = 0
columns_value α (col ∷ cols) = col.constant + count α col.own + 2 * columns_value α cols

-- literals that spell the low bits of a number
abbrev pub MatchesCode : Assignment → List ℕ → ℕ → Type 0
MatchesCode α [] x = Unit
MatchesCode α (r ∷ rs) x = (bit α r ≡ x % 2) × MatchesCode α rs (x / 2)

-- columns over the first v variables
abbrev pub ColumnsBelow : ℕ → List AdderColumn → Type 0
ColumnsBelow v [] = Unit
ColumnsBelow v (col ∷ cols) = LitsBelow v col.own × ColumnsBelow v cols
