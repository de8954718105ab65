-- The columns that the adders go through, over their literals and by the recursion of the adders themselves: document 01's "every column
-- reached". proofs/Columns has that the adders' clauses are those of these columns, and that their numbers are `reached` and `eq_reached`.
use Rattle.std.specs.Prelude.{◌%◌, ◌+◌, ◌-◌, ◌≤◌, suc, zero, ℕ, length, Bool, ◌&&◌, cond, false, true, List, [], ◌++◌, ◌∷◌, map, ◌≡◌}
use Rattle.std.proofs.Math.Option.{Option, none, some}
use Rattle.arithmetic.specs.Integers.{down, up}
use Rattle.sat.specs.Clause.{Clauses}
use Rattle.sat.specs.Encoded.{EncodedBits}
use Rattle.sat.specs.Fresh.{fresh}
use Rattle.norm_csp.specs.NormOp.{NormOp, eq, ge, ne}
use Rattle.log_encoding.specs.LogEncoding.{LogEncoding}
use Rattle.log_encoding.specs.Column.{column}
use Rattle.log_encoding.specs.Adder.{AdderColumn, carry_size, empty_column, result, result_vars, tail}
use Rattle.log_encoding.specs.Adder2.{EncodedEq, EqColumn, LastColumn, NewCarry, column_answer, eq_column, eq_columns, last_column, ordering, prepend, returned_set}
use Rattle.log_encoding.specs.AdderSize.{Reached}
use Rattle.log_encoding.specs.Gather.{Grid, pad_columns, with_constant}
use Rattle.log_encoding.specs.Linear.{Weighted, gather, gather_sign, negated_constant, sign_adder}
use Rattle.log_encoding.specs.Multiply.{multiplier, rows_grid, rows_vars}
use Rattle.log_encoding.specs.EncodeMulLog.{is_zero, mul_constant, offset_terms}

-- document 01's bound of 12 on the height, in every column reached
abbrev pub HeightsWithin : List Reached → Type 0
HeightsWithin [] = Unit
HeightsWithin (r ∷ rs) = (r.own + r.carry ≤ 12) × HeightsWithin rs

-- Ne, Ge and products -------------------------------------------------------------------------------------------------

-- a column as `adder` adds it: its own literals, the incoming carry, the constant bit, the new carry, the result literal
pub record AddedColumn : Type 0 where
  pub own : List ℕ
  pub carry : List ℕ
  pub constant : ℕ
  pub next : List ℕ
  pub result : ℕ

-- how many literals it has of each kind
abbrev pub reached_of : AddedColumn → Reached
reached_of c = record { own = length c.own; carry = length c.carry; constant = c.constant; next = length c.next }

-- a column and its new carry in the variables from v on
abbrev pub added_column : AdderColumn → List ℕ → List ℕ → ℕ → AddedColumn
added_column col carry rs v =
    let n = carry_size col carry in
    record { own = col.own; carry = carry; constant = col.constant; next = fresh n v; result = result rs (v + n) }

-- past the columns, as `extend`
abbrev pub extend_columns : ℕ → List ℕ → ℕ → List AddedColumn
extend_columns zero carry v = []
extend_columns (suc f) [] v = []
extend_columns (suc f) (k ∷ ks) v =
    let n = carry_size empty_column (k ∷ ks) in
    added_column empty_column (k ∷ ks) [] v ∷ extend_columns f (fresh n v) (result_vars [] (v + n))

-- all columns, as `adder`
abbrev pub adder_columns : List AdderColumn → List ℕ → List ℕ → ℕ → List AddedColumn
adder_columns [] carry rs v = extend_columns (length carry) carry v
adder_columns (col ∷ cols) carry rs v =
    let n = carry_size col carry in
    added_column col carry rs v ∷ adder_columns cols (fresh n v) (tail rs) (result_vars rs (v + n))

-- the clauses of the columns, one after the other
abbrev pub columns_clauses : List AddedColumn → Clauses
columns_clauses [] = []
columns_clauses (c ∷ cs) = column c.own c.carry c.constant c.next c.result ++ columns_clauses cs

-- an adder writes the clauses of these columns and of no other, and each has its bit of the result
pub record AdderAdds (out : EncodedBits) (cs : List AddedColumn) : Type 0 where
  pub clauses_are : out.clauses ≡ columns_clauses cs
  pub bits_are : out.bits ≡ map (λ c. c.result) cs

-- Eq ------------------------------------------------------------------------------------------------------------------

-- a column as `adder2` adds it: plus and its literals have to reach the target and twice the new carry, which a dead end has not
pub record EqAddedColumn : Type 0 where
  pub own : List ℕ
  pub carry : List ℕ
  pub plus : ℕ
  pub target : ℕ
  pub next : Option (List ℕ)

-- the new carry's literals
abbrev pub carry_lits : Option (List ℕ) → List ℕ
carry_lits none = []
carry_lits (some ls) = ls

-- how many literals it has of each kind
abbrev pub eq_reached_of : EqAddedColumn → Reached
eq_reached_of c =
    record { own = length c.own; carry = length c.carry; constant = (c.plus + c.target) % 2; next = length (carry_lits c.next) }

-- a column that answers with its carry, and the columns after it; or a dead end, and none
abbrev pub column_then : EqColumn → List ℕ → Option NewCarry → (NewCarry → List EqAddedColumn) → List EqAddedColumn
column_then col carry none more = record { own = col.own; carry = carry; plus = 0; target = col.target; next = none } ∷ []
column_then col carry (some next) more =
    record { own = col.own; carry = carry; plus = 0; target = col.target; next = some next.lits } ∷ more next

-- all columns, as `adder2`: up to the last, which has no carry, or to the first dead end
abbrev pub adder2_columns : List EqColumn → LastColumn → List ℕ → ℕ → List EqAddedColumn
adder2_columns [] last carry v =
    record { own = last.own; carry = carry; plus = last.plus; target = last.target; next = some [] } ∷ []
adder2_columns (col ∷ cols) last carry v =
    column_then col carry (column_answer (length col.own + length carry) col.target v)
    (λ next. adder2_columns cols last next.lits next.vars)

-- the ordering clauses of the columns, sent at once
abbrev pub columns_sent : List EqAddedColumn → Clauses
columns_sent [] = []
columns_sent (c ∷ cs) = ordering (carry_lits c.next) ++ columns_sent cs

-- a column's inequalities before what the columns after it return; a dead end drops them
abbrev pub column_returned : EqAddedColumn → Option (List ℕ) → Option Clauses → Option Clauses
column_returned c none rest = none
column_returned c (some next) rest = prepend (eq_column c.own c.carry c.plus next c.target) rest

-- the inequalities of the columns, unless one is a dead end
abbrev pub columns_returned : List EqAddedColumn → Option Clauses
columns_returned [] = some []
columns_returned (c ∷ cs) = column_returned c c.next (columns_returned cs)

-- as `eq_adder`, which has no column where the grid has none
abbrev pub eq_adder_columns : Grid → ℕ → ℕ → ℕ → List EqAddedColumn
eq_adder_columns [] x y v = []
eq_adder_columns (c ∷ cols) x y v = adder2_columns (eq_columns (c ∷ cols) x y) (last_column (c ∷ cols) x y) [] v

-- Eq sends and returns the clauses of these columns and of no other
pub record EqAdds (out : EncodedEq) (cs : List EqAddedColumn) : Type 0 where
  pub sent_are : out.sent ≡ columns_sent cs
  pub returned_are : out.returned ≡ returned_set (columns_returned cs)

-- Sums and products ---------------------------------------------------------------------------------------------------

-- the columns of `sign_adder`
abbrev pub sign_columns : Bool → List Weighted → ℕ → ℕ → List AddedColumn
sign_columns s ps k v = adder_columns (with_constant 32 (gather_sign s ps ([] ∷ [])) k) [] [] v

-- the columns of `linear_eq`
abbrev pub eq_sum_columns : List Weighted → ℕ → ℕ → ℕ → List EqAddedColumn
eq_sum_columns ps a b v = eq_adder_columns (gather ps []) (a - (b + negated_constant ps)) (b + negated_constant ps - a) v

-- those of a sum with the constant a - b, as `encode_weighted`: Eq has one adder, Ne and Ge one for each sign
abbrev pub sum_columns : NormOp → List Weighted → ℕ → ℕ → ℕ → List Reached
sum_columns eq ps a b v = map eq_reached_of (eq_sum_columns ps a b v)
sum_columns ne ps a b v = map reached_of (sign_columns false ps a v) ++ map reached_of (sign_columns true ps b (sign_adder false ps a v).vars)
sum_columns ge ps a b v = map reached_of (sign_columns false ps a v) ++ map reached_of (sign_columns true ps b (sign_adder false ps a v).vars)

-- the columns of `multiplier`
abbrev pub multiplier_columns : List ℕ → List ℕ → List ℕ → ℕ → List AddedColumn
multiplier_columns xs ys rs v = adder_columns (pad_columns (length rs) (rows_grid xs ys 0 v [])) [] rs (rows_vars xs ys v)

-- the columns of `product_with_offsets`: the multiplier's, then Eq's
abbrev pub offsets_columns : LogEncoding → LogEncoding → LogEncoding → ℕ → List Reached
offsets_columns x y m v =
    let mul = multiplier x.lits y.lits [] v in
    let k = mul_constant x y m in
    map reached_of (multiplier_columns x.lits y.lits [] v)
    ++ map eq_reached_of (eq_sum_columns (offset_terms x y m mul.bits) (up k) (down k) mul.vars)

-- those of a product, as `encode_mul`
abbrev pub product_columns : LogEncoding → LogEncoding → LogEncoding → ℕ → List Reached
product_columns x y m v =
    cond
    (is_zero x.offset && (is_zero y.offset && is_zero m.offset))
    (map reached_of (multiplier_columns x.lits y.lits m.lits v))
    (offsets_columns x y m v)
