-- The columns that an adder reaches, and the size of its clauses, from numbers of literals and constants alone.
use Rattle.std.specs.Prelude.{◌%◌, ◌*◌, ◌+◌, ◌-◌, ◌/◌, max, suc, zero, ℕ, eqb, leb, ltb, get_or, length, Bool, cond, List, [], ◌∷◌, map}
use Rattle.std.proofs.Math.Option.{Option, none, some}
use Rattle.log_encoding.specs.Tally.{Shape, tally}
use Rattle.log_encoding.specs.Adder.{AdderColumn}
use Rattle.log_encoding.specs.Gather.{Grid}

-- Columns -------------------------------------------------------------------------------------------------------------

-- a column of document 01 before it is added: how many own literals, and the constant bit
pub record ColumnShape : Type 0 where
  pub own : ℕ
  pub constant : ℕ

-- the numbers of an adder's column
abbrev pub column_shape : AdderColumn → ColumnShape
column_shape col = record { own = length col.own; constant = col.constant }

-- a column reached: its own literals, the incoming carry's, the constant bit, and the new carry's
pub record Reached : Type 0 where
  pub own : ℕ
  pub carry : ℕ
  pub constant : ℕ
  pub next : ℕ

-- document 01's height: the constant bit is not counted
abbrev pub height : Reached → ℕ
height r = r.own + r.carry

-- the greatest height of a column reached, 0 where none is
abbrev pub greatest_height : List Reached → ℕ
greatest_height [] = 0
greatest_height (r ∷ rs) = max (height r) (greatest_height rs)

-- document 01's refusal 13: a column above 12
abbrev pub too_tall : List Reached → Bool
too_tall rs = ltb 12 (greatest_height rs)

-- one variable for each literal of a new carry
abbrev pub carry_vars : List Reached → ℕ
carry_vars [] = 0
carry_vars (r ∷ rs) = r.next + carry_vars rs

-- Gathering -----------------------------------------------------------------------------------------------------------

-- how many literals each column has
abbrev pub own_counts : Grid → List ℕ
own_counts grid = map length grid

-- one literal more in each of the n columns from o on, as `push_value`
abbrev pub push_counts : ℕ → ℕ → List ℕ → List ℕ
push_counts zero zero hs = hs
push_counts zero (suc n) [] = 1 ∷ push_counts zero n []
push_counts zero (suc n) (h ∷ hs) = suc h ∷ push_counts zero n hs
push_counts (suc o) n [] = 0 ∷ push_counts o n []
push_counts (suc o) n (h ∷ hs) = h ∷ push_counts o n hs

-- once for each set bit of a coefficient k, of at most f bits
abbrev pub push_scaled_counts : ℕ → ℕ → ℕ → ℕ → List ℕ → List ℕ
push_scaled_counts zero k o n hs = hs
push_scaled_counts (suc f) k o n hs = push_scaled_counts f (k / 2) (suc o) n (cond (eqb (k % 2) 1) (push_counts o n hs) hs)

-- at least n columns, no constant
abbrev pub pad_shapes : ℕ → List ℕ → List ColumnShape
pad_shapes zero [] = []
pad_shapes (suc n) [] = record { own = 0; constant = 0 } ∷ pad_shapes n []
pad_shapes zero (h ∷ hs) = record { own = h; constant = 0 } ∷ pad_shapes zero hs
pad_shapes (suc n) (h ∷ hs) = record { own = h; constant = 0 } ∷ pad_shapes n hs

-- w columns from the i-th on, with as many literals as counted and the bits of k
abbrev pub input_shapes : ℕ → ℕ → List ℕ → ℕ → List ColumnShape
input_shapes zero i counts k = []
input_shapes (suc w) i counts k = record { own = get_or counts i 0; constant = k % 2 } ∷ input_shapes w (i + 1) counts (k / 2)

-- The columns reached -------------------------------------------------------------------------------------------------

-- of Ne, Ge and products: the carry halves the column's sum
abbrev pub reached_column : ColumnShape → ℕ → Reached
reached_column c carry =
    record { own = c.own; carry = carry; constant = c.constant; next = (c.constant + c.own + carry) / 2 }

-- past the columns: as long as there is a carry
abbrev pub reached_past : ℕ → ℕ → List Reached
reached_past zero carry = []
reached_past (suc f) zero = []
reached_past (suc f) (suc k) = let r = reached_column record { own = 0; constant = 0 } (suc k) in r ∷ reached_past f r.next

-- all columns of an adder, the incoming carry given
abbrev pub reached : List ColumnShape → ℕ → List Reached
reached [] carry = reached_past carry carry
reached (c ∷ cs) carry = let r = reached_column c carry in r ∷ reached cs r.next

-- of Eq, where the columns with x have to add up to y: the carry halves what is above the constant bit
abbrev pub eq_column_reached : ℕ → ℕ → ℕ → ℕ → Reached
eq_column_reached own carry x y =
    record { own = own; carry = carry; constant = (x + y) % 2; next = (own + carry - (x + y) % 2) / 2 }

-- a column answers with its carry, not with a dead end: its constant bit does not exceed its height
abbrev pub has_carry : Reached → Bool
has_carry r = leb r.constant (height r)

-- up to the last column, which has no carry, or to the first dead end
abbrev pub eq_reached : List ℕ → ℕ → ℕ → ℕ → List Reached
eq_reached [] x y carry = []
eq_reached (h ∷ []) x y carry = record { own = h; carry = carry; constant = (x + y) % 2; next = 0 } ∷ []
eq_reached (h ∷ k ∷ hs) x y carry =
    let r = eq_column_reached h carry x y in
    let rest = eq_reached (k ∷ hs) ((x + 1) / 2) (y / 2) r.next in
    r ∷ cond (has_carry r) rest []

-- Variables and clauses -----------------------------------------------------------------------------------------------

-- the carries' variables, and one for each bit of the sum past those that are given
abbrev pub adder_vars : List Reached → ℕ → ℕ
adder_vars rs given = carry_vars rs + (length rs - given)

-- the shapes of a column's inequality: each own literal, the carry, twice the new carry, then `result`
abbrev pub column_shapes : ℕ → ℕ → ℕ → List Shape → List Shape
column_shapes zero carry next result = record { weight = 1; size = carry } ∷ record { weight = 2; size = next } ∷ result
column_shapes (suc own) carry next result = record { weight = 1; size = 1 } ∷ column_shapes own carry next result

-- clauses in front of a returned set, as `prepend`
abbrev pub add_count : ℕ → Option ℕ → Option ℕ
add_count n none = none
add_count n (some m) = some (n + m)

-- a clause of d literals counts `weigh d`
module _ (weigh : ℕ → ℕ) where
  -- the two inequalities of `column`
  abbrev pub column_count : ℕ → ℕ → ℕ → ℕ
  column_count own carry constant =
      let next = (constant + own + carry) / 2 in
      let shapes = column_shapes own carry next (record { weight = 1; size = 1 } ∷ []) in
      tally weigh shapes (constant + own + carry) 0 + tally weigh shapes (2 * next + 1 - constant) 0

  -- the clauses of Ne's, Ge's and a product's adder
  abbrev pub adder_count : List Reached → ℕ
  adder_count [] = 0
  adder_count (r ∷ rs) = column_count r.own r.carry r.constant + adder_count rs

  -- an inequality whose slack is a - b; below 0, an empty clause
  abbrev pub bounded_count : List Shape → ℕ → ℕ → ℕ
  bounded_count shapes a b = cond (leb b a) (tally weigh shapes (a - b) 0) (weigh 0)

  -- the two inequalities of `eq_column`
  abbrev pub eq_column_count : ℕ → ℕ → ℕ → ℕ → ℕ → ℕ
  eq_column_count own carry x next y =
      let shapes = column_shapes own carry next [] in
      bounded_count shapes (x + own + carry) y + bounded_count shapes (y + 2 * next) x

  -- the ordering clauses of the carries, sent at once
  abbrev pub ordering_count : List Reached → ℕ
  ordering_count [] = 0
  ordering_count (r ∷ rs) = (r.next - 1) * weigh 2 + ordering_count rs

  -- Eq's columns, unless one is a dead end
  abbrev pub eq_returned : List ℕ → ℕ → ℕ → ℕ → Option ℕ
  eq_returned [] x y carry = some (cond (eqb x y) 0 (weigh 0))
  eq_returned (h ∷ []) x y carry = some (eq_column_count h carry x 0 y)
  eq_returned (h ∷ k ∷ hs) x y carry =
      let r = eq_column_reached h carry x y in
      let rest = eq_returned (k ∷ hs) ((x + 1) / 2) (y / 2) r.next in
      cond (has_carry r) (add_count (eq_column_count h carry 0 r.next r.constant) rest) none

  -- the returned set: one empty clause at a dead end
  abbrev pub returned_count : Option ℕ → ℕ
  returned_count none = weigh 0
  returned_count (some n) = n

  -- all clauses of Eq, over the columns' literal counts
  abbrev pub eq_count : List ℕ → ℕ → ℕ → ℕ
  eq_count hs x y = ordering_count (eq_reached hs x y 0) + returned_count (eq_returned hs x y 0)
