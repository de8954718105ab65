-- The adder of Eq, after `log_encoding_adder2` of log.rs, in natural numbers: a literal that counts -1 stands as its negation, and its
-- 1 is moved across. The columns have to reach a number, of which each column but the last has its own bit. `PlainAdder2` has the
-- same in integers, with least and greatest carries, and proofs/PlainAdder2 that the two are equal.
use Rattle.std.specs.Prelude.{◌%◌, ◌*◌, ◌+◌, ◌-◌, ◌/◌, ℕ, eqb, leb, length, cond, List, [], ◌++◌, ◌∷◌, map}
use Rattle.std.proofs.Math.Option.{Option, none, some}
use Rattle.sat.specs.Clause.{Assignment, Clauses}
use Rattle.sat.specs.Count.{count}
use Rattle.sat.specs.Fresh.{fresh}
use Rattle.sat.specs.Lit.{neg}
use Rattle.log_encoding.specs.Enumerate.{bounded}
use Rattle.log_encoding.specs.Terms.{Term, flip, singles, term}
use Rattle.log_encoding.specs.Gather.{Grid}

-- a new carry's ordering clauses: each literal holds where the next one does
abbrev pub ordering : List ℕ → Clauses
ordering [] = []
ordering (a ∷ []) = []
ordering (a ∷ b ∷ ls) = (a ∷ neg b ∷ []) ∷ ordering (b ∷ ls)

-- own + carry - 2 next, and the same negated
abbrev pub eq_ge_terms : List ℕ → List ℕ → List ℕ → List Term
eq_ge_terms own carry next = singles own ++ (term 1 carry ∷ term 2 (flip next) ∷ [])

abbrev pub eq_le_terms : List ℕ → List ℕ → List ℕ → List Term
eq_le_terms own carry next = singles (map neg own) ++ (term 1 (flip carry) ∷ term 2 next ∷ [])

-- x + own + carry = 2 next + y: at least, and at most
abbrev pub eq_column_ge : List ℕ → List ℕ → ℕ → List ℕ → ℕ → Clauses
eq_column_ge own carry x next y = bounded (eq_ge_terms own carry next) (x + length own + length carry) y

abbrev pub eq_column_le : List ℕ → List ℕ → ℕ → List ℕ → ℕ → Clauses
eq_column_le own carry x next y = bounded (eq_le_terms own carry next) (y + 2 * length next) x

unfoldable pub eq_column : List ℕ → List ℕ → ℕ → List ℕ → ℕ → Clauses
eq_column own carry x next y = eq_column_ge own carry x next y ++ eq_column_le own carry x next y

-- a column but the last: its literals, and its bit of the number to reach
pub record EqColumn : Type 0 where
  pub own : List ℕ
  pub target : ℕ

-- the last column: `plus` and its literals have to reach the target
pub record LastColumn : Type 0 where
  pub own : List ℕ
  pub plus : ℕ
  pub target : ℕ

-- the clauses sent at once, those to return (none where a column was a dead end), and the variable count
pub record Adder2Output : Type 0 where
  pub sent : Clauses
  pub returned : Option Clauses
  pub vars : ℕ

abbrev pub prepend : Clauses → Option Clauses → Option Clauses
prepend cs none = none
prepend cs (some ds) = some (cs ++ ds)

-- the returned set: of a dead end, one empty clause
abbrev pub returned_set : Option Clauses → Clauses
returned_set none = [] ∷ []
returned_set (some cs) = cs

-- a column's new carry: its literals, and the variable count after them
pub record NewCarry : Type 0 where
  pub lits : List ℕ
  pub vars : ℕ

-- A column of that height, with its bit of the number to reach, answers with its carry or with a dead end, which has none: its bit
-- exceeds its height.
abbrev pub column_answer : ℕ → ℕ → ℕ → Option NewCarry
column_answer height target v =
    let n = (height - target) / 2 in
    cond (leb target height) (some record { lits = fresh n v; vars = v + n }) none

-- a dead end: what the columns before it would return is dropped
abbrev pub dead_end : ℕ → Adder2Output
dead_end v = record { sent = []; returned = none; vars = v }

-- with its carry a column goes on to the next; a dead end leaves early
abbrev pub unless_dead : Option NewCarry → ℕ → (NewCarry → Adder2Output) → Adder2Output
unless_dead none v more = dead_end v
unless_dead (some next) v more = more next

-- a column's ordering clauses are sent and its inequalities returned, before those of the columns after it
abbrev pub column_and_rest : List ℕ → Clauses → Adder2Output → Adder2Output
column_and_rest next cs rest = record { sent = ordering next ++ rest.sent; returned = prepend cs rest.returned; vars = rest.vars }

-- the columns, the last, the carry into the first, and the variable count before
abbrev pub adder2 : List EqColumn → LastColumn → List ℕ → ℕ → Adder2Output
adder2 [] last carry v =
    record { sent = []; returned = some (eq_column last.own carry last.plus [] last.target); vars = v }
adder2 (col ∷ cols) last carry v =
    unless_dead (column_answer (length col.own + length carry) col.target v) v
    (λ next. column_and_rest next.lits (eq_column col.own carry 0 next.lits col.target) (adder2 cols last next.lits next.vars))

-- all the clauses in their order: those sent, then the returned set
abbrev pub adder2_clauses : Adder2Output → Clauses
adder2_clauses out = out.sent ++ returned_set out.returned

-- what the columns add up to, and what they have to
abbrev pub eq_value : Assignment → List EqColumn → LastColumn → ℕ
eq_value α [] last = last.plus + count α last.own
eq_value α (col ∷ cols) last = count α col.own + 2 * eq_value α cols last

abbrev pub eq_target : List EqColumn → LastColumn → ℕ
eq_target [] last = last.target
eq_target (col ∷ cols) last = col.target + 2 * eq_target cols last

-- columns that with x have to add up to y, where x or y is 0: a bit for each but the last
abbrev pub eq_columns : Grid → ℕ → ℕ → List EqColumn
eq_columns [] x y = []
eq_columns (c ∷ []) x y = []
eq_columns (c ∷ d ∷ cols) x y = record { own = c; target = (x + y) % 2 } ∷ eq_columns (d ∷ cols) ((x + 1) / 2) (y / 2)

-- the last of them, with what is left of x and y
abbrev pub last_column : Grid → ℕ → ℕ → LastColumn
last_column [] x y = record { own = []; plus = x; target = y }
last_column (c ∷ []) x y = record { own = c; plus = x; target = y }
last_column (c ∷ d ∷ cols) x y = last_column (d ∷ cols) ((x + 1) / 2) (y / 2)

-- the clauses sent at once, the returned set, and the variable count
pub record EncodedEq : Type 0 where
  pub sent : Clauses
  pub returned : Clauses
  pub vars : ℕ

-- no column: one empty clause, unless x is y
abbrev pub eq_adder : Grid → ℕ → ℕ → ℕ → EncodedEq
eq_adder [] x y v = record { sent = []; returned = cond (eqb x y) [] ([] ∷ []); vars = v }
eq_adder (c ∷ cols) x y v =
    let out = adder2 (eq_columns (c ∷ cols) x y) (last_column (c ∷ cols) x y) [] v in
    record { sent = out.sent; returned = returned_set out.returned; vars = out.vars }
