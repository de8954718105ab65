-- The adders' clauses, bits and variables are as many as the numbers say.
use Prim.Native.Nat.{◌%◌, ◌*◌, ◌+◌, ◌-◌, ◌/◌, ◌≤◌, suc, zero, ℕ}
use borrow.Author.Tests.{leb-false}
use lib.Dec.{eqb, leb}
use lib.ListN.{length, length-append, length-map}
use mathlib.Core.Bool.{Bool, cond, false, true}
use mathlib.Core.List.{List, [], ◌++◌, ◌∷◌, map}
use mathlib.Core.Option.{Option, none, some}
use mathlib.Core.Path.{◌∙◌, ◌≡◌, ap, ap₂, refl}
use native.Mathlib.Omega.{arith}
use Rattle.sat.specs.Clause.{Clauses}
use Rattle.sat.specs.Encoded.{EncodedBits}
use Rattle.sat.specs.Fresh.{fresh}
use Rattle.sat.specs.Lit.{neg}
use Rattle.sat.specs.Size.{weight_of}
use Rattle.sat.proofs.Fresh.{length_fresh}
use Rattle.sat.proofs.Size.{weight_append}
use Rattle.log_encoding.specs.Enumerate.{bounded, enumerate}
use Rattle.log_encoding.specs.Tally.{Shape, shapes, tally}
use Rattle.log_encoding.specs.Terms.{Term, flip, singles, term}
use Rattle.log_encoding.proofs.Flip.{length_flip}
use Rattle.log_encoding.proofs.Tally.{enumerate_tally}
use Rattle.log_encoding.specs.Adder.{AdderColumn, add_column, adder, carry_size, empty_column, extend, result, result_vars, tail}
use Rattle.log_encoding.specs.Adder2.{Adder2Output, EncodedEq, adder2, column_and_rest, eq_adder, eq_column, eq_column_ge, eq_column_le, eq_columns, eq_ge_terms, eq_le_terms, last_column, ordering, prepend, returned_set, unless_dead}
use Rattle.log_encoding.specs.Column.{column, column_ge, column_le, ge_terms, le_terms}
use Rattle.log_encoding.specs.Gather.{Grid, pad_columns, push_scaled, push_value}
use Rattle.log_encoding.specs.AdderSize.{Reached, add_count, adder_count, adder_vars, bounded_count, carry_vars, column_count, column_shape, column_shapes, eq_column_count, eq_column_reached, eq_reached, eq_returned, has_carry, height, own_counts, ordering_count, pad_shapes, push_counts, push_scaled_counts, reached, reached_column, reached_past, returned_count}

-- Gathering -----------------------------------------------------------------------------------------------------------

pub push_value_counts : (o : ℕ) (ls : List ℕ) (grid : Grid) → own_counts (push_value o ls grid) ≡ push_counts o (length ls) (own_counts grid)
push_value_counts zero [] grid = refl
push_value_counts zero (l ∷ ls) [] = ap (λ t. 1 ∷ t) (push_value_counts zero ls [])
push_value_counts zero (l ∷ ls) (c ∷ cols) = ap₂ (λ h t. h ∷ t) (length-append c (l ∷ []) ∙ omega arith) (push_value_counts zero ls cols)
push_value_counts (suc o) ls [] = ap (λ t. 0 ∷ t) (push_value_counts o ls [])
push_value_counts (suc o) ls (c ∷ cols) = ap (λ t. length c ∷ t) (push_value_counts o ls cols)

pub push_scaled_counts_are : (f k o : ℕ) (ls : List ℕ) (grid : Grid)
    → own_counts (push_scaled f k o ls grid) ≡ push_scaled_counts f k o (length ls) (own_counts grid)
push_scaled_counts_are zero k o ls grid = refl
push_scaled_counts_are (suc f) k o ls grid =
    push_scaled_counts_are f (k / 2) (suc o) ls (cond (eqb (k % 2) 1) (push_value o ls grid) grid)
    ∙ ap (push_scaled_counts f (k / 2) (suc o) (length ls)) (go (eqb (k % 2) 1))
  where
    go : (t : Bool) → own_counts (cond t (push_value o ls grid) grid) ≡ cond t (push_counts o (length ls) (own_counts grid)) (own_counts grid)
    go true = push_value_counts o ls grid
    go false = refl

pub pad_columns_shapes : (n : ℕ) (grid : Grid) → map column_shape (pad_columns n grid) ≡ pad_shapes n (own_counts grid)
pad_columns_shapes zero [] = refl
pad_columns_shapes (suc n) [] = ap (λ t. record { own = 0; constant = 0 } ∷ t) (pad_columns_shapes n [])
pad_columns_shapes zero (c ∷ cols) = ap (λ t. record { own = length c; constant = 0 } ∷ t) (pad_columns_shapes zero cols)
pad_columns_shapes (suc n) (c ∷ cols) = ap (λ t. record { own = length c; constant = 0 } ∷ t) (pad_columns_shapes n cols)

-- One column ----------------------------------------------------------------------------------------------------------

shapes_are : (own carry next : List ℕ) (rest : List Term)
    → shapes (singles own ++ (term 1 carry ∷ term 2 next ∷ rest)) ≡ column_shapes (length own) (length carry) (length next) (shapes rest)
shapes_are [] carry next rest = refl
shapes_are (l ∷ own) carry next rest = ap (λ t. record { weight = 1; size = 1 } ∷ t) (shapes_are own carry next rest)

-- those of the two inequalities are the same
ge_shapes : (own carry next : List ℕ) (rest : List Term)
    → shapes (singles own ++ (term 1 carry ∷ term 2 (flip next) ∷ rest)) ≡ column_shapes (length own) (length carry) (length next) (shapes rest)
ge_shapes own carry next rest =
    shapes_are own carry (flip next) rest ∙ ap (λ n. column_shapes (length own) (length carry) n (shapes rest)) (length_flip next)

le_shapes : (own carry next : List ℕ) (rest : List Term)
    → shapes (singles (map neg own) ++ (term 1 (flip carry) ∷ term 2 next ∷ rest))
    ≡ column_shapes (length own) (length carry) (length next) (shapes rest)
le_shapes own carry next rest =
    shapes_are (map neg own) (flip carry) next rest
    ∙ ap₂ (λ o c. column_shapes o c (length next) (shapes rest)) (length-map own neg) (length_flip carry)

module _ (weigh : ℕ → ℕ) where
  enumerate_count : (ts : List Term) (ss : List Shape) (s : ℕ) → shapes ts ≡ ss → weight_of weigh (enumerate ts s []) ≡ tally weigh ss s 0
  enumerate_count ts ss s e = enumerate_tally weigh ts s [] ∙ ap (λ t. tally weigh t s 0) e

  pub column_count_is : (own carry next : List ℕ) (c r : ℕ) → length next ≡ (c + length own + length carry) / 2
      → weight_of weigh (column own carry c next r) ≡ column_count weigh (length own) (length carry) c
  unfolding column
  column_count_is own carry next c r e =
      weight_append weigh (column_ge own carry c next r) (column_le own carry c next r)
      ∙ ap₂ (λ x y. x + y)
      (enumerate_count (ge_terms own carry next r) _ (c + length own + length carry) (ge_shapes own carry next _))
      (enumerate_count (le_terms own carry next r) _ (2 * length next + 1 - c) (le_shapes own carry next _))
      ∙ ap (λ n. let ss = column_shapes (length own) (length carry) n (record { weight = 1; size = 1 } ∷ []) in
      tally weigh ss (c + length own + length carry) 0 + tally weigh ss (2 * n + 1 - c) 0) e

  bounded_count_is : (ts : List Term) (ss : List Shape) (a b : ℕ) → shapes ts ≡ ss → weight_of weigh (bounded ts a b) ≡ bounded_count weigh ss a b
  unfolding bounded
  bounded_count_is ts ss a b e = go (leb b a)
    where
      go : (t : Bool) → weight_of weigh (cond t (enumerate ts (a - b) []) ([] ∷ [])) ≡ cond t (tally weigh ss (a - b) 0) (weigh 0)
      go true = enumerate_count ts ss (a - b) e
      go false = omega arith

  pub eq_column_count_is : (own carry next : List ℕ) (x y : ℕ)
      → weight_of weigh (eq_column own carry x next y) ≡ eq_column_count weigh (length own) (length carry) x (length next) y
  unfolding eq_column
  eq_column_count_is own carry next x y =
      weight_append weigh (eq_column_ge own carry x next y) (eq_column_le own carry x next y)
      ∙ ap₂ (λ x y. x + y)
      (bounded_count_is (eq_ge_terms own carry next) _ (x + length own + length carry) y (ge_shapes own carry next []))
      (bounded_count_is (eq_le_terms own carry next) _ (y + 2 * length next) x (le_shapes own carry next []))

  ordering_count_is : (ls : List ℕ) → weight_of weigh (ordering ls) ≡ (length ls - 1) * weigh 2
  ordering_count_is [] = omega arith
  ordering_count_is (a ∷ ls) = go a ls ∙ ap (λ n. n * weigh 2) (omega arith)
    where
      go : (a : ℕ) (ls : List ℕ) → weight_of weigh (ordering (a ∷ ls)) ≡ length ls * weigh 2
      go a [] = omega arith
      go a (b ∷ ls) = omega (arith, go b ls)

-- Ne, Ge and products -------------------------------------------------------------------------------------------------

-- what an adder from v on makes, of whose bits `given` are given
pub record AdderSize (weigh : ℕ → ℕ) (v given : ℕ) (out : EncodedBits) (rs : List Reached) : Type 0 where
  pub clauses_are : weight_of weigh out.clauses ≡ adder_count weigh rs
  pub bits_are : length out.bits ≡ length rs
  pub vars_are : out.vars ≡ v + adder_vars rs given

module _ (weigh : ℕ → ℕ) where
  add_column_size : (col : AdderColumn) (carry given : List ℕ) (v : ℕ) (more : List ℕ → ℕ → EncodedBits) (rest : ℕ → List Reached)
      → ((next : List ℕ) (w : ℕ) → AdderSize weigh w (length (tail given)) (more next w) (rest (length next)))
      → AdderSize weigh v (length given)
      (add_column col carry (carry_size col carry) given v more)
      (let r = reached_column (column_shape col) (length carry) in r ∷ rest r.next)
  add_column_size col carry given v more rest ih =
      let w = result_vars given (v + n) in
      let step = rw (length_fresh n v) at (ih (fresh n v) w) in
      record {
        clauses_are = weight_append weigh (column col.own carry col.constant (fresh n v) (result given (v + n))) (more (fresh n v) w).clauses
            ∙ ap₂ (λ x y. x + y) (column_count_is weigh col.own carry (fresh n v) col.constant (result given (v + n)) (length_fresh n v)) step.clauses_are;
        bits_are = ap suc step.bits_are;
        vars_are = vars given step.vars_are;
      }
    where
      n : ℕ
      n = carry_size col carry

      vars : (given : List ℕ) {x : ℕ} → x ≡ result_vars given (v + n) + adder_vars (rest n) (length (tail given))
          → x ≡ v + adder_vars (reached_column (column_shape col) (length carry) ∷ rest n) (length given)
      vars [] e = omega arith
      vars (g ∷ given) e = omega arith

  extend_size : (f : ℕ) (carry : List ℕ) (v : ℕ) → AdderSize weigh v 0 (extend f carry v) (reached_past f (length carry))
  extend_size zero carry v = record { clauses_are = refl; bits_are = refl; vars_are = omega arith }
  extend_size (suc f) [] v = record { clauses_are = refl; bits_are = refl; vars_are = omega arith }
  extend_size (suc f) (k ∷ ks) v = add_column_size empty_column (k ∷ ks) [] v (λ next w. extend f next w) (reached_past f) (extend_size f)

  pub adder_size : (cols : List AdderColumn) (carry given : List ℕ) (v : ℕ) → length given ≤ length cols
      → AdderSize weigh v (length given) (adder cols carry given v) (reached (map column_shape cols) (length carry))
  adder_size [] carry [] v h = extend_size (length carry) carry v
  adder_size [] carry (g ∷ given) v h = absurd (omega arith)
  adder_size (col ∷ cols) carry given v h =
      add_column_size col carry given v (λ next w. adder cols next (tail given) w) (reached (map column_shape cols))
      (λ next w. adder_size cols next (tail given) w (shorter given h))
    where
      shorter : (given : List ℕ) → length given ≤ suc (length cols) → length (tail given) ≤ length cols
      shorter [] h = omega arith
      shorter (g ∷ given) h = omega arith

-- Eq ------------------------------------------------------------------------------------------------------------------

abbrev pub returned_weight : (ℕ → ℕ) → Option Clauses → Option ℕ
returned_weight weigh none = none
returned_weight weigh (some cs) = some (weight_of weigh cs)

-- what `adder2` from v on makes
pub record Adder2Size (weigh : ℕ → ℕ) (v : ℕ) (out : Adder2Output) (rs : List Reached) (returned : Option ℕ) : Type 0 where
  pub sent_are : weight_of weigh out.sent ≡ ordering_count weigh rs
  pub returned_are : returned_weight weigh out.returned ≡ returned
  pub vars_are : out.vars ≡ v + carry_vars rs

-- what Eq over columns of so many literals, with x and y, makes from v on
pub record EqSize (weigh : ℕ → ℕ) (v : ℕ) (out : EncodedEq) (hs : List ℕ) (x y : ℕ) : Type 0 where
  pub sent_are : weight_of weigh out.sent ≡ ordering_count weigh (eq_reached hs x y 0)
  pub returned_are : weight_of weigh out.returned ≡ returned_count weigh (eq_returned weigh hs x y 0)
  pub vars_are : out.vars ≡ v + carry_vars (eq_reached hs x y 0)

module _ (weigh : ℕ → ℕ) where
  prepend_count : (cs : Clauses) (out : Option Clauses)
      → returned_weight weigh (prepend cs out) ≡ add_count (weight_of weigh cs) (returned_weight weigh out)
  prepend_count cs none = refl
  prepend_count cs (some ds) = ap some (weight_append weigh cs ds)

  returned_count_is : (out : Option Clauses) → weight_of weigh (returned_set out) ≡ returned_count weigh (returned_weight weigh out)
  returned_count_is none = omega arith
  returned_count_is (some cs) = refl

  -- one column, and what follows it
  module _ (own carry : List ℕ) (x y v : ℕ) where
    abbrev r : Reached
    r = eq_column_reached (length own) (length carry) x y

    abbrev next : List ℕ
    next = fresh r.next v

    abbrev clauses : Clauses
    clauses = eq_column own carry 0 next r.constant

    abbrev count : ℕ
    count = eq_column_count weigh r.own r.carry 0 r.next r.constant

    eq_column_size : (more : List ℕ → ℕ → Adder2Output) (rs : List Reached) (returned : Option ℕ) (t : Bool) → has_carry r ≡ t
        → Adder2Size weigh (v + r.next) (more next (v + r.next)) rs returned
        → Adder2Size weigh v
        (unless_dead (cond t (some record { lits = next; vars = v + r.next }) none) v
        (λ c. column_and_rest c.lits (eq_column own carry 0 c.lits r.constant) (more c.lits c.vars)))
        (r ∷ cond t rs [])
        (cond t (add_count count returned) none)
    eq_column_size more rs returned true q ih =
        let rest = more next (v + r.next) in
        let column_is : weight_of weigh clauses ≡ count = rw (length_fresh r.next v) at (eq_column_count_is weigh own carry next 0 r.constant) in
        record {
          sent_are = weight_append weigh (ordering next) rest.sent
              ∙ ap₂ (λ x y. x + y) (ordering_count_is weigh next ∙ ap (λ n. (n - 1) * weigh 2) (length_fresh r.next v)) ih.sent_are;
          returned_are = prepend_count clauses rest.returned ∙ ap₂ add_count column_is ih.returned_are;
          vars_are = omega (arith, ih.vars_are);
        }
    eq_column_size more rs returned false q ih =
        let stop : r.next ≡ 0 = omega (arith, leb-false r.constant (height r) q) in
        record { sent_are = rw stop (omega arith); returned_are = refl; vars_are = omega arith }

  pub adder2_size : (c : List ℕ) (cols : Grid) (x y : ℕ) (carry : List ℕ) (v : ℕ)
      → Adder2Size weigh v
      (adder2 (eq_columns (c ∷ cols) x y) (last_column (c ∷ cols) x y) carry v)
      (eq_reached (own_counts (c ∷ cols)) x y (length carry))
      (eq_returned weigh (own_counts (c ∷ cols)) x y (length carry))
  adder2_size c [] x y carry v =
      record { sent_are = omega arith; returned_are = ap some (eq_column_count_is weigh c carry [] x y); vars_are = omega arith }
  adder2_size c (d ∷ cols) x y carry v =
      let n = (r c carry x y v).next in
      eq_column_size c carry x y v (λ ls w. adder2 (eq_columns (d ∷ cols) ((x + 1) / 2) (y / 2)) (last_column (d ∷ cols) ((x + 1) / 2) (y / 2)) ls w)
      _ _ (has_carry (r c carry x y v)) refl
      (rw (length_fresh n v) at (adder2_size d cols ((x + 1) / 2) (y / 2) (fresh n v) (v + n)))

  pub eq_adder_size : (grid : Grid) (x y v : ℕ) → EqSize weigh v (eq_adder grid x y v) (own_counts grid) x y
  eq_adder_size [] x y v = record { sent_are = refl; returned_are = go (eqb x y); vars_are = omega arith }
    where
      go : (t : Bool) → weight_of weigh (cond t [] ([] ∷ [])) ≡ cond t 0 (weigh 0)
      go true = refl
      go false = omega arith
  eq_adder_size (c ∷ cols) x y v =
      let out = adder2 (eq_columns (c ∷ cols) x y) (last_column (c ∷ cols) x y) [] v in
      let size = adder2_size c cols x y [] v in
      record {
        sent_are = size.sent_are;
        returned_are = returned_count_is out.returned ∙ ap (returned_count weigh) size.returned_are;
        vars_are = size.vars_are;
      }
