-- How many clauses and literal entries a column of height 12 has at most, of either adder.
use mathlib.Core.Path.{◌≡◌}
use mathlib.Core.List.{List, [], ◌++◌, ◌∷◌, map}
use Prim.Native.Nat.{ℕ, ◌*◌, ◌+◌, ◌-◌, ◌≤◌}
use native.Mathlib.Nat.{sub-zero}
use native.Mathlib.Omega.{arith}
use borrow.Author.Tests.{le-leb}
use lib.ListN.{length, length-append, length-map}
use Rattle.sat.specs.Clause.{Clauses}
use Rattle.sat.specs.Lit.{neg}
use Rattle.sat.specs.Size.{entries}
use Rattle.sat.proofs.Size.{entries_append}
use Rattle.log_encoding.specs.Enumerate.{bounded, enumerate}
use Rattle.log_encoding.specs.Terms.{Term, flip, singles, term}
use Rattle.log_encoding.proofs.Bound.{bounded_count, bounded_total, sizes}
use Rattle.log_encoding.proofs.Flip.{length_flip}
use Rattle.log_encoding.specs.Adder2.{eq_column, eq_column_ge, eq_column_le}
use Rattle.log_encoding.specs.Column.{column, column_ge, column_le}

singles_size : (ls : List ℕ) (ts : List Term) → (sizes (singles ls ++ ts) ≡ length ls + sizes ts) × (length (singles ls ++ ts) ≡ length ls + length ts)
singles_size [] ts = (omega arith, omega arith)
singles_size (l ∷ ls) ts = let r = singles_size ls ts in (omega arith, omega arith)

-- one inequality
abbrev Half : Clauses → Type 0
Half cs = (entries cs ≤ 7864320) × (length cs ≤ 524288)

-- a column
abbrev pub Most : Clauses → Type 0
Most cs = (entries cs ≤ 15728640) × (length cs ≤ 1048576)

both_halves : (cs ds : Clauses) → Half cs → Half ds → Most (cs ++ ds)
both_halves cs ds p q = (omega (arith, entries_append cs ds), omega (arith, length-append cs ds))

-- own literals, a carry, a new carry, and the result if there is one
module _ (own carry next : List ℕ) (result : List Term) (h : length own + length carry ≤ 12) (k : length next ≤ 6)
    (few : sizes result ≤ 1) (one : length result ≤ 1) where
  abbrev terms : List Term
  terms = singles own ++ (term 1 carry ∷ term 2 next ∷ result)

  bounded_half : (a b : ℕ) → Half (bounded terms a b)
  bounded_half a b =
      let z = singles_size own (term 1 carry ∷ term 2 next ∷ result) in
      let s : sizes terms ≤ 19 = omega arith in
      let l : length terms ≤ 15 = omega arith in
      (bounded_total terms a b s l, bounded_count terms a b s l)

  enumerate_half : (s : ℕ) → Half (enumerate terms s [])
  unfolding bounded
  enumerate_half s =
      let z : 0 ≤ s = omega arith in
      let e : bounded terms s 0 ≡ enumerate terms s [] = rw (le-leb 0 s z, sub-zero s) in
      rw e at (bounded_half s 0)

module _ (own carry next : List ℕ) (h : length own + length carry ≤ 12) (k : length next ≤ 6) where
  own_flipped : length (map neg own) + length (flip carry) ≤ 12
  own_flipped = omega (arith, length-map own neg, length_flip carry)

  next_flipped : length (flip next) ≤ 6
  next_flipped = omega (arith, length_flip next)

  pub column_most : (c r : ℕ) → Most (column own carry c next r)
  unfolding column
  column_most c r =
      both_halves (column_ge own carry c next r) (column_le own carry c next r)
      (enumerate_half own carry (flip next) (term 1 (neg r ∷ []) ∷ []) h next_flipped (omega arith) (omega arith) (c + length own + length carry))
      (enumerate_half (map neg own) (flip carry) next (term 1 (r ∷ []) ∷ []) own_flipped k (omega arith) (omega arith) (2 * length next + 1 - c))

  pub eq_column_most : (x y : ℕ) → Most (eq_column own carry x next y)
  unfolding eq_column
  eq_column_most x y =
      both_halves (eq_column_ge own carry x next y) (eq_column_le own carry x next y)
      (bounded_half own carry (flip next) [] h next_flipped (omega arith) (omega arith) (x + length own + length carry) y)
      (bounded_half (map neg own) (flip carry) next [] own_flipped k (omega arith) (omega arith) (y + 2 * length next) x)
