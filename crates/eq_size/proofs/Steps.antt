-- Eq's variables and clauses, under any weighing, taken column by column.
use Prim.Native.Nat.{◌%◌, ◌*◌, ◌+◌, ◌-◌, ◌/◌, ◌<◌, ◌≤◌, ℕ}
use borrow.Author.Tests.{le-leb, lt-leb}
use mathlib.Core.List.{List, [], ◌∷◌}
use mathlib.Core.Option.{Option, none, some}
use mathlib.Core.Path.{◌≡◌, refl}
use native.Mathlib.Omega.{arith}
use Rattle.log_encoding.specs.AdderSize.{Reached, add_count, carry_vars, eq_column_count, eq_column_reached, eq_count, eq_reached, eq_returned, ordering_count, returned_count}

-- the variables, where v are counted and the columns hs are left
abbrev pub vars_with : List ℕ → ℕ → ℕ → ℕ → ℕ → ℕ
vars_with hs x y carry v = v + carry_vars (eq_reached hs x y carry)

-- the clauses, where m ordering clauses and n of the columns' are counted
abbrev pub clauses_with : (ℕ → ℕ) → List ℕ → ℕ → ℕ → ℕ → ℕ → ℕ → ℕ
clauses_with weigh hs x y carry m n =
    m + ordering_count weigh (eq_reached hs x y carry) + returned_count weigh (add_count n (eq_returned weigh hs x y carry))

module _ (weigh : ℕ → ℕ) where
  none_added : (more : Option ℕ) → returned_count weigh (add_count 0 more) ≡ returned_count weigh more
  none_added none = refl
  none_added (some k) = omega arith

  twice_added : (m n : ℕ) (more : Option ℕ)
      → returned_count weigh (add_count m (add_count n more)) ≡ returned_count weigh (add_count (m + n) more)
  twice_added m n none = refl
  twice_added m n (some k) = omega arith

  pub clauses_start : (hs : List ℕ) (x y : ℕ) → clauses_with weigh hs x y 0 0 0 ≡ eq_count weigh hs x y
  clauses_start hs x y = omega (arith, none_added (eq_returned weigh hs x y 0))

  pub clauses_last : (h x y c m n : ℕ) → clauses_with weigh (h ∷ []) x y c m n ≡ m + n + eq_column_count weigh h c x 0 y
  clauses_last h x y c m n = omega arith

-- A column but the last ------------------------------------------------------------------------------------------------

module _ (h k : ℕ) (hs : List ℕ) (x y c : ℕ) where
  abbrev r : Reached
  r = eq_column_reached h c x y

  -- with its carry it goes on to the next
  module _ (o : (x + y) % 2 ≤ h + c) where
    pub vars_turn : (v : ℕ) → vars_with (h ∷ k ∷ hs) x y c v ≡ vars_with (k ∷ hs) ((x + 1) / 2) (y / 2) r.next (v + r.next)
    vars_turn v = rw (le-leb ((x + y) % 2) (h + c) o) (omega arith)

    pub clauses_turn : (weigh : ℕ → ℕ) (m n : ℕ)
        → clauses_with weigh (h ∷ k ∷ hs) x y c m n
        ≡ clauses_with weigh (k ∷ hs) ((x + 1) / 2) (y / 2) r.next
        (m + (r.next - 1) * weigh 2)
        (n + eq_column_count weigh h c 0 r.next r.constant)
    clauses_turn weigh m n =
        let column = eq_column_count weigh h c 0 r.next r.constant in
        rw (le-leb ((x + y) % 2) (h + c) o)
        (omega (arith, twice_added weigh n column (eq_returned weigh (k ∷ hs) ((x + 1) / 2) (y / 2) r.next)))

  -- a dead end has no carry, and what follows is not reached
  module _ (o : h + c < (x + y) % 2) where
    pub vars_dead : (v : ℕ) → vars_with (h ∷ k ∷ hs) x y c v ≡ v
    vars_dead v = rw (lt-leb ((x + y) % 2) (h + c) o) (omega arith)

    pub clauses_dead : (weigh : ℕ → ℕ) (m n : ℕ) → clauses_with weigh (h ∷ k ∷ hs) x y c m n ≡ m + weigh 0
    clauses_dead weigh m n =
        let stop : r.next ≡ 0 = omega arith in
        rw (lt-leb ((x + y) % 2) (h + c) o, stop) (omega arith)
