-- The first n elements of an array, from a place on.
use mathlib.Core.Path.{◌≡◌, ◌∙◌, refl}
use mathlib.Core.List.{List, [], ◌∷◌, map}
use Prim.Native.Nat.{ℕ, min, zero, suc, ◌+◌, ◌≤◌, ◌<◌}
use native.Mathlib.Nat.{not-suc-le-zero}
use native.Mathlib.Numerals.{add-one}
use native.Mathlib.Omega.{arith}
use lib.ListN.{length, take, drop, get_or, length-map, drop_of_length-le}
use lib.Seq.{length-take-le}
use Rattle.sat.specs.declared.Lit.{Lit}
use Rattle.sat.specs.LitArray.{first_lits, lit, num}

module _ {A B : Type 0} (f : A → B) (d : A) where
  pub first_long : (xs : List A) (n : ℕ) → n ≤ length xs → length (map f (take n xs)) ≡ n
  first_long xs n h = length-map (take n xs) f ∙ length-take-le n xs h

  pub first_next : (xs : List A) (n i : ℕ) → n ≤ length xs → i < n → drop i (map f (take n xs)) ≡ f (get_or xs i d) ∷ drop (i + 1) (map f (take n xs))
  first_next xs n i h k = rw (add-one i) (go xs n i h k)
    where
      go : (xs : List A) (n i : ℕ) → n ≤ length xs → i < n → drop i (map f (take n xs)) ≡ f (get_or xs i d) ∷ drop (suc i) (map f (take n xs))
      go xs zero i h k = absurd (not-suc-le-zero k)
      go [] (suc n) i h k = absurd (not-suc-le-zero h)
      go (x ∷ xs) (suc n) zero h k = refl
      go (x ∷ xs) (suc n) (suc i) h k = go xs n i (omega arith) (omega arith)

  pub first_none : (xs : List A) (n i : ℕ) → n ≤ length xs → n ≤ i → drop i (map f (take n xs)) ≡ []
  first_none xs n i h k = drop_of_length-le (map f (take n xs)) {i = i} (omega (arith, first_long xs n h))

pub lits_long : (lits : List Lit) (n : ℕ) → n ≤ length lits → length (first_lits lits n) ≡ n
lits_long lits n h = first_long num (lit 0) lits n h

-- the literal at a place, and those after it
pub lits_next : (lits : List Lit) (n i : ℕ) → n ≤ length lits → i < n → drop i (first_lits lits n) ≡ (get_or lits i (lit 0)).0 ∷ drop (i + 1) (first_lits lits n)
lits_next lits n i h k = first_next num (lit 0) lits n i h k

-- past the last
pub lits_none : (lits : List Lit) (n i : ℕ) → n ≤ length lits → n ≤ i → drop i (first_lits lits n) ≡ []
lits_none lits n i h k = first_none num (lit 0) lits n i h k

-- no more than there are can be left out
pub drop_min : (k : ℕ) (ys : List ℕ) → drop (min k (length ys)) ys ≡ drop k ys
drop_min zero ys = let e : min zero (length ys) ≡ zero = omega arith in rw e refl
drop_min (suc k) [] = let e : min (suc k) zero ≡ zero = omega arith in rw e refl
drop_min (suc k) (y ∷ ys) =
    let e : min (suc k) (suc (length ys)) ≡ suc (min k (length ys)) = omega arith in rw e (drop_min k ys)
