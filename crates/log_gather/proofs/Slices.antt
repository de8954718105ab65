-- The literals of `Bits::as_slice` are below what those of its array are below.
use mathlib.Core.Path.{◌≡◌, ap, sym, ◌∙◌}
use mathlib.Core.List.{List, [], ◌∷◌, map}
use Prim.Native.Nat.{ℕ, zero, suc, ◌<◌}
use native.Mathlib.Omega.{arith}
use lib.ListN.{get_or, get_or-map, take}
use Rattle.sat.specs.declared.Lit.{Lit}
use Rattle.sat.specs.LitArray.{lit, num}
use Rattle.log_linear.specs.Added.{bits_of}
use Rattle.log_linear.specs.declared.Bits.{Bits}

module _ {m : ℕ} where
  take_below : (xs : List Lit) (n : ℕ) → ((k : ℕ) → (get_or xs k (lit 0)).0 < m) → (k : ℕ) → (get_or (take n xs) k (lit 0)).0 < m
  take_below xs zero h k = let z = h 0 in omega arith
  take_below [] (suc n) h k = h k
  take_below (x ∷ xs) (suc n) h zero = h 0
  take_below (x ∷ xs) (suc n) h (suc k) = take_below xs n (λ j. h (suc j)) k

  pub slice_below : (b : Bits) (ls : List Lit) → map num ls ≡ bits_of b → ((k : ℕ) → (get_or b.lits k (lit 0)).0 < m) → (k : ℕ) → (get_or ls k (lit 0)).0 < m
  slice_below b ls e h k =
      let own = take b.len b.lits in
      let same : (get_or ls k (lit 0)).0 ≡ (get_or own k (lit 0)).0 =
      sym (get_or-map num ls k (lit 0)) ∙ ap (λ (xs : List ℕ). get_or xs k 0) e ∙ get_or-map num own k (lit 0) in
      rw same (take_below b.lits b.len h k)
