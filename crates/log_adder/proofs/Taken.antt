-- The counts of the first columns alone, as a slice.
use mathlib.Core.Path.{◌≡◌, ap, refl, ◌∙◌}
use mathlib.Core.List.{List, [], ◌∷◌}
use Prim.Native.Nat.{ℕ, zero, suc, ◌%◌, ◌+◌, ◌/◌, ◌≤◌}
use native.Mathlib.Omega.{arith}
use lib.ListN.{length, take}
use lib.Seq.{get_or-take, length-take-le}
use Rattle.log_encoding.specs.AdderSize.{input_shapes}
use Rattle.log_adder.specs.AdderState.{CountsLow}

shapes_of_first : (n : ℕ) (counts : List ℕ) (w i k : ℕ) → i + w ≤ n → input_shapes w i (take n counts) k ≡ input_shapes w i counts k
shapes_of_first n counts zero i k h = refl
shapes_of_first n counts (suc w) i k h =
    λ j. record { own = get_or-take n counts i 0 (omega arith) j; constant = k % 2 } ∷ shapes_of_first n counts w (i + 1) (k / 2) (omega arith) j

pub shapes_taken : (counts : List ℕ) (w k : ℕ) → w ≤ length counts → input_shapes (length (take w counts)) 0 (take w counts) k ≡ input_shapes w 0 counts k
shapes_taken counts w k h =
    ap (λ n. input_shapes n 0 (take w counts) k) (length-take-le w counts h) ∙ shapes_of_first w counts w 0 k (omega arith)

pub low_taken : (w : ℕ) (counts : List ℕ) → CountsLow counts → CountsLow (take w counts)
low_taken zero counts h i = omega arith
low_taken (suc w) [] h i = h i
low_taken (suc w) (n ∷ ns) h zero = h zero
low_taken (suc w) (n ∷ ns) h (suc i) = low_taken w ns (λ j. h (suc j)) i
