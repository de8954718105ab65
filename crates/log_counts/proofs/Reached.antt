-- What an adder is given by the counts as the code holds them: the definitions' columns.
use mathlib.Core.Path.{◌≡◌, refl, ap, sym, ◌∙◌}
use mathlib.Core.List.{List, [], ◌∷◌, map}
use Prim.Native.Nat.{ℕ, zero, suc, max, ◌+◌, ◌%◌, ◌/◌, ◌^◌, ◌≤◌, ◌<◌}
use native.Mathlib.Omega.{arith}
use lib.ListN.{get_or-map, get_or, length, length-map, length-replicate, replicate, take}
use lib.Seq.{ext_get_or, get_or-take, length-take-le}
use Rattle.arithmetic.specs.Bits.{bit_length}
use Rattle.arithmetic.proofs.Bits.{bit_length_least}
use Rattle.log_encoding.specs.AdderSize.{ColumnShape, column_shape, input_shapes, own_counts, pad_shapes, reached}
use Rattle.log_encoding.specs.Gather.{Grid}
use Rattle.log_encoding.specs.LinearSize.{constant_shapes}
use Rattle.log_encoding.proofs.LinearSize.{with_constant_shapes}
use Rattle.log_adder.specs.AdderState.{CountsLow}
use Rattle.log_adder.proofs.Taken.{shapes_taken}
use Rattle.log_gather.specs.Arrays.{grid_columns}
use Rattle.log_gather.proofs.Constants.{constant_grid}
use Rattle.log_counts.specs.Counted.{CountsHold}
use Rattle.log_counts.specs.declared.ColumnCounts.{ColumnCounts}

-- Lists of counts ----------------------------------------------------------------------------------------------------

-- the same counts make the same columns
input_same : (w i j k : ℕ) (xs ys : List ℕ) → ((n : ℕ) → n < w → get_or xs (i + n) 0 ≡ get_or ys (j + n) 0) → input_shapes w i xs k ≡ input_shapes w j ys k
input_same zero i j k xs ys f = refl
input_same (suc w) i j k xs ys f =
    let none : (x : ℕ) → x + 0 ≡ x = λ x. omega arith in
    let one : (x n : ℕ) → x + 1 + n ≡ x + suc n = λ x n. omega arith in
    let a : get_or xs i 0 ≡ get_or ys j 0 = rw (none i, none j) at (f 0 (omega arith)) in
    let r = input_same w (i + 1) (j + 1) (k / 2) xs ys (λ n h. rw (one i n, one j n) (f (suc n) (omega arith))) in
    λ t. record { own = a t; constant = k % 2 } ∷ r t

-- as many literals in columns
abbrev literals : List ℕ → Grid
literals hs = map (λ n. replicate n 0) hs

literals_counted : (hs : List ℕ) → own_counts (literals hs) ≡ hs
literals_counted [] = refl
literals_counted (h ∷ hs) = λ i. length-replicate {A = ℕ} h 0 i ∷ literals_counted hs i

grid_shapes : (w i k : ℕ) (g : Grid) → map column_shape (grid_columns w i g k) ≡ input_shapes w i (own_counts g) k
grid_shapes zero i k g = refl
grid_shapes (suc w) i k g =
    let a = sym (get_or-map length g i []) in
    let r = grid_shapes w (i + 1) (k / 2) g in
    λ j. record { own = a j; constant = k % 2 } ∷ r j

-- with a constant
constant_input : (hs : List ℕ) (k : ℕ) → k < 2 ^ 32 → constant_shapes 32 hs k ≡ input_shapes (max (length hs) (bit_length k)) 0 hs k
constant_input hs k h =
    let g = literals hs in
    let w : length g ≡ length hs = length-map hs (λ (n : ℕ). replicate {A = ℕ} n 0) in
    ap (λ (xs : List ℕ). constant_shapes 32 xs k) (sym (literals_counted hs)) ∙ sym (with_constant_shapes 32 g k)
    ∙ ap (map column_shape) (constant_grid 32 g k h) ∙ grid_shapes (max (length g) (bit_length k)) 0 k g
    ∙ (λ i. input_shapes (max (w i) (bit_length k)) 0 (literals_counted hs i) k)

-- one column, and those after it
input_next : (h : ℕ) (xs ys : List ℕ) (cs : List ColumnShape) → h ≡ get_or ys 0 0 → ((j : ℕ) → get_or xs j 0 ≡ get_or ys (suc j) 0) → cs ≡ input_shapes (length cs) 0 xs 0
    → record { own = h; constant = 0 } ∷ cs ≡ input_shapes (suc (length cs)) 0 ys 0
input_next h xs ys cs e f r =
    let s = r ∙ input_same (length cs) 0 1 0 xs ys (λ j k. let z : 0 + j ≡ j = omega arith in let o : 1 + j ≡ suc j = omega arith in rw (z, o) (f j)) in
    λ i. record { own = e i; constant = 0 } ∷ s i

-- at least n columns
pad_input : (n : ℕ) (hs : List ℕ) → pad_shapes n hs ≡ input_shapes (length (pad_shapes n hs)) 0 hs 0
pad_input zero [] = refl
pad_input (suc n) [] = input_next 0 [] [] (pad_shapes n []) refl (λ j. refl) (pad_input n [])
pad_input zero (h ∷ hs) = input_next h hs (h ∷ hs) (pad_shapes zero hs) refl (λ j. refl) (pad_input zero hs)
pad_input (suc n) (h ∷ hs) = input_next h hs (h ∷ hs) (pad_shapes n hs) refl (λ j. refl) (pad_input n hs)

pad_length : (n : ℕ) (hs : List ℕ) → length (pad_shapes n hs) ≡ max (length hs) n
pad_length zero [] = refl
pad_length (suc n) [] = omega (arith, pad_length n [])
pad_length zero (h ∷ hs) = omega (arith, pad_length zero hs)
pad_length (suc n) (h ∷ hs) = omega (arith, pad_length n hs)

-- the columns in use make the same columns
pub taken_input : (w k : ℕ) (xs : List ℕ) → w ≤ length xs → input_shapes (length (take w xs)) 0 (take w xs) k ≡ input_shapes w 0 xs k
taken_input w k xs h = shapes_taken xs w k h

-- The counts held ----------------------------------------------------------------------------------------------------

module _ {hs : List ℕ} {c : ColumnCounts} (held : CountsHold hs c) where
  input_held : (w k : ℕ) → w ≤ 32 → input_shapes w 0 c.counts k ≡ input_shapes w 0 hs k
  input_held w k h = input_same w 0 0 k c.counts hs (λ n l. held.count (0 + n) (omega arith))

  -- no count is large
  pub low : CountsLow c.counts
  low i = let r = held.few i in omega arith

  -- the counts in use
  pub taken : take c.width c.counts ≡ hs
  taken =
      let n = length-take-le c.width c.counts (omega (arith, held.narrow, held.long)) in
      ext_get_or 0 (take c.width c.counts) hs (n ∙ held.width_is)
      (λ i h. get_or-take c.width c.counts i 0 (omega arith) ∙ held.count i (omega (arith, held.narrow)))

  -- with the bits of a constant
  module _ (k w : ℕ) (h : k < 33554432) (wide : w ≡ max c.width (bit_length k)) where
    pub constant_width : w ≤ 25
    constant_width = omega (arith, held.narrow, bit_length_least k 25 h)

    pub constant_columns : input_shapes w 0 c.counts k ≡ constant_shapes 32 hs k
    constant_columns =
        let e : w ≡ max (length hs) (bit_length k) = omega (arith, held.width_is) in
        input_held w k (omega (arith, constant_width)) ∙ ap (λ (n : ℕ). input_shapes n 0 hs k) e ∙ sym (constant_input hs k (omega arith))

    pub constant_reached : reached (input_shapes w 0 c.counts k) 0 ≡ reached (constant_shapes 32 hs k) 0
    constant_reached = ap (λ (cs : List ColumnShape). reached cs 0) constant_columns

  -- how many columns there are if there are at least so many
  pub padded_length : (given : ℕ) → length (pad_shapes given hs) ≡ max c.width given
  padded_length given = omega (arith, held.width_is, pad_length given hs)

  module _ (given w : ℕ) (h : given ≤ 12) (wide : w ≡ length (pad_shapes given hs)) where
    pub padded_width : w ≤ 25
    padded_width = omega (arith, held.narrow, padded_length given)

    pub padded_columns : input_shapes w 0 c.counts 0 ≡ pad_shapes given hs
    padded_columns =
        input_held w 0 (omega (arith, padded_width)) ∙ ap (λ (n : ℕ). input_shapes n 0 hs 0) wide ∙ sym (pad_input given hs)

    pub padded_reached : reached (input_shapes w 0 c.counts 0) 0 ≡ reached (pad_shapes given hs) 0
    padded_reached = ap (λ (cs : List ColumnShape). reached cs 0) padded_columns
