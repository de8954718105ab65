-- The rows of a product in columns: how the code gathers them, how many columns there are, and what the adder makes of them.
use mathlib.Core.Path.{◌≡◌, refl, ap, sym, ◌∙◌}
use mathlib.Core.Bool.{false}
use mathlib.Core.List.{List, [], ◌∷◌, map, map-append}
use Prim.Native.Nat.{ℕ, suc, zero, max, ◌+◌, ◌-◌, ◌*◌, ◌≤◌, ◌<◌}
use native.Mathlib.Nat.{mul-one, not-suc-le-zero, sub-zero}
use native.Mathlib.Numerals.{add-one, sub-one}
use native.Mathlib.Omega.{arith}
use lib.ListN.{length, drop, get_or, length-map, set, take}
use lib.Seq.{take-suc-set}
use Rattle.sat.specs.LitArray.{first_lits, num}
use Rattle.sat.specs.Encoded.{EncodedBits}
use Rattle.sat.specs.Fresh.{fresh}
use Rattle.sat.specs.declared.Lit.{Lit}
use Rattle.sat.proofs.Fresh.{fresh_last, length_fresh}
use Rattle.clause_set.specs.Stores.{Added, AddedRule}
use Rattle.clause_set.specs.declared.ClauseSet.{ClauseSet}
use Rattle.clause_set.proofs.Writing.{wrote_as, wrote_then}
use Rattle.log_encoding.specs.Adder.{AdderColumn, adder}
use Rattle.log_adder.specs.AdderState.{AdderAdded, adder_output, input_columns}
use Rattle.log_encoding.specs.Gather.{Grid, pad_columns, push_value}
use Rattle.log_encoding.specs.AdderSize.{ColumnShape, column_shape, input_shapes, own_counts, pad_shapes, push_counts, reached, too_tall}
use Rattle.log_adder.specs.declared.Columns.{Columns}
use Rattle.log_adder.proofs.Taken.{shapes_taken}
use Rattle.log_encoding.proofs.AdderSize.{pad_columns_shapes, push_value_counts}
use Rattle.log_gather.specs.Arrays.{Arrays, Few, Holds, Pushed, grid_columns}
use Rattle.log_gather.proofs.Widths.{columns_grid}
use Rattle.log_linear.specs.Added.{bits_of}
use Rattle.log_encoding.specs.Compare.{none_of}
use Rattle.log_linear.specs.declared.Bits.{Bits}
use Rattle.log_mul.specs.Added.{MultiplierAdded, RowsGathered, RowsWritten, rows_of}
use Rattle.log_encoding.specs.Multiply.{multiplier, product, rows, rows_grid, rows_vars}
use Rattle.log_encoding.specs.MulSize.{multiplier_reached, rows_counts}
use Rattle.log_mul.proofs.Rows.{gates_most}

-- Consecutive literals -----------------------------------------------------------------------------------------------

-- one literal more
pub fresh_more : (out : List Lit) (j v : ℕ) (l : Lit) → j < length out → l.0 ≡ 2 * (v + j) → first_lits out j ≡ fresh j v → first_lits (set out j l) (j + 1) ≡ fresh (j + 1) v
fresh_more out j v l h e q = rw (add-one j, take-suc-set out j l h, map-append num (take j out) (l ∷ []), q, e, ← (fresh_last j v))

-- Gathering ----------------------------------------------------------------------------------------------------------

-- only the bit counts matter
pub rows_grid_of : (xs ys : List ℕ) (o v : ℕ) (grid : Grid) → rows_grid xs ys o v grid ≡ rows_of (length xs) (length ys) o v grid
rows_grid_of [] ys o v grid = refl
rows_grid_of (x ∷ xs) ys o v grid = rows_grid_of xs ys (suc o) (v + length ys) (push_value o (fresh (length ys) v) grid)

rows_step : (x y o v : ℕ) (grid : Grid) → 0 < x → rows_of x y o v grid ≡ rows_of (x - 1) y (o + 1) (v + y) (push_value o (fresh y v) grid)
rows_step zero y o v grid h = absurd (not-suc-le-zero h)
rows_step (suc x) y o v grid h = rw (sub-one (suc x), add-one o)

rows_none : (x y o v : ℕ) (grid : Grid) → x ≤ 0 → rows_of x y o v grid ≡ grid
rows_none zero y o v grid h = refl
rows_none (suc x) y o v grid h = absurd (not-suc-le-zero h)

module _ (x y v₀ : ℕ) where
  -- i rows are in a grid, to which the others add what all add to none
  pub record Gathering (c : Columns) (v i : ℕ) : Type 0 where
    pub vars : v ≡ v₀ + y * i
    pub arrays : Arrays c
    pub few : Few (y * i) c
    pub grid : Grid
    pub holds : Holds c grid
    pub same : rows_of x y 0 v₀ [] ≡ rows_of (x - i) y i v grid

  pub gathering_start : (c : Columns) → Arrays c × Few 0 c × Holds c [] → Gathering c v₀ 0
  gathering_start c z =
      record { vars = omega arith; arrays = z.0; few = λ i. let r = z.1 i in omega arith; grid = []; holds = z.2; same = rw (sub-zero x) }

  module _ {c : Columns} {v i : ℕ} (g : Gathering c v i) where
    pub gathering_few : i ≤ 12 → y ≤ 12 → (m : ℕ) → 144 ≤ m → Few m c
    gathering_few h k m l j = let r = g.few j in let z = gates_most y i h k in omega arith

    pub gathering_turn : i < x → (d : Columns) (ls : List ℕ) (n : ℕ) → ls ≡ fresh y v → n ≡ y → Pushed (n * 1) c (push_value i ls) d → Gathering d (v + y) (i + 1)
    gathering_turn h d ls n e long p =
        let j : x - i - 1 ≡ x - (i + 1) = omega arith in
        let more : y * (i + 1) ≡ y * i + n * 1 = omega (arith, mul-one n) in
        record {
          vars = omega (arith, g.vars);
          arrays = p.arrays;
          few = rw more (p.few (y * i) g.few);
          grid = push_value i ls g.grid;
          holds = p.holds g.grid g.holds;
          same = g.same ∙ rows_step (x - i) y i v g.grid (omega arith) ∙ (λ k. rows_of (j k) y (i + 1) (v + y) (push_value i (sym e k) g.grid));
        }

    pub gathering_end : x ≡ i → x ≤ 12 → y ≤ 12 → RowsGathered x y v₀ c
    gathering_end h a b =
        let n : x - i ≤ 0 = omega arith in
        record {
          arrays = g.arrays;
          few = gathering_few (omega arith) b 144 (omega arith);
          holds = rw (g.same ∙ rows_none (x - i) y i v g.grid n) g.holds;
        }

-- How many columns ----------------------------------------------------------------------------------------------------

push_length : (o n : ℕ) (hs : List ℕ) → length (push_counts o n hs) ≡ max (length hs) (o + n)
push_length zero zero hs = omega arith
push_length zero (suc n) [] = omega (arith, push_length zero n [])
push_length zero (suc n) (h ∷ hs) = omega (arith, push_length zero n hs)
push_length (suc o) n [] = omega (arith, push_length o n [])
push_length (suc o) n (h ∷ hs) = omega (arith, push_length o n hs)

rows_length : (x y o : ℕ) (hs : List ℕ) → length (rows_counts (suc x) y o hs) ≡ max (length hs) (o + x + y)
rows_length zero y o hs = omega (arith, push_length o y hs)
rows_length (suc x) y o hs = omega (arith, rows_length x y (suc o) (push_counts o y hs), push_length o y hs)

pub pad_length : (n : ℕ) (hs : List ℕ) → length (pad_shapes n hs) ≡ max (length hs) n
pad_length zero [] = refl
pad_length (suc n) [] = omega (arith, pad_length n [])
pad_length zero (h ∷ hs) = omega (arith, pad_length zero hs)
pad_length (suc n) (h ∷ hs) = omega (arith, pad_length n hs)

pub rows_most : (x y : ℕ) → x ≤ 12 → y ≤ 12 → length (rows_counts x y 0 []) ≤ 23
rows_most zero y h k = omega arith
rows_most (suc x) y h k = omega (arith, rows_length x y 0 [])

pub width_none : (y given : ℕ) → given ≡ length (pad_shapes given (rows_counts 0 y 0 []))
width_none y given = omega (arith, pad_length given [])

pub width_some : (x y given : ℕ) → 0 < x → max (x - 1 + y) given ≡ length (pad_shapes given (rows_counts x y 0 []))
width_some zero y given h = absurd (not-suc-le-zero h)
width_some (suc x) y given h =
    let e : suc x - 1 ≡ x = omega arith in
    rw e (omega (arith, rows_length x y 0 [], pad_length given (rows_counts (suc x) y 0 [])))

-- The columns ---------------------------------------------------------------------------------------------------------

rows_of_counts : (x y o v : ℕ) (grid : Grid) → own_counts (rows_of x y o v grid) ≡ rows_counts x y o (own_counts grid)
rows_of_counts zero y o v grid = refl
rows_of_counts (suc x) y o v grid =
    rows_of_counts x y (suc o) (v + y) (push_value o (fresh y v) grid)
    ∙ ap (rows_counts x y (suc o)) (push_value_counts o (fresh y v) grid ∙ ap (λ (n : ℕ). push_counts o n (own_counts grid)) (length_fresh y v))

grid_pad : (g : Grid) (n : ℕ) (gs : Grid) (i w : ℕ) → ((j : ℕ) → get_or g (i + j) [] ≡ get_or gs j []) → w ≡ length (pad_columns n gs) → grid_columns w i g 0 ≡ pad_columns n gs
grid_pad g zero [] i zero f e = refl
grid_pad g zero [] i (suc w) f e = absurd (omega arith)
grid_pad g (suc n) [] i zero f e = absurd (omega arith)
grid_pad g (suc n) [] i (suc w) f e =
    let a : get_or g i [] ≡ [] = ap (λ (k : ℕ). get_or g k []) (omega arith) ∙ f 0 in
    let r = grid_pad g n [] (i + 1) w (λ j. ap (λ (k : ℕ). get_or g k []) (omega arith) ∙ f (suc j)) (omega arith) in
    λ k. record { own = a k; constant = 0 } ∷ r k
grid_pad g zero (c ∷ gs) i zero f e = absurd (omega arith)
grid_pad g zero (c ∷ gs) i (suc w) f e =
    let a : get_or g i [] ≡ c = ap (λ (k : ℕ). get_or g k []) (omega arith) ∙ f 0 in
    let r = grid_pad g zero gs (i + 1) w (λ j. ap (λ (k : ℕ). get_or g k []) (omega arith) ∙ f (suc j)) (omega arith) in
    λ k. record { own = a k; constant = 0 } ∷ r k
grid_pad g (suc n) (c ∷ gs) i zero f e = absurd (omega arith)
grid_pad g (suc n) (c ∷ gs) i (suc w) f e =
    let a : get_or g i [] ≡ c = ap (λ (k : ℕ). get_or g k []) (omega arith) ∙ f 0 in
    let r = grid_pad g n gs (i + 1) w (λ j. ap (λ (k : ℕ). get_or g k []) (omega arith) ∙ f (suc j)) (omega arith) in
    λ k. record { own = a k; constant = 0 } ∷ r k

module _ {x y v : ℕ} {cols : Columns} (g : RowsGathered x y v cols) (given w : ℕ)
    (wide : w ≡ length (pad_shapes given (rows_counts x y 0 []))) (few : w ≤ 23) where
  abbrev grid : Grid
  grid = rows_of x y 0 v []

  padded : map column_shape (pad_columns given grid) ≡ pad_shapes given (rows_counts x y 0 [])
  padded = pad_columns_shapes given grid ∙ ap (pad_shapes given) (rows_of_counts x y 0 v [])

  as_wide : grid_columns w 0 grid 0 ≡ pad_columns given grid
  as_wide =
      grid_pad grid given grid 0 w (λ j. ap (λ (k : ℕ). get_or grid k []) (omega arith))
      (wide ∙ ap length (sym padded) ∙ length-map (pad_columns given grid) column_shape)

  shapes_from : (n i : ℕ) → i + n ≤ 32 → input_shapes n i cols.counts 0 ≡ map column_shape (grid_columns n i grid 0)
  shapes_from zero i h = refl
  shapes_from (suc n) i h =
      let a = g.holds.count i (omega arith) in
      let r = shapes_from n (i + 1) (omega arith) in
      λ j. record { own = a j; constant = 0 } ∷ r j

  -- the columns reached are the definition's
  pub multiplier_reaches : reached (input_shapes w 0 cols.counts 0) 0 ≡ multiplier_reached x y given
  multiplier_reaches = ap (λ (cs : List ColumnShape). reached cs 0) (shapes_from w 0 (omega arith) ∙ ap (map column_shape) as_wide ∙ padded)

  -- of the counts as a slice
  pub slice_reaches : (counts : List ℕ) → (counts ≡ take w cols.counts) × (length counts ≡ w) → reached (input_shapes (length counts) 0 counts 0) 0 ≡ multiplier_reached x y given
  slice_reaches counts e =
      ap (λ (cs : List ℕ). reached (input_shapes (length cs) 0 cs 0) 0) e.0 ∙ ap (λ (cs : List ColumnShape). reached cs 0) (shapes_taken cols.counts w 0 (omega (arith, g.arrays.places)))
      ∙ multiplier_reaches

  multiplier_columns : too_tall (multiplier_reached x y given) ≡ false → input_columns w 0 cols.lits cols.counts 0 ≡ pad_columns given grid
  multiplier_columns t = columns_grid cols grid g.holds w 0 0 0 (omega arith) (ap too_tall multiplier_reaches ∙ t) ∙ as_wide

-- The multiplier ------------------------------------------------------------------------------------------------------

module _ (x y m : List Lit) (v : ℕ) {cols : Columns} (g : RowsGathered (length x) (length y) v cols) (w : ℕ)
    (wide : w ≡ length (pad_shapes (length m) (rows_counts (length x) (length y) 0 []))) (few : w ≤ 23)
    (t : too_tall (multiplier_reached (length x) (length y) (length m)) ≡ false) where
  abbrev columns : List AdderColumn
  columns = pad_columns (length (map num m)) (rows_grid (map num x) (map num y) 0 v [])

  columns_are : input_columns w 0 cols.lits cols.counts 0 ≡ columns
  columns_are =
      multiplier_columns g (length m) w wide few t
      ∙ (λ i. pad_columns (sym (length-map m num) i) (rows_of (sym (length-map x num) i) (sym (length-map y num) i) 0 v []))
      ∙ ap (pad_columns (length (map num m))) (sym (rows_grid_of (map num x) (map num y) 0 v []))

  pub multiplier_added : {s s₁ s₂ : ClauseSet} {r : Bits} → s.vars ≡ v → RowsWritten s (map num x) (map num y) s₁
      → AdderAdded s₁ (adder_output cols m w 0 s₁.vars) s₂ r → MultiplierAdded s (multiplier (map num x) (map num y) (map num m) v) s₂ r
  multiplier_added {s} {s₁} {s₂} e p q =
      let sum : adder_output cols m w 0 s₁.vars ≡ adder columns [] (map num m) (rows_vars (map num x) (map num y) v) =
      λ i. adder (columns_are i) [] (map num m) ((p.wrote.vars_are ∙ ap (rows_vars (map num x) (map num y)) e) i) in
      let gates = wrote_as p.wrote refl (ap (rows (map num x) (map num y)) e) in
      record {
        wrote = wrote_then gates (wrote_as q.wrote (ap (λ (o : EncodedBits). o.vars) sum) (ap (λ (o : EncodedBits). o.clauses) sum));
        bits = q.bits_are ∙ ap (λ (o : EncodedBits). o.bits) sum;
        len = q.len;
        few_lits = omega (arith, q.len, q.lits);
        few_clauses = omega (arith, q.len, q.clauses);
      }

-- the product: those past m's bits are 0
pub product_added : (x y m : List Lit) {s t u : ClauseSet} {r : Bits} → MultiplierAdded s (multiplier (map num x) (map num y) (map num m) s.vars) t r
    → (ls : List ℕ) → ls ≡ drop (length m) (bits_of r) → Added t (none_of ls) u → AddedRule s (product (map num x) (map num y) (map num m) s.vars) u
product_added x y m {s} p ls e w =
    let past : none_of ls ≡ none_of (drop (length (map num m)) (multiplier (map num x) (map num y) (map num m) s.vars).bits) =
    ap none_of (e ∙ (λ i. drop (sym (length-map m num) i) (p.bits i))) in
    wrote_as (wrote_then p.wrote (wrote_as w refl past)) p.wrote.vars_are refl
