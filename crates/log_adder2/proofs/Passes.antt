-- The carries column by column; and the two passes together are the definition.
use mathlib.Core.Path.{◌≡◌, refl}
use mathlib.Core.Bool.{Bool, true, false, cond}
use mathlib.Core.List.{List, [], ◌∷◌, ◌++◌}
use mathlib.Core.Option.{none, some}
use Prim.Native.Nat.{ℕ, zero, suc, ◌+◌, ◌-◌, ◌/◌, ◌%◌, ◌≤◌, ◌<◌}
use native.Mathlib.Nat.{not-suc-le-zero}
use native.Mathlib.Numerals.{sub-one}
use native.Mathlib.Omega.{arith}
use borrow.Author.Tests.{le-leb, lt-leb, leb-true}
use lib.Dec.{leb}
use lib.ListN.{length, get_or, length-map, length-take, take}
use lib.Seq.{get_or-take}
use Rattle.sat.specs.LitArray.{first_lits}
use Rattle.sat.specs.declared.Lit.{Lit}
use Rattle.log_adder.specs.declared.VarRange.{VarRange}
use Rattle.log_adder2.specs.declared.EqInput.{EqInput}
use Rattle.sat.specs.Clause.{Clauses}
use Rattle.sat.specs.Fresh.{fresh}
use Rattle.sat.proofs.Fresh.{length_fresh}
use Rattle.log_adder.specs.ColumnInfo.{range_lits}
use Rattle.log_encoding.specs.Adder2.{Adder2Output, NewCarry, adder2, column_answer, ordering, prepend}
use Rattle.log_adder.specs.AdderState.{own_at}
use Rattle.log_adder2.specs.EqState.{Carries, Wide, carries, carries_from, carries_then, carries_unless_dead, columns_at, columns_clauses, is_dead, last_at, no_vars, output_at, output_of}
use Rattle.log_adder2.proofs.EqHeights.{column_fits, fits_step, tall_from}

-- consecutive variables as a carry, v variables after them
abbrev pub carry_in : VarRange → ℕ → NewCarry
carry_in p v = record { lits = range_lits p; vars = v }

-- The carries, as the code comes by them ------------------------------------------------------------------------------

module _ (counts : List ℕ) where
  pub carries_step : (w i x y : ℕ) (p : VarRange) (v : ℕ) → 0 < w → (x + y) % 2 ≤ get_or counts i 0 + p.count
      → let n = (get_or counts i 0 + p.count - (x + y) % 2) / 2 in
      carries_from w i counts x y (carry_in p v)
      ≡ carries_then (ordering (fresh n v)) (carries_from (w - 1) (i + 1) counts ((x + 1) / 2) (y / 2) (carry_in (record { first = record { 0 = v }; count = n }) (v + n)))
  carries_step zero i x y p v z h = absurd (not-suc-le-zero z)
  carries_step (suc w) i x y p v z h = rw (length_fresh p.count p.first.0, le-leb ((x + y) % 2) (get_or counts i 0 + p.count) h, sub-one (suc w))

  pub carries_dead : (w i x y : ℕ) (p : VarRange) (v : ℕ) → 0 < w → get_or counts i 0 + p.count < (x + y) % 2
      → carries_from w i counts x y (carry_in p v) ≡ record { sent = []; vars = v; last = none }
  carries_dead zero i x y p v z h = absurd (not-suc-le-zero z)
  carries_dead (suc w) i x y p v z h = rw (length_fresh p.count p.first.0, lt-leb ((x + y) % 2) (get_or counts i 0 + p.count) h)

  pub carries_end : (w i x y : ℕ) (p : VarRange) (v : ℕ) → w ≤ 0 → carries_from w i counts x y (carry_in p v) ≡ record { sent = []; vars = v; last = some (carry_in p v) }
  carries_end zero i x y p v h = refl
  carries_end (suc w) i x y p v h = absurd (not-suc-le-zero h)

-- The two passes are the definition ----------------------------------------------------------------------------------

prepend_cond : (b : Bool) (cs ds : Clauses) → prepend cs (cond b none (some ds)) ≡ cond b none (some (cs ++ ds))
prepend_cond true cs ds = refl
prepend_cond false cs ds = refl

-- what the carries and the columns' clauses make
abbrev pub output_with : Carries → Clauses → Adder2Output
output_with s cs = record { sent = s.sent; returned = cond (is_dead s.last) none (some cs); vars = s.vars }

module _ (cols : List (List Lit)) (counts : List ℕ) (wide : Wide cols) where
  pub out_passes : (w i x y : ℕ) (p : VarRange) (v : ℕ) → i + w < 32 → tall_from counts (suc w) i x y p.count ≡ false
      → output_at w i cols counts x y p v ≡ output_with (carries_from w i counts x y (carry_in p v)) (columns_clauses w i cols counts x y p v)
  out_passes zero i x y p v h k = refl
  out_passes (suc w) i x y p v h k =
      go (leb ((x + y) % 2) (get_or counts i 0 + p.count)) refl
      (λ sh. out_passes w (i + 1) ((x + 1) / 2) (y / 2) (record { first = record { 0 = v }; count = (get_or counts i 0 + p.count - (x + y) % 2) / 2 }) (v + (get_or counts i 0 + p.count - (x + y) % 2) / 2) (omega arith) sh)
    where
      hi : get_or counts i 0 + p.count ≤ 12
      hi = column_fits counts (suc (suc w)) i x y p.count (omega arith) k

      own : length (own_at cols counts i) ≡ get_or counts i 0
      own = let l : length (get_or cols i []) ≡ 12 = wide i (omega arith) in let z = hi in rw (length-map, length-take) (omega arith)

      carry : length (range_lits p) ≡ p.count
      carry = length_fresh p.count p.first.0

      go : (t : Bool) → leb ((x + y) % 2) (get_or counts i 0 + p.count) ≡ t
          → (let n = (get_or counts i 0 + p.count - (x + y) % 2) / 2 in let q : VarRange = record { first = record { 0 = v }; count = n } in
          tall_from counts (suc w) (i + 1) ((x + 1) / 2) (y / 2) n ≡ false
          → output_at w (i + 1) cols counts ((x + 1) / 2) (y / 2) q (v + n)
          ≡ output_with (carries_from w (i + 1) counts ((x + 1) / 2) (y / 2) (carry_in q (v + n))) (columns_clauses w (i + 1) cols counts ((x + 1) / 2) (y / 2) q (v + n)))
          → output_at (suc w) i cols counts x y p v ≡ output_with (carries_from (suc w) i counts x y (carry_in p v)) (columns_clauses (suc w) i cols counts x y p v)
      go true e more =
          let n : ℕ = (get_or counts i 0 + p.count - (x + y) % 2) / 2 in
          let sh : tall_from counts (suc w) (i + 1) ((x + 1) / 2) (y / 2) n ≡ false =
          rw (sub-one (suc (suc w))) at (fits_step counts (suc (suc w)) i x y p.count (omega arith) (leb-true ((x + y) % 2) (get_or counts i 0 + p.count) e) k) in
          rw (own, carry, e, more sh, prepend_cond)
      go false e more = rw (own, carry, e)

  -- all columns
  pub passes_are : (g : EqInput) → g.width ≤ 26 → tall_from counts (suc (g.width - 1)) 0 g.x g.y 0 ≡ false
      → output_of cols counts g ≡ output_with (carries counts g) (columns_clauses (g.width - 1) 0 cols counts g.x g.y no_vars g.vars)
  passes_are g w fits = out_passes (g.width - 1) 0 g.x g.y no_vars g.vars (omega arith) fits

-- The counts of the first columns alone --------------------------------------------------------------------------------

module _ (n : ℕ) (counts : List ℕ) where
  carries_of_first : (w i x y : ℕ) (p : NewCarry) → i + w ≤ n → carries_from w i (take n counts) x y p ≡ carries_from w i counts x y p
  carries_of_first zero i x y p h = refl
  carries_of_first (suc w) i x y p h =
      λ j. carries_unless_dead (column_answer (get_or-take n counts i 0 (omega arith) j + length p.lits) ((x + y) % 2) p.vars) p.vars
      (λ next. carries_of_first w (i + 1) ((x + 1) / 2) (y / 2) next (omega arith) j)

  columns_of_first : (cols : List (List Lit)) (w i x y : ℕ) → i + w ≤ n → columns_at w i cols (take n counts) x y ≡ columns_at w i cols counts x y
  columns_of_first cols zero i x y h = refl
  columns_of_first cols (suc w) i x y h =
      λ j. record { own = first_lits (get_or cols i []) (get_or-take n counts i 0 (omega arith) j); target = (x + y) % 2 }
      ∷ columns_of_first cols w (i + 1) ((x + 1) / 2) (y / 2) (omega arith) j

  last_of_first : (cols : List (List Lit)) (w i x y : ℕ) → i + w < n → last_at w i cols (take n counts) x y ≡ last_at w i cols counts x y
  last_of_first cols zero i x y h = λ j. record { own = first_lits (get_or cols i []) (get_or-take n counts i 0 (omega arith) j); plus = x; target = y }
  last_of_first cols (suc w) i x y h = last_of_first cols w (i + 1) ((x + 1) / 2) (y / 2) (omega arith)

module _ (counts : List ℕ) (g : EqInput) (h : 1 ≤ g.width) where
  pub carries_taken : carries (take g.width counts) g ≡ carries counts g
  carries_taken = carries_of_first g.width counts (g.width - 1) 0 g.x g.y (record { lits = []; vars = g.vars }) (omega arith)

  pub output_taken : (cols : List (List Lit)) → output_of cols (take g.width counts) g ≡ output_of cols counts g
  output_taken cols =
      λ j. adder2 (columns_of_first g.width counts cols (g.width - 1) 0 g.x g.y (omega arith) j) (last_of_first g.width counts cols (g.width - 1) 0 g.x g.y (omega arith) j) [] g.vars
