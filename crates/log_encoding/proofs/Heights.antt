-- The heights of the columns that an adder reaches, as the code comes by them: a column, the end, the columns past the last.
use Prim.Native.Nat.{◌%◌, ◌+◌, ◌-◌, ◌/◌, ◌<◌, ◌≤◌, max, suc, zero, ℕ}
use borrow.Author.Tests.{le-ltb, ltb-false}
use lib.ListN.{get_or}
use mathlib.Core.Bool.{Bool, false}
use mathlib.Core.List.{List, [], ◌∷◌}
use mathlib.Core.Logic.{◌↔◌}
use mathlib.Core.Path.{◌∙◌, ◌≡◌, refl}
use native.Mathlib.Nat.{not-suc-le-zero, sub-zero}
use native.Mathlib.Numerals.{sub-one}
use native.Mathlib.Omega.{arith}
use Rattle.log_encoding.specs.AdderSize.{Reached, greatest_height, height, input_shapes, reached, reached_column, reached_past, too_tall}
use Rattle.log_encoding.specs.Columns.{HeightsWithin}

-- the columns past the last are never above the carry into them
past_low : (f c : ℕ) → greatest_height (reached_past f c) ≤ c
past_low zero c = omega arith
past_low (suc f) zero = omega arith
past_low (suc f) (suc k) = omega (arith, past_low f ((0 + 0 + suc k) / 2))

-- where none of the columns reached is above 12, neither the first is nor one of the others
pub reached_fits : (r : Reached) (rs : List Reached) → too_tall (r ∷ rs) ≡ false → (height r ≤ 12) × (too_tall rs ≡ false)
reached_fits r rs h =
    let low = ltb-false 12 (greatest_height (r ∷ rs)) h in
    (omega (arith, low), le-ltb 12 (greatest_height rs) (omega (arith, low)))

-- the test of 13, as the bound on every column reached
pub heights_within : (rs : List Reached) → (too_tall rs ≡ false) ↔ HeightsWithin rs
heights_within [] = (λ h. tt, λ h. refl)
heights_within (r ∷ rs) =
    let ih = heights_within rs in (
      λ h. let f = reached_fits r rs h in (f.0, ih.0 f.1),
      λ h. le-ltb 12 (greatest_height (r ∷ rs)) (omega (arith, h.0, ltb-false 12 (greatest_height rs) (ih.1 h.1))),
    )

module _ (counts : List ℕ) where
  -- the greatest height of w columns from the i-th on, with the bits of k and a carry of c literals, and of those past them
  abbrev greatest_from : ℕ → ℕ → ℕ → ℕ → ℕ
  greatest_from w i k c = greatest_height (reached (input_shapes w i counts k) c)

  -- one of these columns is above 12
  abbrev pub tall_from : ℕ → ℕ → ℕ → ℕ → Bool
  tall_from w i k c = too_tall (reached (input_shapes w i counts k) c)

  pub column_fits : (w i k c : ℕ) → 0 < w → tall_from w i k c ≡ false → get_or counts i 0 + c ≤ 12
  column_fits zero i k c z h = absurd (not-suc-le-zero z)
  column_fits (suc w) i k c z h =
      let r = reached_column record { own = get_or counts i 0; constant = k % 2 } c in
      (reached_fits r (reached (input_shapes w (i + 1) counts (k / 2)) r.next) h).0

  pub fits_step : (w i k c : ℕ) → 0 < w → tall_from w i k c ≡ false → tall_from (w - 1) (i + 1) (k / 2) ((k % 2 + get_or counts i 0 + c) / 2) ≡ false
  fits_step zero i k c z h = absurd (not-suc-le-zero z)
  fits_step (suc w) i k c z h =
      let r = reached_column record { own = get_or counts i 0; constant = k % 2 } c in
      rw (sub-one (suc w)) (reached_fits r (reached (input_shapes w (i + 1) counts (k / 2)) r.next) h).1

  greatest_step : (w i k c : ℕ) → 0 < w
      → greatest_from w i k c ≡ max (get_or counts i 0 + c) (greatest_from (w - 1) (i + 1) (k / 2) ((k % 2 + get_or counts i 0 + c) / 2))
  greatest_step zero i k c z = absurd (not-suc-le-zero z)
  greatest_step (suc w) i k c z = rw (sub-one (suc w)) refl

  greatest_end : (w i k c : ℕ) → w ≤ 0 → greatest_from w i k c ≤ c
  greatest_end zero i k c z = past_low c c
  greatest_end (suc w) i k c z = absurd (not-suc-le-zero z)

  module _ (width k₀ : ℕ) where
    -- before column i, with the carry into it and the greatest height so far: the columns left may be higher
    pub record HeightsLeft (k c most i : ℕ) : Type 0 where
      pub within : i ≤ width
      pub few : c < 2147483648
      pub carry : c ≤ most
      pub same : greatest_from width 0 k₀ 0 ≡ max most (greatest_from (width - i) i k c)

    pub heights_start : HeightsLeft k₀ 0 0 0
    heights_start = record { within = omega arith; few = omega arith; carry = omega arith; same = rw (sub-zero width) (omega arith) }

    module _ {k c most i : ℕ} (left : HeightsLeft k c most i) where
      pub heights_turn : (n : ℕ) → n ≡ max most (get_or counts i 0 + c) → i < width → get_or counts i 0 < 2147483648
          → HeightsLeft (k / 2) ((k % 2 + (get_or counts i 0 + c)) / 2) n (i + 1)
      heights_turn n e h low =
          let u : width - i - 1 ≡ width - (i + 1) = omega arith in
          let size : (k % 2 + get_or counts i 0 + c) / 2 ≡ (k % 2 + (get_or counts i 0 + c)) / 2 = omega arith in
          let step = greatest_step (width - i) i k c (omega arith) ∙ (λ j. max (get_or counts i 0 + c) (greatest_from (u j) (i + 1) (k / 2) (size j))) in
          record {
            within = omega arith;
            few = omega (arith, left.few);
            carry = omega (arith, left.carry);
            same = omega (arith, left.same, step);
          }

      pub heights_end : width ≤ i → most ≡ greatest_from width 0 k₀ 0
      heights_end h = omega (arith, left.same, left.carry, greatest_end (width - i) i k c (omega arith))
