-- The heights of the columns that the adder of Eq reaches, as the code comes by them: a column, a dead end, the end.
use Prim.Native.Nat.{◌%◌, ◌+◌, ◌-◌, ◌/◌, ◌<◌, ◌≤◌, max, suc, zero, ℕ}
use borrow.Author.Tests.{le-leb, le-ltb, lt-leb, ltb-false}
use lib.ListN.{drop, get_or, length, take}
use lib.Seq.{drop-cons, take_all}
use mathlib.Core.Bool.{Bool, cond, false}
use mathlib.Core.List.{List, [], ◌∷◌}
use mathlib.Core.Path.{◌∙◌, ◌≡◌, ap, refl, sym}
use native.Mathlib.Nat.{not-suc-le-zero, sub-zero}
use native.Mathlib.Numerals.{add-one, sub-one}
use native.Mathlib.Omega.{arith}
use Rattle.log_encoding.specs.AdderSize.{Reached, eq_column_reached, eq_reached, greatest_height, has_carry, too_tall}
use Rattle.log_encoding.proofs.Heights.{reached_fits}

module _ (counts : List ℕ) where
  -- the counts of w columns from the i-th on
  abbrev pub counts_from : ℕ → ℕ → List ℕ
  counts_from zero i = []
  counts_from (suc w) i = get_or counts i 0 ∷ counts_from w (i + 1)

  counts_from_drop : (w i : ℕ) → i + w ≤ length counts → take w (drop i counts) ≡ counts_from w i
  counts_from_drop zero i h = refl
  counts_from_drop (suc w) i h =
      let k : i < length counts = omega arith in
      let r : take w (drop (suc i) counts) ≡ counts_from w (i + 1) =
      ap (λ (j : ℕ). take w (drop j counts)) (sym (add-one i)) ∙ counts_from_drop w (i + 1) (omega arith) in
      rw (drop-cons counts i 0 k, r)

  pub counts_from_take : (w : ℕ) → w ≤ length counts → take w counts ≡ counts_from w 0
  counts_from_take w h = counts_from_drop w 0 (omega arith)

  counts_all : counts ≡ counts_from (length counts) 0
  counts_all = sym (take_all (length counts) counts (omega arith)) ∙ counts_from_take (length counts) (omega arith)

  -- the greatest height of w columns from the i-th on that are reached, with a carry of c literals and x and y
  abbrev greatest_from : ℕ → ℕ → ℕ → ℕ → ℕ → ℕ
  greatest_from w i x y c = greatest_height (eq_reached (counts_from w i) x y c)

  -- one of these columns is above 12
  abbrev pub tall_from : ℕ → ℕ → ℕ → ℕ → ℕ → Bool
  tall_from w i x y c = too_tall (eq_reached (counts_from w i) x y c)

  -- all columns, as the adder is asked for them
  pub all_fit : (width x y : ℕ) → 1 ≤ width → width ≤ length counts → too_tall (eq_reached (take width counts) x y 0) ≡ false
      → tall_from (suc (width - 1)) 0 x y 0 ≡ false
  all_fit width x y l h f =
      let n : width ≡ suc (width - 1) = omega arith in
      sym (ap (λ (hs : List ℕ). too_tall (eq_reached hs x y 0)) (counts_from_take width h ∙ ap (λ (w : ℕ). counts_from w 0) n)) ∙ f

  pub all_reached : (x y : ℕ) → 1 ≤ length counts → too_tall (eq_reached counts x y 0) ≡ false → tall_from (suc (length counts - 1)) 0 x y 0 ≡ false
  all_reached x y l f = all_fit (length counts) x y l (omega arith) (ap (λ hs. too_tall (eq_reached hs x y 0)) (take_all (length counts) counts (omega arith)) ∙ f)

  greatest_step : (w i x y c : ℕ) → 0 < w → (x + y) % 2 ≤ get_or counts i 0 + c
      → greatest_from w i x y c
      ≡ max (get_or counts i 0 + c) (greatest_from (w - 1) (i + 1) ((x + 1) / 2) (y / 2) ((get_or counts i 0 + c - (x + y) % 2) / 2))
  greatest_step zero i x y c z k = absurd (not-suc-le-zero z)
  greatest_step (suc zero) i x y c z k = refl
  greatest_step (suc (suc w)) i x y c z k = rw (le-leb ((x + y) % 2) (get_or counts i 0 + c) k, sub-one (suc (suc w)))

  greatest_dead : (w i x y c : ℕ) → 0 < w → get_or counts i 0 + c < (x + y) % 2 → greatest_from w i x y c ≡ get_or counts i 0 + c
  greatest_dead zero i x y c z k = absurd (not-suc-le-zero z)
  greatest_dead (suc zero) i x y c z k = omega arith
  greatest_dead (suc (suc w)) i x y c z k = rw (lt-leb ((x + y) % 2) (get_or counts i 0 + c) k) (omega arith)

  greatest_end : (w i x y c : ℕ) → w ≤ 0 → greatest_from w i x y c ≡ 0
  greatest_end zero i x y c h = refl
  greatest_end (suc w) i x y c h = absurd (not-suc-le-zero h)

  pub column_fits : (w i x y c : ℕ) → 0 < w → tall_from w i x y c ≡ false → get_or counts i 0 + c ≤ 12
  column_fits zero i x y c z h = absurd (not-suc-le-zero z)
  column_fits (suc zero) i x y c z h = (reached_fits record { own = get_or counts i 0; carry = c; constant = (x + y) % 2; next = 0 } [] h).0
  column_fits (suc (suc w)) i x y c z h =
      let r : Reached = eq_column_reached (get_or counts i 0) c x y in
      (reached_fits r (cond (has_carry r) (eq_reached (counts_from (suc w) (i + 1)) ((x + 1) / 2) (y / 2) r.next) []) h).0

  pub fits_step : (w i x y c : ℕ) → 0 < w → (x + y) % 2 ≤ get_or counts i 0 + c → tall_from w i x y c ≡ false
      → tall_from (w - 1) (i + 1) ((x + 1) / 2) (y / 2) ((get_or counts i 0 + c - (x + y) % 2) / 2) ≡ false
  fits_step w i x y c z k h =
      let rest : ℕ = greatest_from (w - 1) (i + 1) ((x + 1) / 2) (y / 2) ((get_or counts i 0 + c - (x + y) % 2) / 2) in
      le-ltb 12 rest (omega (arith, greatest_step w i x y c z k, ltb-false 12 (greatest_from w i x y c) h))

  module _ (x₀ y₀ : ℕ) where
    -- before column i, with the carry into it, what is left of x and y and the greatest height so far: the columns left may be higher
    pub record HeightsLeft (x y c most i : ℕ) : Type 0 where
      pub within : i ≤ length counts
      pub few : c < 2147483648
      pub x_low : x < 2147483648
      pub y_low : y < 2147483648
      pub same : greatest_height (eq_reached counts x₀ y₀ 0) ≡ max most (greatest_from (length counts - i) i x y c)

    pub heights_start : x₀ < 2147483648 → y₀ < 2147483648 → HeightsLeft x₀ y₀ 0 0 0
    heights_start p q =
        let all = ap (λ (hs : List ℕ). greatest_height (eq_reached hs x₀ y₀ 0)) counts_all in
        record { within = omega arith; few = omega arith; x_low = p; y_low = q; same = rw (sub-zero (length counts)) (omega (arith, all)) }

    module _ {x y c most i : ℕ} (left : HeightsLeft x y c most i) (n : ℕ) (e : n ≡ max most (get_or counts i 0 + c)) (h : i < length counts) where
      pub heights_turn : get_or counts i 0 < 2147483648 → (x + y) % 2 ≤ get_or counts i 0 + c
          → HeightsLeft ((x + 1) / 2) (y / 2) ((get_or counts i 0 + c - (x + y) % 2) / 2) n (i + 1)
      heights_turn low k =
          let u : length counts - i - 1 ≡ length counts - (i + 1) = omega arith in
          let step = greatest_step (length counts - i) i x y c (omega arith) k
          ∙ (λ j. max (get_or counts i 0 + c) (greatest_from (u j) (i + 1) ((x + 1) / 2) (y / 2) ((get_or counts i 0 + c - (x + y) % 2) / 2))) in
          record {
            within = omega arith;
            few = omega (arith, left.few);
            x_low = omega (arith, left.x_low);
            y_low = omega (arith, left.y_low);
            same = omega (arith, left.same, step);
          }

    pub heights_end : {x y c most i : ℕ} → HeightsLeft x y c most i → length counts ≤ i → most ≡ greatest_height (eq_reached counts x₀ y₀ 0)
    heights_end {x} {y} {c} {most} {i} left h = omega (arith, left.same, greatest_end (length counts - i) i x y c (omega arith))
