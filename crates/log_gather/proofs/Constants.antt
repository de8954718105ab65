-- The columns with the bits of a constant, as wide as the columns and the constant.
use mathlib.Core.Path.{◌≡◌, refl, ap, sym, ◌∙◌}
use mathlib.Core.Bool.{Bool, true, false, cond}
use mathlib.Core.List.{List, [], ◌∷◌, map, map-append}
use Prim.Native.Nat.{ℕ, zero, suc, max, ◌+◌, ◌-◌, ◌*◌, ◌/◌, ◌%◌, ◌^◌, ◌<◌}
use native.Mathlib.Nat.{pow-succ', not-suc-le-zero, pow-zero}
use native.Mathlib.Numerals.{add-one}
use native.Mathlib.Omega.{arith}
use lib.Dec.{eqb}
use lib.ListN.{length, get_or, take, set}
use lib.Seq.{take-suc, take-suc-set}
use Rattle.arithmetic.specs.Bits.{bit_length_within}
use Rattle.arithmetic.proofs.Bits.{within_zero}
use Rattle.sat.specs.declared.Lit.{Lit}
use Rattle.sat.specs.Lit.{neg}
use Rattle.log_encoding.specs.Adder.{AdderColumn}
use Rattle.sat.specs.LitArray.{first_lits, lit, num}
use Rattle.log_encoding.specs.Gather.{Grid, with_constant}
use Rattle.log_gather.specs.Arrays.{grid_columns}

grid_shift : (w i : ℕ) (c : List ℕ) (g : Grid) (k : ℕ) → grid_columns w (suc i) (c ∷ g) k ≡ grid_columns w i g k
grid_shift zero i c g k = refl
grid_shift (suc w) i c g k =
    let e : suc i + 1 ≡ suc (i + 1) = omega arith in
    ap (λ (r : List AdderColumn). record { own = get_or g i []; constant = k % 2 } ∷ r) (ap (λ (j : ℕ). grid_columns w j (c ∷ g) (k / 2)) e ∙ grid_shift w (i + 1) c g (k / 2))

none_past : (f k i : ℕ) → with_constant f [] k ≡ grid_columns (bit_length_within f k) i [] k
none_past zero k i = refl
none_past (suc f) zero i = refl
none_past (suc f) (suc k) i = ap (λ (r : List AdderColumn). record { own = []; constant = suc k % 2 } ∷ r) (none_past f (suc k / 2) (i + 1))

bits_more : (f k : ℕ) → k < 2 ^ f → bit_length_within (suc f) k ≡ bit_length_within f k
bits_more zero zero h = refl
bits_more zero (suc k) h = let z : suc k < 1 = rw pow-zero at h in absurd (omega arith)
bits_more (suc f) zero h = refl
bits_more (suc f) (suc k) h =
    let z : suc k < 2 * 2 ^ f = rw (pow-succ' 2 f) at h in
    ap suc (bits_more f (suc k / 2) (omega arith))

bits_half : (f k : ℕ) → 0 < k → k < 2 ^ f → bit_length_within f k ≡ suc (bit_length_within f (k / 2))
bits_half zero k p h = let z : k < 1 = rw pow-zero at h in absurd (omega arith)
bits_half (suc f) zero p h = absurd (not-suc-le-zero p)
bits_half (suc f) (suc k) p h =
    let z : suc k < 2 * 2 ^ f = rw (pow-succ' 2 f) at h in
    ap suc (sym (bits_more f (suc k / 2) (omega arith)))

-- the definition's columns are those of the width that the code has
pub constant_grid : (f : ℕ) (g : Grid) (k : ℕ) → k < 2 ^ f → with_constant f g k ≡ grid_columns (max (length g) (bit_length_within f k)) 0 g k
constant_grid f [] k h =
    let e : bit_length_within f k ≡ max 0 (bit_length_within f k) = omega arith in
    none_past f k 0 ∙ ap (λ (w : ℕ). grid_columns w 0 [] k) e
constant_grid f (c ∷ g) k h =
    let r = constant_grid f g (k / 2) (omega arith) in
    let w : ℕ = max (length g) (bit_length_within f (k / 2)) in
    ap (λ (x : List AdderColumn). record { own = c; constant = k % 2 } ∷ x) (r ∙ sym (grid_shift w 0 c g (k / 2)))
    ∙ ap (λ (n : ℕ). grid_columns n 0 (c ∷ g) k) (width k h)
  where
    width : (k : ℕ) → k < 2 ^ f → suc (max (length g) (bit_length_within f (k / 2))) ≡ max (length (c ∷ g)) (bit_length_within f k)
    width zero h = let e : bit_length_within f 0 ≡ 0 = within_zero f in let e₂ : bit_length_within f (0 / 2) ≡ 0 = within_zero f in omega arith
    width (suc k) h = let e = bits_half f (suc k) (omega arith) h in omega arith

-- Literals negated ---------------------------------------------------------------------------------------------------

pub negate_more : (out lits : List Lit) (i : ℕ) (l : Lit) → i < length out → i < length lits → l.0 ≡ neg (get_or lits i (lit 0)).0
    → first_lits out i ≡ map neg (first_lits lits i) → first_lits (set out i l) (i + 1) ≡ map neg (first_lits lits (i + 1))
negate_more out lits i l h k e q =
    rw (add-one i, take-suc-set out i l h, take-suc lits i (lit 0) k, map-append num (take i out) (l ∷ []), map-append num (take i lits) (get_or lits i (lit 0) ∷ []), map-append neg (first_lits lits i) ((get_or lits i (lit 0)).0 ∷ []), q, e)

pub neg_low : (l : ℕ) → l < 2147483647 → neg l < 2147483648
unfolding neg
neg_low l h = go (eqb (l % 2) 0) where
  go : (b : Bool) → cond b (l + 1) (l - 1) < 2147483648
  go true = omega arith
  go false = omega arith
