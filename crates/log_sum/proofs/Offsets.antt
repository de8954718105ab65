-- Coefficients times offsets, added up from the first term on.
use mathlib.Core.Path.{◌≡◌, refl, ap, sym, ◌∙◌}
use mathlib.Core.List.{List, [], ◌∷◌}
use Prim.Native.Nat.{ℕ, min, suc, ◌+◌, ◌*◌, ◌/◌, ◌≤◌, ◌<◌}
use native.Mathlib.Nat.{mul-le-mul}
use native.Mathlib.Omega.{arith}
use lib.IntN.{◌*ℤ◌, ◌+ℤ◌, negsuc, pos, ℤ}
use lib.ListN.{length, drop, get_or, length-drop}
use lib.Seq.{drop-cons}
use mir.Syntax.{w32}
use mir.Val.{SFits}
use Rattle.arithmetic.specs.Integers.{down, up}
use Rattle.arithmetic.proofs.Integers.{add_read, apart_read, mul_read}
use Rattle.arithmetic.proofs.Offset.{mag_below}
use Rattle.norm_csp.specs.Rules.{LinearTerm, linear_sum, terms_of}
use Rattle.norm_csp.proofs.Turned.{sum_from}

-- One product ---------------------------------------------------------------------------------------------------------

pub product_small : (x y : ℤ) → up x ≤ 255 → down x ≤ 255 → up y ≤ 4095 → down y ≤ 4095 → (up (x *ℤ y) ≤ 1044225) × (down (x *ℤ y) ≤ 1044225)
product_small x y a b c d = go x y a b c d (mul_read x y) (apart_read (x *ℤ y))
  where
    go : (x y : ℤ) → up x ≤ 255 → down x ≤ 255 → up y ≤ 4095 → down y ≤ 4095
        → up (x *ℤ y) + (up x * down y + down x * up y) ≡ down (x *ℤ y) + (up x * up y + down x * down y) → min (up (x *ℤ y)) (down (x *ℤ y)) ≡ 0
        → (up (x *ℤ y) ≤ 1044225) × (down (x *ℤ y) ≤ 1044225)
    go (pos m) (pos n) a b c d r z = let p : m * n ≤ 255 * 4095 = mul-le-mul a c in (omega arith, omega arith)
    go (pos m) (negsuc n) a b c d r z = let p : m * suc n ≤ 255 * 4095 = mul-le-mul a d in (omega arith, omega arith)
    go (negsuc m) (pos n) a b c d r z = let p : suc m * n ≤ 255 * 4095 = mul-le-mul b c in (omega arith, omega arith)
    go (negsuc m) (negsuc n) a b c d r z = let p : suc m * suc n ≤ 255 * 4095 = mul-le-mul b d in (omega arith, omega arith)

pub added_small : (x y : ℤ) → (up (x +ℤ y) ≤ up x + up y) × (down (x +ℤ y) ≤ down x + down y)
added_small x y = let r = add_read x y in let z = apart_read (x +ℤ y) in (omega arith, omega arith)

pub small_fits : (z : ℤ) → up z < 2147483648 → down z < 2147483648 → SFits w32 z
small_fits z a b = record { sfits = mag_below z 2147483648 a b }

-- Added up from the first term on --------------------------------------------------------------------------------------

-- the terms from the i-th on
abbrev pub terms_from : List ℤ → ℕ → List LinearTerm
terms_from zs i = terms_of (drop (2 * i) zs)

pub terms_next : (zs : List ℤ) (i : ℕ) → 2 * i + 1 < length zs
    → terms_from zs i ≡ record { var = up (get_or zs (2 * i) (pos 0)); coef = get_or zs (2 * i + 1) (pos 0) } ∷ terms_from zs (i + 1)
terms_next zs i h =
    let a = drop-cons zs (2 * i) (pos 0) (omega arith) in
    let e : suc (2 * i) ≡ 2 * i + 1 = omega arith in
    let b = drop-cons zs (2 * i + 1) (pos 0) h in
    let f : suc (2 * i + 1) ≡ 2 * (i + 1) = omega arith in
    ap terms_of (a ∙ ap (λ (n : ℕ). get_or zs (2 * i) (pos 0) ∷ drop n zs) e ∙ ap (λ (xs : List ℤ). get_or zs (2 * i) (pos 0) ∷ xs) (b ∙ ap (λ (n : ℕ). get_or zs (2 * i + 1) (pos 0) ∷ drop n zs) f))

-- past the last pair
pub terms_done : (zs : List ℤ) (i : ℕ) → length zs / 2 ≤ i → terms_from zs i ≡ []
terms_done zs i h = go (drop (2 * i) zs) (omega (arith, length-drop (2 * i) zs))
  where
    go : (xs : List ℤ) → length xs ≤ 1 → terms_of xs ≡ []
    go [] h = refl
    go (x ∷ []) h = refl
    go (x ∷ y ∷ xs) h = absurd (omega arith)

pub sum_turn : (number : ℕ → ℤ) (all : ℤ) (zs : List ℤ) (i : ℕ) (s : ℤ) → 2 * i + 1 < length zs → all ≡ linear_sum number s (terms_from zs i)
    → all ≡ linear_sum number ((get_or zs (2 * i + 1) (pos 0) *ℤ number (up (get_or zs (2 * i) (pos 0)))) +ℤ s) (terms_from zs (i + 1))
sum_turn number all zs i s h e =
    e ∙ ap (linear_sum number s) (terms_next zs i h)
    ∙ sym (sum_from number (get_or zs (2 * i + 1) (pos 0) *ℤ number (up (get_or zs (2 * i) (pos 0)))) s (terms_from zs (i + 1)))
