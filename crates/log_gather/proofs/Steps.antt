-- The steps over a coefficient's bits: how many are enough, and how far they reach.
use mathlib.Core.Path.{◌≡◌, refl, ap, sym, ◌∙◌}
use borrow.Author.Tests.{eqb-true}
use mathlib.Core.Bool.{Bool, true, false, cond}
use mathlib.Core.List.{List}
use Prim.Native.Nat.{ℕ, zero, suc, max, ◌+◌, ◌*◌, ◌/◌, ◌%◌, ◌≤◌, ◌<◌}
use native.Mathlib.Nat.{not-suc-le-zero}
use native.Mathlib.Omega.{arith}
use lib.Dec.{eqb}
use Rattle.arithmetic.specs.Bits.{shl}
use Rattle.arithmetic.proofs.Bits.{shl_add, shl_twice}
use Rattle.log_encoding.specs.Gather.{Grid, push_scaled, push_value}
use Rattle.log_gather.specs.Arrays.{widths}

-- half of a number, shifted once more, is no more
shl_half : (o k : ℕ) → shl (suc o) (k / 2) ≤ shl o k
shl_half o k =
    let e : k ≡ 2 * (k / 2) + k % 2 = omega arith in
    let f : shl o k ≡ 2 * shl o (k / 2) + shl o (k % 2) = ap (shl o) e ∙ shl_add o (2 * (k / 2)) (k % 2) ∙ ap (λ (x : ℕ). x + shl o (k % 2)) (shl_twice o (k / 2)) in
    omega arith

-- a number below 2 ^ m, shifted from one that is not 0, was shifted by less than m
pub shl_reach : (m a k : ℕ) → shl a k < shl m 1 → 0 < k → a < m
shl_reach zero zero k h p = absurd (omega arith)
shl_reach (suc m) zero k h p = omega arith
shl_reach zero (suc a) k h p = absurd (go a (omega arith))
  where
    go : (a : ℕ) → shl a k ≡ 0 → ⊥
    go zero e = omega arith
    go (suc a) e = go a (omega arith)
shl_reach (suc m) (suc a) k h p = let r = shl_reach m a k (omega arith) p in omega arith

-- shifted further it is no less
pub shl_more : (n m k : ℕ) → n ≤ m → shl n k ≤ shl m k
shl_more zero zero k h = omega arith
shl_more zero (suc m) k h = let r = shl_more zero m k (omega arith) in omega arith
shl_more (suc n) zero k h = absurd (not-suc-le-zero h)
shl_more (suc n) (suc m) k h = let r = shl_more n m k (omega arith) in omega arith

pub shl_next : (m o n k : ℕ) → shl (o + n) k < m → shl (o + 1 + n) (k / 2) < m
shl_next m o n k h =
    let e : o + 1 + n ≡ suc (o + n) = omega arith in
    let f = shl_half (o + n) k in
    rw e (omega arith)

-- Enough steps: f for a coefficient below 2 ^ f -------------------------------------------------------------------

no_bits : (f o : ℕ) (ls : List ℕ) (g : Grid) → push_scaled f 0 o ls g ≡ g
no_bits zero o ls g = refl
no_bits (suc f) o ls g = no_bits f (suc o) ls g

pub steps_enough : (f e k o : ℕ) (ls : List ℕ) (g : Grid) → k < shl f 1 → f ≤ e → push_scaled f k o ls g ≡ push_scaled e k o ls g
steps_enough zero e zero o ls g h l = sym (no_bits e o ls g)
steps_enough zero e (suc k) o ls g h l = absurd (omega arith)
steps_enough (suc f) zero k o ls g h l = absurd (not-suc-le-zero l)
steps_enough (suc f) (suc e) k o ls g h l =
    steps_enough f e (k / 2) (suc o) ls (cond (eqb (k % 2) 1) (push_value o ls g) g) (omega arith) (omega arith)

-- The width ----------------------------------------------------------------------------------------------------------

-- what comes to less than 2 ^ m takes m columns
pub widths_most : (m f k o n w : ℕ) → w ≤ m → shl (o + n) k < shl m 1 → widths f k o n w ≤ m
widths_most m zero k o n w h b = h
widths_most m (suc f) k o n w h b =
    let e : suc o + n ≡ o + 1 + n = omega arith in
    widths_most m f (k / 2) (suc o) n (cond (eqb (k % 2) 1) (max w (o + n)) w) (go (eqb (k % 2) 1) refl) (rw e (shl_next (shl m 1) o n k b))
  where
    go : (t : Bool) → eqb (k % 2) 1 ≡ t → cond t (max w (o + n)) w ≤ m
    go true q = let r = shl_reach m (o + n) k b (omega (arith, eqb-true (k % 2) 1 q)) in omega arith
    go false q = h

pub widths_enough : (f e k o n w : ℕ) → k < shl f 1 → f ≤ e → widths f k o n w ≡ widths e k o n w
widths_enough zero e zero o n w h l = sym (none e o)
  where
    none : (e o : ℕ) → widths e 0 o n w ≡ w
    none zero o = refl
    none (suc e) o = none e (suc o)
widths_enough zero e (suc k) o n w h l = absurd (omega arith)
widths_enough (suc f) zero k o n w h l = absurd (not-suc-le-zero l)
widths_enough (suc f) (suc e) k o n w h l =
    widths_enough f e (k / 2) (suc o) n (cond (eqb (k % 2) 1) (max w (o + n)) w) (omega arith) (omega arith)
