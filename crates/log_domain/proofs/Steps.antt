-- One turn of each loop: what a definition gives while something is left, in the loop's own terms.
use Prim.Native.Nat.{◌%◌, ◌*◌, ◌+◌, ◌-◌, ◌/◌, ◌<◌, ◌≤◌, suc, ℕ}
use borrow.Author.Tests.{eq-eqb, eqb-false, eqb-true, ne_eqb}
use lib.ListN.{length, set}
use lib.Seq.{sets}
use mathlib.Core.Bool.{Bool, beq, cond, false, not, true}
use mathlib.Core.List.{List, [], ◌++◌, ◌∷◌}
use mathlib.Core.Path.{◌∙◌, ◌≡◌, ap, ap₂, refl, sym}
use native.Mathlib.Omega.{arith}
use Rattle.arithmetic.specs.Bits.{odd}
use Rattle.sat.specs.Fresh.{fresh}
use Rattle.sat.specs.Lit.{as_lit, neg}
use Rattle.sat.proofs.Fresh.{fresh_end, fresh_start, fresh_step, length_fresh}
use Rattle.log_domain.specs.Domain.{bound}
use Rattle.log_encoding.specs.Domain.{against, at_least, at_most, gap}
use Rattle.log_encoding.proofs.VarSize.{length_against}

-- The clause against a code ------------------------------------------------------------------------------------------

neg_plain : (v : ℕ) → neg (2 * v) ≡ 2 * v + 1
unfolding neg
neg_plain v = rw (eq-eqb (2 * v % 2) 0 (omega arith))

lit_of_bit : (t : Bool) (v : ℕ) → cond t (neg (2 * v)) (2 * v) ≡ as_lit v t
lit_of_bit true v = neg_plain v
lit_of_bit false v = refl

against_step : (n v i k : ℕ) → i < n
    → against (fresh (n - i) (v + i)) k ≡ as_lit (v + i) (odd k) ∷ against (fresh (n - (i + 1)) (v + (i + 1))) (k / 2)
against_step n v i k h =
    ap (λ ls. against ls k) (fresh_step n v i h) ∙ ap (λ l. l ∷ against (fresh (n - (i + 1)) (v + (i + 1))) (k / 2)) (lit_of_bit (odd k) (v + i))

pub against_start : (s : List ℕ) (from n v k : ℕ) → sets s from (against (fresh n v) k) ≡ sets s (from + 0) (against (fresh (n - 0) (v + 0)) k)
against_start s from n v k =
    let i : from ≡ from + 0 = omega arith in
    ap₂ (λ j ls. sets s j (against ls k)) i (fresh_start n v)

pub against_turn : (s : List ℕ) {s' : List ℕ} (from n v i k : ℕ) {l : ℕ} → i < n → l ≡ as_lit (v + i) (odd k) → s' ≡ set s (from + i) l
    → sets s (from + i) (against (fresh (n - i) (v + i)) k) ≡ sets s' (from + (i + 1)) (against (fresh (n - (i + 1)) (v + (i + 1))) (k / 2))
against_turn s from n v i k h e p =
    let rest : List ℕ = against (fresh (n - (i + 1)) (v + (i + 1))) (k / 2) in
    let place : suc (from + i) ≡ from + (i + 1) = omega arith in
    ap (sets s (from + i)) (against_step n v i k h)
    ∙ ap₂ (λ t j. sets t j rest) (ap (set s (from + i)) (sym e) ∙ sym p) place

pub against_long : (n v k : ℕ) → length (against (fresh n v) k) ≡ n
against_long n v k = length_against (fresh n v) k ∙ length_fresh n v

-- all of it is stored
pub against_stored : (s d : List ℕ) (from n v i k x : ℕ) → n ≤ i
    → sets s from (against (fresh n v) k) ≡ sets d (from + i) (against (fresh (n - i) (v + i)) x) → d ≡ sets s from (against (fresh n v) k)
against_stored s d from n v i k x h p = sym (p ∙ ap (λ ls. sets d (from + i) (against ls x)) (fresh_end n v i h))

-- Bounds and gaps ----------------------------------------------------------------------------------------------------

-- the code that differs from k in the lowest bit
other_odd : (k : ℕ) (t : Bool) → odd k ≡ t → odd (k + 1 - 2 * (k % 2)) ≡ not t
other_odd k true e = ne_eqb ((k + 1 - 2 * (k % 2)) % 2) 1 (omega (arith, eqb-true (k % 2) 1 e))
other_odd k false e = let h : ¬ (k % 2 ≡ 1) = eqb-false (k % 2) 1 e in eq-eqb ((k + 1 - 2 * (k % 2)) % 2) 1 (omega arith)

bound_cons : (lower : Bool) (l : ℕ) (ls : List ℕ) (k : ℕ)
    → bound lower (l ∷ ls) k ≡ cond (beq (odd k) lower) (against (l ∷ ls) (k + 1 - 2 * (k % 2)) ∷ []) [] ++ bound lower ls (k / 2)
bound_cons lower l ls k = go lower (odd k) refl
  where
    half : (k + 1 - 2 * (k % 2)) / 2 ≡ k / 2
    half = omega arith

    go : (w t : Bool) → odd k ≡ t
        → cond w (cond t ((l ∷ against ls (k / 2)) ∷ []) [] ++ at_least ls (k / 2)) (cond t [] ((neg l ∷ against ls (k / 2)) ∷ []) ++ at_most ls (k / 2))
        ≡ cond (beq t w) (against (l ∷ ls) (k + 1 - 2 * (k % 2)) ∷ []) [] ++ cond w (at_least ls (k / 2)) (at_most ls (k / 2))
    go true true e = rw (other_odd k true e, half)
    go true false e = refl
    go false true e = refl
    go false false e = rw (other_odd k false e, half)

pub bound_step : (lower : Bool) (n v i k : ℕ) → i < n
    → bound lower (fresh (n - i) (v + i)) k
    ≡ cond (beq (odd k) lower) (against (fresh (n - i) (v + i)) (k + 1 - 2 * (k % 2)) ∷ []) [] ++ bound lower (fresh (n - (i + 1)) (v + (i + 1))) (k / 2)
bound_step lower n v i k h = rw (fresh_step n v i h) (bound_cons lower (2 * (v + i)) (fresh (n - (i + 1)) (v + (i + 1))) k)

pub bound_taken : (lower : Bool) (n v i k : ℕ) → i < n → beq (odd k) lower ≡ true
    → bound lower (fresh (n - i) (v + i)) k
    ≡ (against (fresh (n - i) (v + i)) (k + 1 - 2 * (k % 2)) ∷ []) ++ bound lower (fresh (n - (i + 1)) (v + (i + 1))) (k / 2)
bound_taken lower n v i k h e = bound_step lower n v i k h ∙ ap (λ w. cond w (against (fresh (n - i) (v + i)) (k + 1 - 2 * (k % 2)) ∷ []) [] ++ bound lower (fresh (n - (i + 1)) (v + (i + 1))) (k / 2)) e

pub bound_passed : (lower : Bool) (n v i k : ℕ) → i < n → beq (odd k) lower ≡ false
    → bound lower (fresh (n - i) (v + i)) k ≡ bound lower (fresh (n - (i + 1)) (v + (i + 1))) (k / 2)
bound_passed lower n v i k h e = bound_step lower n v i k h ∙ ap (λ w. cond w (against (fresh (n - i) (v + i)) (k + 1 - 2 * (k % 2)) ∷ []) [] ++ bound lower (fresh (n - (i + 1)) (v + (i + 1))) (k / 2)) e

pub bound_start : (lower : Bool) (n v k : ℕ) → bound lower (fresh n v) k ≡ bound lower (fresh (n - 0) (v + 0)) k
bound_start lower n v k = ap (λ ls. bound lower ls k) (fresh_start n v)

pub bound_end : (lower : Bool) (n v i k : ℕ) → n ≤ i → bound lower (fresh (n - i) (v + i)) k ≡ []
bound_end lower n v i k h = ap (λ ls. bound lower ls k) (fresh_end n v i h) ∙ go lower
  where
    go : (w : Bool) → bound w [] k ≡ []
    go true = refl
    go false = refl

pub gap_start : (ls : List ℕ) (k many : ℕ) → gap ls k many ≡ gap ls k (k + many - k)
gap_start ls k many = let m : many ≡ k + many - k = omega arith in ap (gap ls k) m

pub gap_step : (ls : List ℕ) (x end : ℕ) → x < end → gap ls x (end - x) ≡ (against ls x ∷ []) ++ gap ls (x + 1) (end - (x + 1))
gap_step ls x end h =
    let e : end - x ≡ suc (end - (x + 1)) = omega arith in
    let f : suc x ≡ x + 1 = omega arith in
    ap (gap ls x) e ∙ ap (λ y. against ls x ∷ gap ls y (end - (x + 1))) f

pub gap_end : (ls : List ℕ) (x end : ℕ) → end ≤ x → gap ls x (end - x) ≡ []
gap_end ls x end h = let e : end - x ≡ 0 = omega arith in ap (gap ls x) e
