-- A literal and its negation.
use Prim.Native.Nat.{◌%◌, ◌*◌, ◌+◌, ◌-◌, ◌/◌, ◌<◌, ◌≤◌, ℕ}
use borrow.Author.Tests.{eq-eqb, eqb-false, eqb-true, ne_eqb}
use lib.Dec.{eqb}
use mathlib.Core.Bool.{Bool, cond, false, not, true}
use mathlib.Core.List.{List, [], ◌∷◌, map}
use mathlib.Core.Path.{◌∙◌, ◌≡◌, ap, refl, sym}
use native.Mathlib.Omega.{arith}
use Rattle.sat.specs.Clause.{Assignment, bit, holds}
use Rattle.sat.specs.Encodes.{LitsBelow}
use Rattle.sat.specs.Lit.{neg}

pub holds_even : (α : Assignment) (l : ℕ) → l % 2 ≡ 0 → holds α l ≡ α (l / 2)
unfolding holds
holds_even α l e = rw (eq-eqb (l % 2) 0 e)

pub holds_odd : (α : Assignment) (l : ℕ) → l % 2 ≡ 1 → holds α l ≡ not (α (l / 2))
unfolding holds
holds_odd α l e = rw (ne_eqb (l % 2) 0 (omega arith))

not_not : (b : Bool) → not (not b) ≡ b
not_not true = refl
not_not false = refl

pub holds_neg : (α : Assignment) (l : ℕ) → holds α (neg l) ≡ not (holds α l)
unfolding holds neg
holds_neg α l = go (eqb (l % 2) 0) refl
  where
    go : (t : Bool) → eqb (l % 2) 0 ≡ t → holds α (cond t (l + 1) (l - 1)) ≡ not (cond t (α (l / 2)) (not (α (l / 2))))
    go true q = let even : l % 2 ≡ 0 = eqb-true (l % 2) 0 q in
        holds_odd α (l + 1) (omega arith) ∙ ap (λ v. not (α v)) (omega arith)
    go false q = let odd : ¬ (l % 2 ≡ 0) = eqb-false (l % 2) 0 q in
        holds_even α (l - 1) (omega arith) ∙ ap α (omega arith) ∙ sym (not_not (α (l / 2)))

pub bit_neg : (α : Assignment) (l : ℕ) → bit α (neg l) + bit α l ≡ 1
bit_neg α l = rw holds_neg (go (holds α l))
  where
    go : (t : Bool) → cond (not t) 1 0 + cond t 1 0 ≡ 1
    go true = refl
    go false = refl

pub neg_neg : (l : ℕ) → neg (neg l) ≡ l
unfolding neg
neg_neg l = go (eqb (l % 2) 0) refl
  where
    go : (t : Bool) → eqb (l % 2) 0 ≡ t → (let m = cond t (l + 1) (l - 1) in cond (eqb (m % 2) 0) (m + 1) (m - 1) ≡ l)
    go true q = let even : l % 2 ≡ 0 = eqb-true (l % 2) 0 q in rw (ne_eqb ((l + 1) % 2) 0 (omega arith)) (omega arith)
    go false q = let odd : ¬ (l % 2 ≡ 0) = eqb-false (l % 2) 0 q in rw (eq-eqb ((l - 1) % 2) 0 (omega arith)) (omega arith)

pub neg_below : (v l : ℕ) → l < 2 * v → neg l < 2 * v
unfolding neg
neg_below v l h = go (eqb (l % 2) 0) refl
  where
    go : (t : Bool) → eqb (l % 2) 0 ≡ t → cond t (l + 1) (l - 1) < 2 * v
    go true q = omega (arith, eqb-true (l % 2) 0 q)
    go false q = omega arith

pub negs_below : (v : ℕ) (ls : List ℕ) → LitsBelow v ls → LitsBelow v (map neg ls)
negs_below v [] b = tt
negs_below v (l ∷ ls) b = (neg_below v l b.0, negs_below v ls b.1)

pub holds_plain : (α : Assignment) (x : ℕ) → holds α (2 * x) ≡ α x
holds_plain α x = holds_even α (2 * x) (omega arith) ∙ ap α (omega arith)

pub bit_le : (α : Assignment) (l : ℕ) → bit α l ≤ 1
bit_le α l = go (holds α l)
  where
    go : (t : Bool) → cond t 1 0 ≤ 1
    go true = omega arith
    go false = omega arith

pub bit_holds : (α β : Assignment) (l : ℕ) → bit α l ≡ bit β l → holds α l ≡ holds β l
bit_holds α β l e = go (holds α l) (holds β l) e
  where
    go : (s t : Bool) → ◌≡◌ {A = ℕ} (cond s 1 0) (cond t 1 0) → s ≡ t
    go true true e' = refl
    go true false e' = absurd (omega arith)
    go false true e' = absurd (omega arith)
    go false false e' = refl
