-- Counts of literals, and lists in which after the first literal that fails none holds.
use Prim.Native.Nat.{◌+◌, ◌<◌, ◌≤◌, suc, zero, ℕ}
use borrow.Author.Tests.{le-leb, lt-leb}
use lib.Dec.{leb}
use lib.ListN.{get_or, length}
use mathlib.Core.Bool.{Bool, cond, false, true}
use mathlib.Core.List.{List, [], ◌++◌, ◌∷◌, map}
use mathlib.Core.Path.{◌∙◌, ◌≡◌, ap, refl, sym}
use native.Mathlib.Omega.{arith}
use Rattle.arithmetic.proofs.Tests.{leb_same}
use Rattle.sat.specs.Clause.{Assignment, bit, holds}
use Rattle.sat.specs.Count.{Monotone, count, lead}
use Rattle.sat.specs.Lit.{neg}
use Rattle.sat.proofs.Lits.{bit_neg}

pub lead_le : (α : Assignment) (ls : List ℕ) → lead α ls ≤ length ls
lead_le α [] = omega arith
lead_le α (l ∷ ls) = go (holds α l) (lead_le α ls)
  where
    go : (t : Bool) → lead α ls ≤ length ls → cond t (suc (lead α ls)) 0 ≤ suc (length ls)
    go true h = omega arith
    go false h = omega arith

none_at : (α : Assignment) (ls : List ℕ) (j : ℕ) → count α ls ≡ 0 → j < length ls → holds α (get_or ls j 0) ≡ false
none_at α [] j e h = absurd (omega arith)
none_at α (l ∷ ls) zero e h = go (holds α l) refl e
  where
    go : (t : Bool) → holds α l ≡ t → cond t 1 0 + count α ls ≡ 0 → holds α l ≡ false
    go true q e' = absurd (omega arith)
    go false q e' = q
none_at α (l ∷ ls) (suc j) e h = none_at α ls j (omega arith) (omega arith)

-- of falling literals, those below the lead hold and no others
pub monotone_at : (α : Assignment) (ls : List ℕ) (j : ℕ) → Monotone α ls → j < length ls → holds α (get_or ls j 0) ≡ leb (suc j) (lead α ls)
monotone_at α [] j f h = absurd (omega arith)
monotone_at α (l ∷ ls) zero f h = go (holds α l)
  where
    go : (t : Bool) → t ≡ leb 1 (cond t (suc (lead α ls)) 0)
    go true = sym (le-leb 1 (suc (lead α ls)) (omega arith))
    go false = refl
monotone_at α (l ∷ ls) (suc j) f h = go (holds α l) f (monotone_at α ls j)
  where
    go : (t : Bool) → cond t (suc (lead α ls)) 0 ≡ cond t 1 0 + count α ls
        → (Monotone α ls → j < length ls → holds α (get_or ls j 0) ≡ leb (suc j) (lead α ls))
        → holds α (get_or ls j 0) ≡ leb (suc (suc j)) (cond t (suc (lead α ls)) 0)
    go true e ih = ih (omega arith) (omega arith) ∙ leb_same (suc j) (lead α ls) (suc (suc j)) (suc (lead α ls)) (omega arith)
    go false e ih = none_at α ls j (omega arith) (omega arith) ∙ sym (lt-leb (suc (suc j)) 0 (omega arith))

pub lead_le_count : (α : Assignment) (ls : List ℕ) → lead α ls ≤ count α ls
lead_le_count α [] = omega arith
lead_le_count α (l ∷ ls) = go (holds α l) (lead_le_count α ls)
  where
    go : (t : Bool) → lead α ls ≤ count α ls → cond t (suc (lead α ls)) 0 ≤ cond t 1 0 + count α ls
    go true h = omega arith
    go false h = omega arith

pub count_le : (α : Assignment) (ls : List ℕ) → count α ls ≤ length ls
count_le α [] = omega arith
count_le α (l ∷ ls) = go (holds α l) (count_le α ls)
  where
    go : (t : Bool) → count α ls ≤ length ls → cond t 1 0 + count α ls ≤ suc (length ls)
    go true h = omega arith
    go false h = omega arith

pub count_append : (α : Assignment) (xs ys : List ℕ) → count α (xs ++ ys) ≡ count α xs + count α ys
count_append α [] ys = omega arith
count_append α (x ∷ xs) ys = omega (arith, count_append α xs ys)

pub count_neg : (α : Assignment) (ls : List ℕ) → count α (map neg ls) + count α ls ≡ length ls
count_neg α [] = refl
count_neg α (l ∷ ls) = omega (arith, count_neg α ls, bit_neg α l)

pub lead_snoc_false : (α : Assignment) (xs : List ℕ) (y : ℕ) → bit α y ≡ 0 → lead α (xs ++ (y ∷ [])) ≡ lead α xs
lead_snoc_false α [] y e = e
lead_snoc_false α (x ∷ xs) y e = ap (λ k. cond (holds α x) (suc k) 0) (lead_snoc_false α xs y e)

pub lead_snoc_full : (α : Assignment) (xs : List ℕ) (y : ℕ) → lead α xs ≡ length xs → lead α (xs ++ (y ∷ [])) ≡ length xs + bit α y
lead_snoc_full α [] y e = omega arith
lead_snoc_full α (x ∷ xs) y e = go (holds α x) e (lead_snoc_full α xs y)
  where
    go : (t : Bool) → cond t (suc (lead α xs)) 0 ≡ suc (length xs)
        → (lead α xs ≡ length xs → lead α (xs ++ (y ∷ [])) ≡ length xs + bit α y)
        → cond t (suc (lead α (xs ++ (y ∷ [])))) 0 ≡ suc (length xs) + bit α y
    go true e' ih = omega (arith, ih (omega arith))
    go false e' ih = absurd (omega arith)

pub lead_full : (α : Assignment) (xs : List ℕ) → count α xs ≡ length xs → lead α xs ≡ length xs
lead_full α [] e = refl
lead_full α (x ∷ xs) e = go (holds α x) e (lead_full α xs)
  where
    go : (t : Bool) → cond t 1 0 + count α xs ≡ suc (length xs) → (count α xs ≡ length xs → lead α xs ≡ length xs)
        → cond t (suc (lead α xs)) 0 ≡ suc (length xs)
    go true e' ih = omega (arith, ih (omega arith))
    go false e' ih = absurd (omega (arith, count_le α xs))

pub monotone_one : (α : Assignment) (l : ℕ) → Monotone α (l ∷ [])
monotone_one α l = go (holds α l)
  where
    go : (t : Bool) → cond t 1 0 ≡ cond t 1 0 + 0
    go true = refl
    go false = refl
