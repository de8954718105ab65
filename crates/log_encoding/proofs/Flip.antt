-- The thresholds of minus a number.
use Prim.Native.Nat.{◌+◌, suc, zero, ℕ}
use lib.ListN.{get_or-append, get_or, length, length-append}
use lib.Seq.{get_or-append-add}
use mathlib.Core.Bool.{Bool, cond, false, true}
use mathlib.Core.List.{List, [], ◌++◌, ◌∷◌, map, reverse, reverse-cons}
use mathlib.Core.Path.{◌∙◌, ◌≡◌, ap, refl}
use native.Mathlib.Omega.{arith}
use Rattle.sat.specs.Clause.{Assignment, bit, holds}
use Rattle.sat.specs.Count.{Monotone, count, lead}
use Rattle.sat.specs.Encodes.{LitsBelow}
use Rattle.sat.specs.Lit.{neg}
use Rattle.sat.proofs.Counts.{count_append, lead_full, lead_le_count, lead_snoc_false, lead_snoc_full}
use Rattle.sat.proofs.Extend.{lits_below_append}
use Rattle.sat.proofs.Lits.{bit_neg, neg_below, neg_neg}
use Rattle.log_encoding.specs.Terms.{flip}

pub length_flip : (ls : List ℕ) → length (flip ls) ≡ length ls
length_flip [] = refl
length_flip (l ∷ ls) = omega (arith, length-append (flip ls) (neg l ∷ []), length_flip ls)

pub count_flip : (α : Assignment) (ls : List ℕ) → count α (flip ls) + count α ls ≡ length ls
count_flip α [] = refl
count_flip α (l ∷ ls) = omega (arith, count_append α (flip ls) (neg l ∷ []), count_flip α ls, bit_neg α l)

pub monotone_flip : (α : Assignment) (ls : List ℕ) → Monotone α ls → Monotone α (flip ls)
monotone_flip α [] f = refl
monotone_flip α (l ∷ ls) f = go (holds α l) refl f (monotone_flip α ls)
  where
    go : (t : Bool) → holds α l ≡ t → cond t (suc (lead α ls)) 0 ≡ cond t 1 0 + count α ls
        → (Monotone α ls → Monotone α (flip ls)) → Monotone α (flip ls ++ (neg l ∷ []))
    go true q e ih =
        let off : bit α (neg l) ≡ 0 = omega (arith, bit_neg α l, ap {B = ℕ} (λ t. cond t 1 0) q) in
        omega (arith, lead_snoc_false α (flip ls) (neg l) off, ih (omega arith), count_append α (flip ls) (neg l ∷ []))
    go false q e ih =
        let full : lead α (flip ls) ≡ length (flip ls) = lead_full α (flip ls) (omega (arith, count_flip α ls, length_flip ls)) in
        omega (arith, lead_snoc_full α (flip ls) (neg l) full, ih (omega (arith, lead_le_count α ls)), count_append α (flip ls) (neg l ∷ []))

pub flip_at : (ls : List ℕ) (j c : ℕ) → suc c + j ≡ length ls → get_or (flip ls) j 0 ≡ neg (get_or ls c 0)
flip_at [] j c e = absurd (omega arith)
flip_at (l ∷ ls) j zero e =
    let i : j ≡ length (flip ls) + 0 = omega (arith, length_flip ls) in
    rw i (get_or-append-add (flip ls) (neg l ∷ []) 0 0)
flip_at (l ∷ ls) j (suc c) e =
    get_or-append (flip ls) (neg l ∷ []) 0 j (omega (arith, length_flip ls)) ∙ flip_at ls j c (omega arith)

-- What it comes to ---------------------------------------------------------------------------------------------------

pub map_snoc : {A B : Type 0} (h : A → B) (xs : List A) (y : A) → map h (xs ++ (y ∷ [])) ≡ map h xs ++ (h y ∷ [])
map_snoc h [] y = refl
map_snoc h (x ∷ xs) y = ap (λ zs. h x ∷ zs) (map_snoc h xs y)

pub flip_is : (ls : List ℕ) → map neg (reverse ls) ≡ flip ls
flip_is [] = refl
flip_is (l ∷ ls) = ap (map neg) (reverse-cons l ls) ∙ map_snoc neg (reverse ls) l ∙ ap (λ ms. ms ++ (neg l ∷ [])) (flip_is ls)

pub flip_snoc : (ls : List ℕ) (l : ℕ) → flip (ls ++ (l ∷ [])) ≡ neg l ∷ flip ls
flip_snoc [] l = refl
flip_snoc (m ∷ ls) l = ap (λ ms. ms ++ (neg m ∷ [])) (flip_snoc ls l)

pub flip_flip : (ls : List ℕ) → flip (flip ls) ≡ ls
flip_flip [] = refl
flip_flip (l ∷ ls) = rw (flip_snoc, neg_neg, flip_flip ls)

pub flip_below : (v : ℕ) (ls : List ℕ) → LitsBelow v ls → LitsBelow v (flip ls)
flip_below v [] b = tt
flip_below v (l ∷ ls) b = lits_below_append v (flip ls) (neg l ∷ []) (flip_below v ls b.1) (neg_below v l b.0, tt)
