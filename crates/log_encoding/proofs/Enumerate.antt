-- The clauses of an inequality say that the losses, added up, are within the slack.
use Prim.Native.Nat.{◌*◌, ◌+◌, ◌-◌, ◌/◌, ◌<◌, ◌≤◌, suc, ℕ}
use borrow.Author.Tests.{le-leb, leb-false, leb-true, lt-leb}
use lib.Dec.{leb}
use lib.ListN.{get_or, length}
use mathlib.Core.Bool.{Bool, So, ◌&&◌, ◌||◌, cond, false, true}
use mathlib.Core.List.{List, [], ◌++◌, ◌∷◌}
use mathlib.Core.Logic.Iff
use mathlib.Core.Logic.{◌↔◌}
use mathlib.Core.Path.{◌∙◌, ◌≡◌, ap, refl, sym}
use native.Mathlib.Nat.{add-zero, div-lt_iff_lt-mul, le-div_iff_mul-le, mul_comm, mul-le-mul_left, sub-zero}
use native.Mathlib.Omega.{arith}
use Rattle.arithmetic.proofs.Tests.{and_true, leb_and, leb_same, never, or_false, or_true}
use Rattle.sat.specs.Clause.{Assignment, Clauses, clause_sat, holds, sat}
use Rattle.sat.specs.Count.{Monotone, count, lead}
use Rattle.sat.proofs.Clauses.{clause_sat_snoc, sat_append}
use Rattle.sat.proofs.Counts.{count_le, lead_le, monotone_at}
use Rattle.log_encoding.specs.Enumerate.{bounded, branch, enumerate, final, missed}
use Rattle.log_encoding.specs.Terms.{LastMonotone, Term, losses, singles}

-- one threshold of a term, and those after it
combine : (P h : Bool) (w n k L s : ℕ) → k ≤ n
    → (((P || h) || leb (w * suc n + L) s) && (P || leb (w * (n - k) + L) s)) ≡ (P || leb (w * (suc n - cond h (suc k) 0) + L) s)
combine true h w n k L s b = refl
combine false true w n k L s b = ap (λ m. leb (w * m + L) s) (omega arith)
combine false false w n k L s b = rw sub-zero (leb_and (w * suc n + L) (w * (n - k) + L) s (omega (arith, mul-le-mul_left {m = n - k} {n = suc n} w (omega arith))))

module _ (α : Assignment) (more : ℕ → List ℕ → Clauses) (L : ℕ)
    (ih : (s : ℕ) (p : List ℕ) → sat α (more s p) ≡ (clause_sat α p || leb L s)) where
  missed_sat : (c l s : ℕ) (p : List ℕ) → sat α (missed more c l s p) ≡ ((clause_sat α p || holds α l) || leb (c + L) s)
  missed_sat c l s p = go (leb c s) refl
    where
      go : (t : Bool) → leb c s ≡ t
          → sat α (cond t (more (s - c) (p ++ (l ∷ []))) ((p ++ (l ∷ [])) ∷ [])) ≡ ((clause_sat α p || holds α l) || leb (c + L) s)
      go true q = rw (ih, clause_sat_snoc, leb_same L (s - c) (c + L) s (omega (arith, leb-true c s q)))
      go false q = rw (and_true, clause_sat_snoc, lt-leb (c + L) s (omega (arith, leb-false c s q)), or_false)

  pub branch_sat : (w : ℕ) (ls : List ℕ) (s : ℕ) (p : List ℕ)
      → sat α (branch more w ls s p) ≡ (clause_sat α p || leb (w * (length ls - lead α ls) + L) s)
  branch_sat w [] s p = ih s p ∙ ap (λ n. clause_sat α p || leb n s) (omega arith)
  branch_sat w (l ∷ ls) s p =
      rw (sat_append, missed_sat, branch_sat w ls s p)
      (combine (clause_sat α p) (holds α l) w (length ls) (lead α ls) L s (lead_le α ls))

-- which threshold the slack allows
last_index : (w n k s : ℕ) → 0 < w → s < w * n → (suc (n - s / w - 1) ≤ k) ↔ (w * (n - k) ≤ s)
last_index w n k s pos h =
    let below : s / w < n = (div-lt_iff_lt-mul pos).1 (omega arith) in (
      λ a. rw mul_comm ((le-div_iff_mul-le pos).0 (omega arith)),
      λ b. omega (arith, (le-div_iff_mul-le {k = w} {x = n - k} {y = s} pos).1 (omega arith)),
    )

pub final_sat : (α : Assignment) (w : ℕ) (ls : List ℕ) → 0 < w → Monotone α ls
    → (s : ℕ) (p : List ℕ) → sat α (final w ls s p) ≡ (clause_sat α p || leb (w * (length ls - lead α ls)) s)
final_sat α w ls pos f s p = go (leb (w * length ls) s) refl
  where
    go : (b : Bool) → leb (w * length ls) s ≡ b
        → sat α (cond b [] ((p ++ (get_or ls (length ls - s / w - 1) 0 ∷ [])) ∷ [])) ≡ (clause_sat α p || leb (w * (length ls - lead α ls)) s)
    go true q =
        let within : w * (length ls - lead α ls) ≤ s =
        omega (arith, leb-true (w * length ls) s q, mul-le-mul_left {m = length ls - lead α ls} {n = length ls} w (omega arith)) in
        rw (le-leb _ _ within, or_true)
    go false q =
        let short : s < w * length ls = leb-false (w * length ls) s q in
        let inside : length ls - s / w - 1 < length ls = omega (arith, (div-lt_iff_lt-mul {k = w} {x = s} {y = length ls} pos).1 (omega arith)) in
        rw (and_true, clause_sat_snoc, monotone_at α ls _ f inside, leb_same _ _ _ _ (last_index w (length ls) (lead α ls) s pos short))

pub enumerate_sat : (α : Assignment) (ts : List Term) → LastMonotone α ts
    → (s : ℕ) (p : List ℕ) → sat α (enumerate ts s p) ≡ (clause_sat α p || leb (losses α ts) s)
unfolding enumerate
enumerate_sat α [] f s p = rw (le-leb 0 s (omega arith), or_true)
enumerate_sat α (t ∷ []) f s p = rw add-zero (final_sat α t.weight t.lits f.0 f.1 s p)
enumerate_sat α (t ∷ u ∷ ts) f s p =
    branch_sat α (enumerate (u ∷ ts)) (losses α (u ∷ ts)) (enumerate_sat α (u ∷ ts) f) t.weight t.lits s p

-- an inequality's clauses, with no clause begun
pub enumerate_within : (α : Assignment) (ts : List Term) → LastMonotone α ts → (s : ℕ) → So (sat α (enumerate ts s [])) ↔ (losses α ts ≤ s)
enumerate_within α ts f s = (
  λ h. leb-true (losses α ts) s (sym (enumerate_sat α ts f s []) ∙ h),
  λ h. enumerate_sat α ts f s [] ∙ le-leb (losses α ts) s h,
)

losses_singles : (α : Assignment) (own : List ℕ) (ts : List Term) → losses α (singles own ++ ts) + count α own ≡ length own + losses α ts
losses_singles α [] ts = omega arith
losses_singles α (l ∷ own) ts = go (holds α l) (losses_singles α own ts)
  where
    go : (t : Bool) → losses α (singles own ++ ts) + count α own ≡ length own + losses α ts
        → (1 * (1 - cond t 1 0) + losses α (singles own ++ ts)) + (cond t 1 0 + count α own) ≡ suc (length own) + losses α ts
    go true h = omega arith
    go false h = omega arith

last_singles : (α : Assignment) (own : List ℕ) (t : Term) (ts : List Term) → LastMonotone α (t ∷ ts) → LastMonotone α (singles own ++ (t ∷ ts))
last_singles α [] t ts f = f
last_singles α (l ∷ []) t ts f = f
last_singles α (l ∷ m ∷ own) t ts f = last_singles α (m ∷ own) t ts f

-- the same, where the first terms are single literals: those that hold widen the slack
pub singles_within : (α : Assignment) (own : List ℕ) (t : Term) (ts : List Term) → LastMonotone α (t ∷ ts) → (s : ℕ)
    → So (sat α (enumerate (singles own ++ (t ∷ ts)) s [])) ↔ (length own + losses α (t ∷ ts) ≤ s + count α own)
singles_within α own t ts f s =
    Iff.trans
    (enumerate_within α (singles own ++ (t ∷ ts)) (last_singles α own t ts f) s)
    (omega (arith, losses_singles α own (t ∷ ts)))

-- an inequality of single literals and further terms
pub bounded_sat : (α : Assignment) (own : List ℕ) (t : Term) (ts : List Term) → LastMonotone α (t ∷ ts) → (a b : ℕ)
    → So (sat α (bounded (singles own ++ (t ∷ ts)) a b)) ↔ (length own + losses α (t ∷ ts) + b ≤ a + count α own)
unfolding bounded
bounded_sat α own t ts f a b = go (leb b a) refl
  where
    go : (c : Bool) → leb b a ≡ c
        → So (sat α (cond c (enumerate (singles own ++ (t ∷ ts)) (a - b) []) ([] ∷ []))) ↔ (length own + losses α (t ∷ ts) + b ≤ a + count α own)
    go true q = Iff.trans (singles_within α own t ts f (a - b)) (omega (arith, leb-true b a q))
    go false q = (never, λ h. absurd (omega (arith, leb-false b a q, count_le α own)))
