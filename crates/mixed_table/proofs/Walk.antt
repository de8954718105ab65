-- The clauses that a table tells, as the code comes by them: at the last term, where the slack covers every loss, at a threshold.
use Prim.Native.Nat.{◌+◌, ◌-◌, ◌<◌, ◌≤◌, suc, zero, ℕ}
use borrow.Author.Tests.{le-leb, lt-leb}
use mathlib.Core.List.{List, [], ◌++◌, ◌∷◌}
use mathlib.Core.Path.{◌∙◌, ◌≡◌, refl}
use native.Mathlib.Nat.{not-suc-le-zero}
use native.Mathlib.Numerals.{sub-one}
use native.Mathlib.Omega.{arith}
use Rattle.log_encoding.specs.Enumerate.{missed}
use Rattle.mixed_table.specs.declared.Table.{Table}
use Rattle.mixed_table.specs.Table.{SoundTable, cost_of, end_of, lit_of, loss_of, after_of, terms_of, top_of, walk_rows, walk_within}

module _ (tab : Table) (z : SoundTable tab) where
  -- any bound above the thresholds left gives the same clauses
  same : (f g j k s : ℕ) (p : List ℕ) → k < f → k < g → k ≤ top_of tab j → walk_within f tab k s p ≡ walk_within g tab k s p
  unfolding walk_within
  same zero g j k s p h i b = absurd (not-suc-le-zero h)
  same (suc f) zero j k s p h i b = absurd (not-suc-le-zero i)
  same (suc f) (suc g) j zero s p h i b = refl
  same (suc f) (suc g) j (suc k) s p h i b =
      let n : after_of tab (suc k) < suc k = (z.own j (suc k) (omega arith) b).0 in
      let l : List ℕ = p ++ (lit_of tab (suc k) ∷ []) in
      let a : walk_within f tab (after_of tab (suc k)) (s - cost_of tab (suc k)) l ≡ walk_within g tab (after_of tab (suc k)) (s - cost_of tab (suc k)) l =
      same f g (terms_of tab (suc k) - 1) (after_of tab (suc k)) (s - cost_of tab (suc k)) l (omega arith) (omega arith) (omega arith) in
      let b : walk_within f tab k s p ≡ walk_within g tab k s p = same f g j k s p (omega arith) (omega arith) (omega arith) in
      rw (a, b)

  module _ (s : ℕ) (p : List ℕ) where
    last_one : (f : ℕ) → s < loss_of tab 0 → walk_within (suc f) tab 0 s p ≡ (p ++ (end_of tab s ∷ [])) ∷ []
    unfolding walk_within
    last_one f h = rw (lt-leb (loss_of tab 0) s h)

    pub walk_last : (k : ℕ) → k ≤ 0 → s < loss_of tab 0 → walk_rows tab k s p ≡ (p ++ (end_of tab s ∷ [])) ∷ []
    walk_last zero y h = last_one 23 h
    walk_last (suc k) y h = absurd (not-suc-le-zero y)

    covered : (f k : ℕ) → loss_of tab k ≤ s → walk_within (suc f) tab k s p ≡ []
    unfolding walk_within
    covered f zero h = rw (le-leb (loss_of tab 0) s h)
    covered f (suc k) h = rw (le-leb (loss_of tab (suc k)) s h)

    pub walk_covered : (k : ℕ) → loss_of tab k ≤ s → walk_rows tab k s p ≡ []
    walk_covered k h = covered 23 k h

    pub walk_none : (k : ℕ) → k ≤ 0 → loss_of tab 0 ≤ s → walk_rows tab k s p ≡ []
    walk_none zero y h = walk_covered 0 h
    walk_none (suc k) y h = absurd (not-suc-le-zero y)

    more : (f k : ℕ) → s < loss_of tab (suc k)
        → walk_within (suc f) tab (suc k) s p
        ≡ missed (walk_within f tab (after_of tab (suc k))) (cost_of tab (suc k)) (lit_of tab (suc k)) s p ++ walk_within f tab k s p
    unfolding walk_within
    more f k h = rw (lt-leb (loss_of tab (suc k)) s h)

    pub walk_more : (j k : ℕ) → 0 < k → k ≤ top_of tab j → s < loss_of tab k
        → walk_rows tab k s p ≡ missed (walk_rows tab (after_of tab k)) (cost_of tab k) (lit_of tab k) s p ++ walk_rows tab (k - 1) s p
    walk_more j zero y b h = absurd (not-suc-le-zero y)
    walk_more j (suc k) y b h =
        let n : after_of tab (suc k) < suc k = (z.own j (suc k) y b).0 in
        let t : top_of tab j < 24 = z.small j in
        more 23 k h
        ∙ rw (
          sub-one (suc k),
          same 23 24 j k s p (omega arith) (omega arith) (omega arith),
          same 23 24 (terms_of tab (suc k) - 1) (after_of tab (suc k)) (s - cost_of tab (suc k)) (p ++ (lit_of tab (suc k) ∷ [])) (omega arith) (omega arith) (omega arith),
        )

    pub walk_cut : (j k : ℕ) → k + 1 ≤ top_of tab j → s < loss_of tab (k + 1) → s < cost_of tab (k + 1)
        → walk_rows tab (k + 1) s p ≡ ((p ++ (lit_of tab (k + 1) ∷ [])) ∷ []) ++ walk_rows tab k s p
    walk_cut j k b h i =
        let one : k + 1 - 1 ≡ k = omega arith in walk_more j (k + 1) (omega arith) b h ∙ rw (lt-leb (cost_of tab (k + 1)) s i, one)

    pub walk_on : (j k : ℕ) → k + 1 ≤ top_of tab j → s < loss_of tab (k + 1) → cost_of tab (k + 1) ≤ s
        → walk_rows tab (k + 1) s p
        ≡ walk_rows tab (after_of tab (k + 1)) (s - cost_of tab (k + 1)) (p ++ (lit_of tab (k + 1) ∷ [])) ++ walk_rows tab k s p
    walk_on j k b h i =
        let one : k + 1 - 1 ≡ k = omega arith in walk_more j (k + 1) (omega arith) b h ∙ rw (le-leb (cost_of tab (k + 1)) s i, one)
