-- Seven places filled with the terms of a flat list, one after the other.
use mathlib.Core.Path.{◌≡◌, refl, ap, sym, ◌∙◌}
use mathlib.Core.Logic.{⊎_elim}
use mathlib.Core.List.{List, [], ◌∷◌, ◌++◌, map, map-append, append_assoc, append-nil}
use Prim.Native.Nat.{ℕ, zero, suc, ◌+◌, ◌*◌, ◌/◌, ◌≤◌, ◌<◌}
use native.Mathlib.Nat.{not-suc-le-zero}
use native.Mathlib.Numerals.{add-one}
use native.Mathlib.Omega.{arith}
use lib.IntN.{pos, ℤ}
use lib.ListN.{length, get_or, set, take, length-set}
use lib.Seq.{get_or-set_same, get_or-set_other, take-suc-set}
use Rattle.arithmetic.specs.Integers.{up}
use Rattle.arithmetic.proofs.Tests.{same_or}
use Rattle.norm_csp.specs.Rules.{LinearTerm, terms_of}
use Rattle.log_sum.proofs.Offsets.{terms_done, terms_from, terms_next}

-- a place of the array, what it shows, what is asked of it; what each term is to show
module _ (T U : Type 0) (spare : T) (shown : T → U) (Fits : T → Type 0) (one : LinearTerm → U) (all : List LinearTerm → List U) where
  -- i terms are in the array; with those left they are all
  pub record Filling (zs : List ℤ) (ts : List T) (i : ℕ) : Type 0 where
    pub long : length ts ≡ 7
    pub within : i ≤ length zs / 2
    pub fits : (j : ℕ) → j < i → Fits (get_or ts j spare)
    pub same : map shown (take i ts) ++ all (terms_from zs i) ≡ all (terms_of zs)

  pub filling_start : (zs : List ℤ) (ts : List T) → length ts ≡ 7 → Filling zs ts 0
  filling_start zs ts h = record { long = h; within = omega arith; fits = λ j k. absurd (not-suc-le-zero k); same = refl }

  module _ {zs : List ℤ} {ts : List T} {i : ℕ} (w : Filling zs ts i) (few : length zs ≤ 12) where
    pub filling_turn : ((t : LinearTerm) (us : List LinearTerm) → all (t ∷ us) ≡ one t ∷ all us) → (t : T) → i < length zs / 2
        → shown t ≡ one record { var = up (get_or zs (2 * i) (pos 0)); coef = get_or zs (2 * i + 1) (pos 0) } → Fits t → Filling zs (set ts i t) (i + 1)
    filling_turn step t h e f =
        let k : i < length ts = omega (arith, w.long) in
        let rest = all (terms_from zs (i + 1)) in
        let next : LinearTerm = record { var = up (get_or zs (2 * i) (pos 0)); coef = get_or zs (2 * i + 1) (pos 0) } in
        record {
          long = length-set ts i t ∙ w.long;
          within = omega arith;
          fits = λ j b. ⊎_elim
              (λ (q : j ≡ i). rw (q, get_or-set_same ts i t spare k) f)
              (λ (d : j ≡ i → ⊥). let b₂ : j < i = less j i b d in rw (get_or-set_other ts i j t spare d) (w.fits j b₂))
              (same_or j i);
          same =
              ap (λ (xs : List U). xs ++ rest) (ap (λ (n : ℕ). map shown (take n (set ts i t))) (add-one i) ∙ ap (map shown) (take-suc-set ts i t k) ∙ map-append shown (take i ts) (t ∷ []))
              ∙ append_assoc (map shown (take i ts)) (shown t ∷ []) rest
              ∙ ap (λ (x : U). map shown (take i ts) ++ (x ∷ rest)) e
              ∙ ap (λ (xs : List U). map shown (take i ts) ++ xs) (sym (step next (terms_from zs (i + 1))) ∙ ap all (sym (terms_next zs i (omega arith))))
              ∙ w.same;
        }
      where
        less : (j i : ℕ) → j < i + 1 → (j ≡ i → ⊥) → j < i
        less zero zero b d = absurd (d refl)
        less zero (suc i) b d = omega arith
        less (suc j) zero b d = absurd (omega arith)
        less (suc j) (suc i) b d = let r = less j i (omega arith) (λ q. d (ap suc q)) in omega arith

    pub filling_end : all [] ≡ [] → length zs / 2 ≤ i
        → (map shown (take (length zs / 2) ts) ≡ all (terms_of zs)) × ((j : ℕ) → j < length zs / 2 → Fits (get_or ts j spare))
    filling_end none h =
        let n : length zs / 2 ≡ i = omega (arith, w.within) in (
          rw n (sym (append-nil (map shown (take i ts))) ∙ ap (λ (xs : List U). map shown (take i ts) ++ xs) (sym none ∙ ap all (sym (terms_done zs i h))) ∙ w.same),
          λ j b. w.fits j (omega arith),
        )
