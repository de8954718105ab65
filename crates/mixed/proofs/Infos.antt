-- The terms of an inequality and the clauses of the last; terms that fit into a table; the terms negated.
use mathlib.Core.Path.{◌≡◌, refl, ap, ◌∙◌}
use mathlib.Core.List.{List, [], ◌∷◌, ◌++◌, map, map-append}
use Prim.Native.Nat.{ℕ, zero, suc, ◌+◌, ◌-◌, ◌*◌, ◌/◌, ◌≤◌, ◌<◌}
use native.Mathlib.Nat.{zero-mul, mul_comm, not-suc-le-zero, div-lt_iff_lt-mul}
use native.Mathlib.Numerals.{add-one}
use native.Mathlib.Omega.{arith}
use borrow.Author.Tests.{lt-leb, le-leb}
use lib.ListN.{drop, length, length-set, get_or, set, take}
use lib.Seq.{drop-cons, take-length, take-suc, take-suc-set}
use Rattle.mixed.specs.declared.LinearInfo.{LinearInfo}
use Rattle.log_encoding.specs.Enumerate.{enumerate, bounded}
use Rattle.mixed.specs.Infos.{AllSmall, InTable, info_lit, thresholds, thresholds_before, info_term, no_info, last_loss, loss, negated_info}

-- a product above some number has a first factor above 0
pub factor : (w s n : ℕ) → s < w * n → 0 < w
factor zero s n h = absurd (not-suc-le-zero (rw zero-mul at h))
factor (suc w) s n h = omega arith

-- a slack below the whole weight covers less than all of the literals
pub covers : (w s n : ℕ) → s < w * n → s / w < n
covers w s n h = (div-lt_iff_lt-mul (factor w s n h)).1 (rw mul_comm h)

-- A term's literals --------------------------------------------------------------------------------------------------

pub length_thresholds : (t : LinearInfo) (k : ℕ) → length (thresholds t k) ≡ k
length_thresholds t zero = refl
length_thresholds t (suc k) = ap suc (length_thresholds t k)

threshold_at : (t : LinearInfo) (k i : ℕ) → i < k → k ≤ t.count → get_or (thresholds t k) i 0 ≡ info_lit t (t.count - k + i)
threshold_at t zero i h g = absurd (not-suc-le-zero h)
threshold_at t (suc k) zero h g = ap (info_lit t) (omega arith)
threshold_at t (suc k) (suc i) h g = threshold_at t k i (omega arith) (omega arith) ∙ ap (info_lit t) (omega arith)

module _ (t : LinearInfo) (s : ℕ) (p : List ℕ) where
  pub last_one : s < t.weight * t.count → enumerate (info_term t ∷ []) s p ≡ (p ++ info_lit t (t.count - s / t.weight - 1) ∷ []) ∷ []
  unfolding enumerate
  last_one h =
      let f : s / t.weight < t.count = covers t.weight s t.count h in
      rw (length_thresholds t t.count, lt-leb (t.weight * t.count) s h)
      (ap (λ (x : ℕ). (p ++ x ∷ []) ∷ []) (threshold_at t t.count (t.count - s / t.weight - 1) (omega arith) (omega arith) ∙ ap (info_lit t) (omega arith)))

  pub last_none : t.weight * t.count ≤ s → enumerate (info_term t ∷ []) s p ≡ []
  unfolding enumerate
  last_none h = rw (length_thresholds t t.count, le-leb (t.weight * t.count) s h)

-- Terms that fit into a table ----------------------------------------------------------------------------------------

in_table_later : (t u : LinearInfo) (us : List LinearInfo) → InTable (t ∷ u ∷ us) → InTable (u ∷ us)
unfolding thresholds_before last_loss loss
in_table_later t u us h = record { few = omega (arith, h.few); last = h.last; all = omega (arith, h.all) }

-- before others
pub before_more : (t : LinearInfo) (ts : List LinearInfo) (u : LinearInfo) (us : List LinearInfo)
    → thresholds_before (t ∷ (ts ++ (u ∷ us))) ≡ t.count + thresholds_before (ts ++ (u ∷ us))
unfolding thresholds_before
before_more t [] u us = refl
before_more t (v ∷ ts) u us = refl

pub last_append : (ts : List LinearInfo) (u : LinearInfo) (us : List LinearInfo) → last_loss (ts ++ (u ∷ us)) ≡ last_loss (u ∷ us)
unfolding last_loss
last_append [] u us = refl
last_append (t ∷ []) u us = refl
last_append (t ∷ v ∷ ts) u us = last_append (v ∷ ts) u us

-- The terms left ----------------------------------------------------------------------------------------------------

module _ (ts : List LinearInfo) where
  pub left_more : (i : ℕ) → i < length ts → drop i ts ≡ get_or ts i no_info ∷ drop (i + 1) ts
  left_more i h = rw add-one (drop-cons ts i no_info h)

  -- from each on, they fit into a table
  pub in_table_left : InTable ts → (i : ℕ) → i < length ts → InTable (drop i ts)
  in_table_left h zero b = h
  in_table_left h (suc i) b =
      let a : i < length ts = omega arith in
      let w = rw (left_more i a, add-one i, left_more (suc i) b) at (in_table_left h i a) in
      rw (left_more (suc i) b) (in_table_later (get_or ts i no_info) (get_or ts (suc i) no_info) (drop (suc i + 1) ts) w)

  pub bounded_dead : (above below : ℕ) → above < below → bounded (map info_term ts) above below ≡ [] ∷ []
  unfolding bounded
  bounded_dead above below h = rw (lt-leb below above h)

  pub bounded_live : (above below : ℕ) → below ≤ above → bounded (map info_term ts) above below ≡ enumerate (map info_term ts) (above - below) []
  unfolding bounded
  bounded_live above below h = rw (le-leb below above h)

-- Negated terms ------------------------------------------------------------------------------------------------------

-- the first i of the terms, negated, in an array with room for all
pub record Negated (ts out : List LinearInfo) (i : ℕ) : Type 0 where
  pub room : length ts ≤ length out
  pub done : take i out ≡ map negated_info (take i ts)

pub negated_more : (ts out : List LinearInfo) (i : ℕ) → Negated ts out i → i < length ts → Negated ts (set out i (negated_info (get_or ts i no_info))) (i + 1)
negated_more ts out i n h =
    let t = get_or ts i no_info in
    record {
      room = omega (arith, n.room, length-set out i (negated_info t));
      done =
          rw (add-one, take-suc ts i no_info h, map-append negated_info (take i ts) (t ∷ []), ← n.done)
          (take-suc-set out i (negated_info t) (omega (arith, n.room)));
    }

-- and all of them
pub negated_end : (ts out : List LinearInfo) (i : ℕ) → Negated ts out i → i ≡ length ts → take (length ts) out ≡ map negated_info ts
negated_end ts out i n e = rw (e, take-length ts) at n.done

pub negated_small : (ts : List LinearInfo) → AllSmall ts → AllSmall (map negated_info ts)
negated_small [] h k = h k
negated_small (t ∷ ts) h zero = record { top = (h zero).top }
negated_small (t ∷ ts) h (suc k) = negated_small ts (λ (j : ℕ). h (suc j)) k

negated_same : (ts : List LinearInfo)
    → (thresholds_before (map negated_info ts) ≡ thresholds_before ts) × (last_loss (map negated_info ts) ≡ last_loss ts) × (loss (map negated_info ts) ≡ loss ts)
unfolding thresholds_before last_loss loss
negated_same [] = (refl, refl, refl)
negated_same (t ∷ []) = (refl, refl, refl)
negated_same (t ∷ u ∷ us) = let r = negated_same (u ∷ us) in (ap (λ (x : ℕ). t.count + x) r.0, r.1, ap (λ (x : ℕ). t.weight * t.count + x) r.2)

pub negated_in_table : (ts : List LinearInfo) → InTable ts → InTable (map negated_info ts)
negated_in_table ts h =
    let r = negated_same ts in
    record { few = omega (arith, r.0, h.few); last = omega (arith, r.1, h.last); all = omega (arith, r.2, h.all) }
