-- One literal more in each of some columns, one column after the other.
use mathlib.Core.Path.{◌≡◌, refl, ap, sym, ◌∙◌}
use mathlib.Core.List.{List, [], ◌∷◌}
use mathlib.Core.Logic.{◌⊎◌, ⊎_elim}
use Prim.Native.Nat.{ℕ, zero, suc, max, ◌+◌, ◌≤◌, ◌<◌}
use native.Mathlib.Numerals.{add-one}
use native.Mathlib.Omega.{arith}
use lib.ListN.{length, get_or, set, length-set}
use lib.Seq.{get_or-set_same, get_or-set_other}
use Rattle.arithmetic.proofs.Tests.{same_or}
use Rattle.sat.proofs.Every.{every_set}
use Rattle.log_encoding.specs.AdderSize.{push_counts}
use Rattle.log_counts.specs.Growth.{Grown}
use Rattle.log_counts.specs.declared.ColumnCounts.{ColumnCounts}

-- The definition -----------------------------------------------------------------------------------------------------

-- no column: at most zeros are added
none_pushed : (o : ℕ) (hs : List ℕ) (i : ℕ) → get_or (push_counts o 0 hs) i 0 ≡ get_or hs i 0
none_pushed zero hs i = refl
none_pushed (suc o) [] zero = refl
none_pushed (suc o) [] (suc i) = none_pushed o [] i
none_pushed (suc o) (h ∷ hs) zero = refl
none_pushed (suc o) (h ∷ hs) (suc i) = none_pushed o hs i

-- one column more
more_there : (o j : ℕ) (hs : List ℕ) (i : ℕ) → i ≡ o + j → get_or (push_counts o (suc j) hs) i 0 ≡ get_or (push_counts o j hs) i 0 + 1
more_there zero zero [] zero e = refl
more_there zero zero (h ∷ hs) zero e = omega arith
more_there zero zero hs (suc i) e = absurd (omega arith)
more_there zero (suc j) hs zero e = absurd (omega arith)
more_there zero (suc j) [] (suc i) e = more_there zero j [] i (omega arith)
more_there zero (suc j) (h ∷ hs) (suc i) e = more_there zero j hs i (omega arith)
more_there (suc o) j hs zero e = absurd (omega arith)
more_there (suc o) j [] (suc i) e = more_there o j [] i (omega arith)
more_there (suc o) j (h ∷ hs) (suc i) e = more_there o j hs i (omega arith)

more_elsewhere : (o j : ℕ) (hs : List ℕ) (i : ℕ) → (i ≡ o + j → ⊥) → get_or (push_counts o (suc j) hs) i 0 ≡ get_or (push_counts o j hs) i 0
more_elsewhere zero zero hs zero d = absurd (d refl)
more_elsewhere zero zero [] (suc i) d = refl
more_elsewhere zero zero (h ∷ hs) (suc i) d = refl
more_elsewhere zero (suc j) [] zero d = refl
more_elsewhere zero (suc j) (h ∷ hs) zero d = refl
more_elsewhere zero (suc j) [] (suc i) d = more_elsewhere zero j [] i (λ e. d (omega arith))
more_elsewhere zero (suc j) (h ∷ hs) (suc i) d = more_elsewhere zero j hs i (λ e. d (omega arith))
more_elsewhere (suc o) j [] zero d = refl
more_elsewhere (suc o) j (h ∷ hs) zero d = refl
more_elsewhere (suc o) j [] (suc i) d = more_elsewhere o j [] i (λ e. d (omega arith))
more_elsewhere (suc o) j (h ∷ hs) (suc i) d = more_elsewhere o j hs i (λ e. d (omega arith))

push_length : (o n : ℕ) (hs : List ℕ) → length (push_counts o n hs) ≡ max (length hs) (o + n)
push_length zero zero hs = omega arith
push_length zero (suc n) [] = omega (arith, push_length zero n [])
push_length zero (suc n) (h ∷ hs) = omega (arith, push_length zero n hs)
push_length (suc o) n [] = omega (arith, push_length o n [])
push_length (suc o) n (h ∷ hs) = omega (arith, push_length o n hs)

-- The array ----------------------------------------------------------------------------------------------------------

-- j columns so far, from column o on
pub record Pushing (o j : ℕ) (counts₀ counts : List ℕ) : Type 0 where
  pub long : length counts ≡ length counts₀
  pub few : (m : ℕ) → ((i : ℕ) → get_or counts₀ i 0 ≤ m) → (i : ℕ) → get_or counts i 0 ≤ m + j
  pub count : (hs : List ℕ) → ((i : ℕ) → i < 32 → get_or counts₀ i 0 ≡ get_or hs i 0) → (i : ℕ) → i < 32 → get_or counts i 0 ≡ get_or (push_counts o j hs) i 0

pub pushing_start : (o : ℕ) (counts : List ℕ) → Pushing o 0 counts counts
pushing_start o counts =
    record { long = refl; few = λ m h i. let r = h i in omega arith; count = λ hs h i k. h i k ∙ sym (none_pushed o hs i) }

pub pushing_turn : {o j : ℕ} {counts₀ counts : List ℕ} → Pushing o j counts₀ counts → o + j < length counts
    → Pushing o (j + 1) counts₀ (set counts (o + j) (get_or counts (o + j) 0 + 1))
pushing_turn {o} {j} {counts₀} {counts} p within =
    record {
      long = length-set counts (o + j) (get_or counts (o + j) 0 + 1) ∙ p.long;
      few = λ m h. every_set 0 (λ (x : ℕ). x ≤ m + (j + 1)) counts (o + j) (get_or counts (o + j) 0 + 1)
          (λ i. let r = p.few m h i in omega arith) (let r = p.few m h (o + j) in omega arith);
      count = λ hs h i k. rw (add-one j) (at hs h i k (same_or i (o + j)));
    }
  where
    at : (hs : List ℕ) → ((i : ℕ) → i < 32 → get_or counts₀ i 0 ≡ get_or hs i 0) → (i : ℕ) → i < 32 → (i ≡ o + j) ⊎ (i ≡ o + j → ⊥)
        → get_or (set counts (o + j) (get_or counts (o + j) 0 + 1)) i 0 ≡ get_or (push_counts o (suc j) hs) i 0
    at hs h i k q =
        ⊎_elim
        (λ (e : i ≡ o + j).
        rw (more_there o j hs i e, e, get_or-set_same counts (o + j) (get_or counts (o + j) 0 + 1) 0 within)
        (ap (λ (x : ℕ). x + 1) (p.count hs h (o + j) (rw e at k))))
        (λ (d : i ≡ o + j → ⊥).
        rw (get_or-set_other counts (o + j) i (get_or counts (o + j) 0 + 1) 0 d, more_elsewhere o j hs i d) (p.count hs h i k))
        q

pub pushing_end : {o n : ℕ} {c : ColumnCounts} {counts : List ℕ} {w : ℕ} → o + n ≤ 25 → Pushing o n c.counts counts → w ≡ max c.width (o + n)
    → Grown 25 (push_counts o n) c (record { counts = counts; width = w })
pushing_end {o} {n} h p e =
    record {
      holds = λ m hs held.
          record {
            count = p.count hs held.count;
            width_is = omega (arith, held.width_is, push_length o n hs);
            narrow = omega (arith, held.narrow);
            few = λ i. let r = p.few m held.few i in omega arith;
            long = p.long ∙ held.long;
          };
    }
