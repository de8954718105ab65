-- What a table holds once a term's thresholds, or the last term's literals, are put into it.
use Prim.Native.Nat.{◌*◌, ◌+◌, ◌-◌, ◌/◌, ◌<◌, ◌≤◌, suc, zero, ℕ}
use lib.ListN.{get_or, length, length-set, set}
use lib.Seq.{get_or-set_other, get_or-set_same}
use mathlib.Core.List.{List}
use mathlib.Core.Logic.{⊎_elim}
use mathlib.Core.Path.{◌∙◌, ◌≡◌, ap, refl}
use native.Mathlib.Nat.{eq-or-lt_of_le, mul-le-mul_left, mul-suc, not-suc-le-zero}
use native.Mathlib.Numerals.{add-one}
use native.Mathlib.Omega.{arith}
use Rattle.sat.specs.declared.Lit.{Lit}
use Rattle.sat.specs.LitArray.{lit}
use Rattle.mixed_table.specs.declared.Row.{Row}
use Rattle.mixed_table.specs.declared.Table.{Table}
use Rattle.mixed_table.specs.Table.{SoundTable, end_of, loss_of, no_row, row_of, top_of}
use Rattle.mixed.specs.declared.LinearInfo.{LinearInfo}
use Rattle.mixed.specs.Infos.{info_lit}
use Rattle.mixed.specs.Filling.{put_ends, put_last, put_rows, threshold_row, with_loss}

-- The loops that fill a table ----------------------------------------------------------------------------------------

pub more_below : (w i n : ℕ) → i < n → w * i + w ≤ w * n
more_below w i n h = rw mul-suc at (mul-le-mul_left w h)

pub rows_none : (rows : List Row) (t : LinearInfo) (v n r : ℕ) → put_rows rows t v n r 0 ≡ rows
unfolding put_rows
rows_none rows t v n r = refl

pub rows_turn : (rows₀ rows : List Row) (t : LinearInfo) (v n r i k : ℕ) (row : Row)
    → rows ≡ put_rows rows₀ t v n r i → k ≡ suc i + n → row ≡ threshold_row t v r (suc i)
    → set rows k row ≡ put_rows rows₀ t v n r (i + 1)
unfolding put_rows
rows_turn rows₀ rows t v n r i k row e f g = rw (add-one, e, f, g)

pub ends_none : (ends : List Lit) (t : LinearInfo) → put_ends ends t 0 ≡ ends
unfolding put_ends
ends_none ends t = refl

pub ends_turn : (ends₀ ends : List Lit) (t : LinearInfo) (s : ℕ) (l : Lit)
    → ends ≡ put_ends ends₀ t s → l.0 ≡ info_lit t (t.count - s / t.weight - 1)
    → set ends s l ≡ put_ends ends₀ t (s + 1)
unfolding put_ends
ends_turn ends₀ ends t s l e f = rw (add-one, e) (ap (λ x. set (put_ends ends₀ t s) s (lit x)) f)

-- A term's rows ------------------------------------------------------------------------------------------------------

module _ (l : List Row) (t : LinearInfo) (v n r : ℕ) where
  pub rows_length : (i : ℕ) → length (put_rows l t v n r i) ≡ length l
  unfolding put_rows
  rows_length zero = refl
  rows_length (suc i) = length-set (put_rows l t v n r i) (suc i + n) (threshold_row t v r (suc i)) ∙ rows_length i

  rows_other : (i q : ℕ) → ((j : ℕ) → j < i → q ≡ suc j + n → ⊥) → get_or (put_rows l t v n r i) q no_row ≡ get_or l q no_row
  unfolding put_rows
  rows_other zero q f = refl
  rows_other (suc i) q f =
      get_or-set_other (put_rows l t v n r i) (suc i + n) q (threshold_row t v r (suc i)) no_row (f i (omega arith))
      ∙ rows_other i q (λ j h. f j (omega arith))

  -- the rows of later terms are as they were
  pub rows_kept : (i q : ℕ) → q ≤ n → get_or (put_rows l t v n r i) q no_row ≡ get_or l q no_row
  rows_kept i q h = rows_other i q (λ j g e. omega arith)

  -- each threshold has its row
  pub rows_row : length l ≡ 24 → (i : ℕ) → i + n < 24 → (j : ℕ) → j < i
      → get_or (put_rows l t v n r i) (suc j + n) no_row ≡ threshold_row t v r (suc j)
  unfolding put_rows
  rows_row e zero h j g = absurd (not-suc-le-zero g)
  rows_row e (suc i) h j g =
      ⊎_elim
      (λ (o : j ≡ i).
      rw o (get_or-set_same (put_rows l t v n r i) (suc i + n) (threshold_row t v r (suc i)) no_row (omega (arith, e, rows_length i))))
      (λ (o : j < i).
      get_or-set_other (put_rows l t v n r i) (suc i + n) (suc j + n) (threshold_row t v r (suc i)) no_row (λ z. omega arith)
      ∙ rows_row e i (omega arith) j o)
      (eq-or-lt_of_le {n = j} {m = i} (omega arith))

-- The last term ------------------------------------------------------------------------------------------------------

-- the last term's part of a table
pub record Last (tab : Table) (t : LinearInfo) : Type 0 where
  pub none : top_of tab 0 ≡ 0
  pub loss : loss_of tab 0 ≡ t.weight * t.count
  pub lit : (s : ℕ) → s < t.weight * t.count → end_of tab s ≡ info_lit t (t.count - s / t.weight - 1)

module _ (l : List Lit) (t : LinearInfo) where
  ends_length : (i : ℕ) → length (put_ends l t i) ≡ length l
  unfolding put_ends
  ends_length zero = refl
  ends_length (suc i) = length-set (put_ends l t i) i (lit (info_lit t (t.count - i / t.weight - 1))) ∙ ends_length i

  ends_lit : length l ≡ 24 → (i : ℕ) → i ≤ 24 → (s : ℕ) → s < i → get_or (put_ends l t i) s (lit 0) ≡ lit (info_lit t (t.count - s / t.weight - 1))
  unfolding put_ends
  ends_lit e zero h s g = absurd (not-suc-le-zero g)
  ends_lit e (suc i) h s g =
      ⊎_elim
      (λ (o : s ≡ i). rw o (get_or-set_same (put_ends l t i) i (lit (info_lit t (t.count - i / t.weight - 1))) (lit 0) (omega (arith, e, ends_length i))))
      (λ (o : s < i).
      get_or-set_other (put_ends l t i) i s (lit (info_lit t (t.count - i / t.weight - 1))) (lit 0) (λ z. omega arith)
      ∙ ends_lit e i (omega arith) s o)
      (eq-or-lt_of_le {n = s} {m = i} (omega arith))

module _ (tab : Table) (t : LinearInfo) (h : t.weight * t.count ≤ 24) (z : (j : ℕ) → top_of tab j ≡ 0) where
  last_loss : length tab.rows ≡ 24 → loss_of (put_last tab t) 0 ≡ t.weight * t.count
  last_loss e =
      ap (λ (row : Row). row.loss) (get_or-set_same tab.rows 0 (with_loss (row_of tab 0) (t.weight * t.count)) no_row (omega (arith, e)))

  pub last_part : length tab.rows ≡ 24 → length tab.ends ≡ 24 → Last (put_last tab t) t
  last_part e f =
      record { none = z 0; loss = last_loss e; lit = λ s g. ap (λ (l : Lit). l.0) (ends_lit tab.ends t f (t.weight * t.count) h s g) }

  -- no term stands before the last
  pub last_sound : length tab.rows ≡ 24 → SoundTable (put_last tab t)
  last_sound e =
      record {
        some = λ j k y b. absurd (omega (arith, z j));
        own = λ j k y b. absurd (omega (arith, z j));
        small = λ j. omega (arith, z j);
        last = omega (arith, last_loss e);
      }
