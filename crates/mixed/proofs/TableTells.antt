-- A table that is filled from the terms tells their clauses: `walk` gives what `enumerate` gives, and where the slack covers what the
-- terms left can lose, there is no clause.
use Prim.Native.Nat.{◌*◌, ◌+◌, ◌-◌, ◌<◌, ◌^◌, ◌≤◌, suc, suc-le-suc, zero, zero-le, ℕ}
use borrow.Author.Tests.{le-leb}
use lib.ListN.{drop, get_or-eq_default, get_or, get_or-append, get_or-replicate, length, length-append, length-replicate, length-set, replicate}
use lib.Seq.{drop-append_seam, get_or-append_seam, get_or-set_other, get_or-set_same}
use mathlib.Core.List.{List, [], ◌++◌, ◌∷◌, map}
use mathlib.Core.Logic.{◌⊎◌, inl, inr, ⊎_elim}
use mathlib.Core.Path.{◌∙◌, ◌≡◌, ap, refl, sym}
use native.Mathlib.Nat.{mul-suc, mul-zero, zero-add}
use native.Mathlib.Omega.{arith}
use Rattle.arithmetic.proofs.Tests.{same_or}
use Rattle.mixed.specs.declared.LinearInfo.{LinearInfo}
use Rattle.log_encoding.specs.Enumerate.{branch, enumerate}
use Rattle.mixed.specs.Infos.{AllSmall, InTable, Small, info_lit, info_term, last_loss, loss, no_info, thresholds, thresholds_before}
use Rattle.mixed_table.specs.declared.Row.{Row}
use Rattle.mixed_table.specs.declared.Table.{Table}
use Rattle.mixed_table.specs.Table.{SoundTable, after_of, cost_of, empty_table, lit_of, loss_of, row_of, terms_of, top_of, walk_rows}
use Rattle.mixed.specs.Filling.{Filled, put_last, put_term, threshold_row}
use Rattle.mixed.proofs.Infos.{in_table_left, last_none, last_one, left_more, length_thresholds}
use Rattle.mixed.proofs.Filling.{Last, last_part, last_sound, rows_kept, rows_length, rows_row}
use Rattle.mixed_table.proofs.Walk.{walk_covered, walk_last, walk_more}

which : (a b : ℕ) → (a ≤ b) ⊎ (b < a)
which zero b = inl zero-le
which (suc a) zero = inr (suc-le-suc zero-le)
which (suc a) (suc b) = ⊎_elim (λ p. inl (suc-le-suc p)) (λ q. inr (suc-le-suc q)) (which a b)

-- What the terms can lose --------------------------------------------------------------------------------------------

module _ (rest : ℕ → List ℕ → List (List ℕ)) (t : LinearInfo) (r : ℕ) (none : (s : ℕ) (p : List ℕ) → r ≤ s → rest s p ≡ []) where
  branch_covered : (k s : ℕ) (p : List ℕ) → t.weight * k + r ≤ s → branch rest t.weight (thresholds t k) s p ≡ []
  branch_covered zero s p h = none s p (omega (arith, mul-zero t.weight))
  branch_covered (suc k) s p h =
      let m = mul-suc t.weight k in
      let now = none (s - t.weight * suc k) (p ++ (info_lit t (t.count - suc k) ∷ [])) (omega arith) in
      let later = branch_covered k s p (omega arith) in
      let c : t.weight * suc k ≤ s = omega arith in
      rw (length_thresholds t k, le-leb (t.weight * suc k) s c, now, later)

enumerate_covered : (ts : List LinearInfo) (s : ℕ) (p : List ℕ) → loss ts ≤ s → enumerate (map info_term ts) s p ≡ []
unfolding enumerate loss
enumerate_covered [] s p h = refl
enumerate_covered (t ∷ []) s p h = last_none t s p (omega arith)
enumerate_covered (t ∷ u ∷ us) s p h =
    branch_covered (enumerate (map info_term (u ∷ us))) t (loss (u ∷ us)) (enumerate_covered (u ∷ us)) t.count s p h

-- The clauses of a table ---------------------------------------------------------------------------------------------

-- terms before the last
unfoldable pub terms_before : List LinearInfo → ℕ
terms_before [] = 0
terms_before (t ∷ []) = 0
terms_before (t ∷ u ∷ us) = suc (terms_before (u ∷ us))

-- the table has the terms
unfoldable pub Has : Table → List LinearInfo → Type 0
Has tab [] = Unit
Has tab (t ∷ []) = Last tab t
Has tab (t ∷ u ∷ us) =
    ((i : ℕ) → i < t.count → row_of tab (suc i + thresholds_before (u ∷ us)) ≡ threshold_row t (terms_before (u ∷ us) + 1) (loss (u ∷ us)) (suc i))
    × (top_of tab (suc (terms_before (u ∷ us))) ≡ t.count + thresholds_before (u ∷ us))
    × Has tab (u ∷ us)

-- where its thresholds begin
has_top : (tab : Table) (t : LinearInfo) (ts : List LinearInfo) → Has tab (t ∷ ts) → top_of tab (terms_before (t ∷ ts)) ≡ thresholds_before (t ∷ ts)
unfolding Has thresholds_before terms_before
has_top tab t [] e = e.none
has_top tab t (u ∷ us) e = e.1

module _ (tab : Table) (z : SoundTable tab) where
  tells_last : (t : LinearInfo) → Last tab t → (s : ℕ) (p : List ℕ) → walk_rows tab 0 s p ≡ enumerate (info_term t ∷ []) s p
  tells_last t e s p =
      ⊎_elim
      (λ h. walk_covered tab z s p 0 (omega (arith, e.loss)) ∙ sym (last_none t s p h))
      (λ h. walk_last tab z s p 0 (omega arith) (omega (arith, e.loss)) ∙ rw (e.lit s h) (sym (last_one t s p h)))
      (which (t.weight * t.count) s)

  -- a term with v terms and the last after it, k of its thresholds left
  module _ (t : LinearInfo) (rest : ℕ → List ℕ → List (List ℕ)) (v n r : ℕ)
      (rows : (i : ℕ) → i < t.count → row_of tab (suc i + n) ≡ threshold_row t (v + 1) r (suc i))
      (top : top_of tab (suc v) ≡ t.count + n)
      (later : top_of tab v ≡ n)
      (more : (s : ℕ) (p : List ℕ) → walk_rows tab n s p ≡ rest s p)
      (none : (s : ℕ) (p : List ℕ) → r ≤ s → rest s p ≡ []) where
    tells_branch : (k s : ℕ) (p : List ℕ) → k ≤ t.count → walk_rows tab (k + n) s p ≡ branch rest t.weight (thresholds t k) s p
    tells_branch zero s p h = rw zero-add (more s p)
    tells_branch (suc k) s p h =
        let row = rows k (omega arith) in
        let before : suc k + n - 1 ≡ k + n = omega arith in
        let behind = tells_branch k s p (omega arith) in
        let one : v + 1 - 1 ≡ v = omega arith in
        let terms : terms_of tab (suc k + n) ≡ v + 1 = ap (λ (x : Row). x.terms) row in
        let cost : cost_of tab (suc k + n) ≡ t.weight * suc k = ap (λ (x : Row). x.cost) row in
        let lost : loss_of tab (suc k + n) ≡ t.weight * suc k + r = ap (λ (x : Row). x.loss) row in
        let own : lit_of tab (suc k + n) ≡ info_lit t (t.count - suc k) = ap (λ (x : Row). x.lit.0) row in
        let next : after_of tab (suc k + n) ≡ n = rw (terms, one) later in
        ⊎_elim
        (λ b. walk_covered tab z s p (suc k + n) (omega (arith, lost)) ∙ sym (branch_covered rest t r none (suc k) s p b))
        (λ b.
        walk_more tab z s p (suc v) (suc k + n) (omega arith) (omega (arith, top)) (omega (arith, lost))
        ∙ rw (own, cost, next, before, behind, more (s - t.weight * suc k) (p ++ (info_lit t (t.count - suc k) ∷ [])), length_thresholds t k))
        (which (t.weight * suc k + r) s)

  tells : (t : LinearInfo) (ts : List LinearInfo) → Has tab (t ∷ ts)
      → (s : ℕ) (p : List ℕ) → walk_rows tab (thresholds_before (t ∷ ts)) s p ≡ enumerate (map info_term (t ∷ ts)) s p
  unfolding Has thresholds_before enumerate
  tells t [] e s p = tells_last t e s p
  tells t (u ∷ us) e s p =
      tells_branch t (enumerate (map info_term (u ∷ us))) (terms_before (u ∷ us)) (thresholds_before (u ∷ us)) (loss (u ∷ us)) e.0 e.1
      (has_top tab u us e.2) (tells u us e.2) (enumerate_covered (u ∷ us)) t.count s p (omega arith)

-- Filling a table from the last term ---------------------------------------------------------------------------------

-- a term is put before v terms that have n thresholds and a loss of r
module _ (tab : Table) (t : LinearInfo) (v n r : ℕ) (e : length tab.rows ≡ 24) (f : length tab.tops ≡ 24) (o : v < 23) (h : t.count + n < 24) where
  abbrev filled' : Table
  filled' = put_term tab t v n r

  top_own : top_of filled' (suc v) ≡ n + t.count
  top_own =
      let i : v + 1 ≡ suc v = omega arith in
      rw i (get_or-set_same tab.tops (suc v) (n + t.count) 0 (omega (arith, f)))

  top_other : (j : ℕ) → (j ≡ suc v → ⊥) → top_of filled' j ≡ top_of tab j
  top_other j g = get_or-set_other tab.tops (v + 1) j (n + t.count) 0 (λ z. g (omega arith))

  row_kept : (k : ℕ) → k ≤ n → row_of filled' k ≡ row_of tab k
  row_kept k g = rows_kept tab.rows t (v + 1) n r t.count k g

  terms_other : (k : ℕ) → k ≤ n → terms_of filled' k ≡ terms_of tab k
  terms_other k g = ap (λ (x : Row). x.terms) (row_kept k g)

  row_own : (j : ℕ) → j < t.count → row_of filled' (suc j + n) ≡ threshold_row t (v + 1) r (suc j)
  row_own j g = rows_row tab.rows t (v + 1) n r e t.count h j g

  terms_own : (k : ℕ) → n < k → k ≤ n + t.count → terms_of filled' k ≡ v + 1
  terms_own k a b =
      let i : suc (k - n - 1) + n ≡ k = omega arith in
      rw i at (ap (λ (x : Row). x.terms) (row_own (k - n - 1) (omega arith)))

  last_kept : loss_of filled' 0 ≡ loss_of tab 0
  last_kept = ap (λ (x : Row). x.loss) (row_kept 0 (omega arith))

  kept : (us : List LinearInfo) → thresholds_before us ≤ n → terms_before us ≤ v → Has tab us → Has filled' us
  unfolding Has thresholds_before terms_before
  kept [] g a y = y
  kept (u ∷ []) g a y = record { none = top_other 0 (λ z. omega arith) ∙ y.none; loss = last_kept ∙ y.loss; lit = y.lit }
  kept (u ∷ w ∷ us) g a y = (
    λ j p. row_kept (suc j + thresholds_before (w ∷ us)) (omega arith) ∙ y.0 j p,
    top_other (suc (terms_before (w ∷ us))) (λ z. omega arith) ∙ y.1,
    kept (w ∷ us) (omega arith) (omega arith) y.2,
  )

  -- the recursion can follow the longer table
  module _ (s : SoundTable tab) (is : top_of tab v ≡ n) (tops : (j : ℕ) → top_of tab j ≤ n) where
    tops_more : (j : ℕ) → top_of filled' j ≤ n + t.count
    tops_more j =
        ⊎_elim
        (λ (q : j ≡ suc v). rw q (omega (arith, top_own)))
        (λ (q : j ≡ suc v → ⊥). omega (arith, top_other j q, tops j))
        (same_or j (suc v))

    -- an earlier threshold
    old_some : (k : ℕ) → 0 < k → k ≤ n → (0 < terms_of filled' k) × (terms_of filled' k ≤ v)
    old_some k y b =
        let g : k ≤ top_of tab v = omega (arith, is) in
        rw (terms_other k b) (s.some v k y g)

    some_more : (j k : ℕ) → 0 < k → k ≤ top_of filled' j → (0 < terms_of filled' k) × (terms_of filled' k ≤ j)
    some_more j k y b =
        ⊎_elim
        (λ (q : j ≡ suc v).
        ⊎_elim
        (λ (a : k ≤ n). let f = old_some k y a in (f.0, omega (arith, f.1)))
        (λ (a : n < k).
        let g : k ≤ n + t.count = omega (arith, tops_more j) in
        let e = terms_own k a g in
        (omega (arith, e), omega (arith, e)))
        (which k n))
        (λ (q : j ≡ suc v → ⊥).
        let g : k ≤ top_of tab j = omega (arith, top_other j q) in
        let a : k ≤ n = omega (arith, tops j) in
        rw (terms_other k a) (s.some j k y g))
        (same_or j (suc v))

    own_more : (j k : ℕ) → 0 < k → k ≤ top_of filled' j → (after_of filled' k < k) × (k ≤ top_of filled' (terms_of filled' k))
    own_more j k y b =
        ⊎_elim
        (λ (a : k ≤ n).
        let g : k ≤ top_of tab v = omega (arith, is) in
        let f : terms_of tab k ≤ v = (s.some v k y g).1 in
        let x : terms_of tab k - 1 ≡ suc v → ⊥ = λ z. omega arith in
        let w : terms_of tab k ≡ suc v → ⊥ = λ z. omega arith in
        rw (terms_other k a, top_other (terms_of tab k - 1) x, top_other (terms_of tab k) w) (s.own v k y g))
        (λ (a : n < k).
        let g : k ≤ n + t.count = omega (arith, tops_more j) in
        let x : v ≡ suc v → ⊥ = λ z. omega arith in
        let one : v + 1 - 1 ≡ v = omega arith in
        let more : v + 1 ≡ suc v = omega arith in
        let d : top_of filled' (v + 1 - 1) < k = omega (arith, ap (λ (i : ℕ). top_of filled' i) one, top_other v x, is) in
        let w : k ≤ top_of filled' (v + 1) = omega (arith, ap (λ (i : ℕ). top_of filled' i) more, top_own) in
        rw (terms_own k a g) (d, w))
        (which k n)

    sound_more : SoundTable filled'
    sound_more =
        record {
          some = some_more;
          own = own_more;
          small = λ j. omega (arith, tops_more j);
          last = omega (arith, last_kept, s.last);
        }

-- a table that is filled with the terms, and what the code knows of them
pub record Filling (tab : Table) (ts : List LinearInfo) (terms left lost : ℕ) : Type 0 where
  pub rows_long : length tab.rows ≡ 24
  pub tops_long : length tab.tops ≡ 24
  pub sound : SoundTable tab
  pub has : Has tab ts
  pub terms_are : terms ≡ terms_before ts
  pub left_is : left ≡ thresholds_before ts
  pub lost_is : lost ≡ loss ts
  pub small : left < 24
  pub tops : (j : ℕ) → top_of tab j ≤ left

empty_top : (j : ℕ) → top_of empty_table j ≡ 0
empty_top j =
    ⊎_elim
    (λ h. get_or-eq_default {A = ℕ} (replicate 24 0) 0 {n = j} (omega (arith, length-replicate {A = ℕ} 24 0)))
    (λ h. get_or-replicate {A = ℕ} 24 j 0 0 (omega arith))
    (which 24 j)

empty_sound : SoundTable empty_table
empty_sound =
    record {
      some = λ j k y b. absurd (omega (arith, empty_top j));
      own = λ j k y b. absurd (omega (arith, empty_top j));
      small = λ j. omega (arith, empty_top j);
      last = omega arith;
    }

filling_last : (t : LinearInfo) → t.weight * t.count ≤ 24 → Filling (put_last empty_table t) (t ∷ []) 0 0 (t.weight * t.count)
unfolding Has thresholds_before loss terms_before
filling_last t h =
    record {
      rows_long = refl;
      tops_long = refl;
      sound = last_sound empty_table t h empty_top refl;
      has = last_part empty_table t h empty_top refl refl;
      terms_are = refl;
      left_is = refl;
      lost_is = omega arith;
      small = omega arith;
      tops = λ j. omega (arith, empty_top j);
    }

filling_more : (tab : Table) (t u : LinearInfo) (us : List LinearInfo) (terms left lost : ℕ) → Filling tab (u ∷ us) terms left lost → terms < 23
    → left + t.count < 24 → Filling (put_term tab t terms left lost) (t ∷ u ∷ us) (terms + 1) (left + t.count) (lost + t.weight * t.count)
unfolding Has thresholds_before loss terms_before
filling_more tab t u us terms left lost f o h =
    let b : t.count + left < 24 = omega arith in
    let is : top_of tab terms ≡ left = rw (f.terms_are, f.left_is) (has_top tab u us f.has) in
    record {
      rows_long = rows_length tab.rows t (terms + 1) left lost t.count ∙ f.rows_long;
      tops_long = length-set tab.tops (terms + 1) (left + t.count) ∙ f.tops_long;
      sound = sound_more tab t terms left lost f.rows_long f.tops_long o b f.sound is f.tops;
      has = (
        rw (← f.terms_are, ← f.left_is, ← f.lost_is) (row_own tab t terms left lost f.rows_long f.tops_long o b),
        rw (← f.terms_are, ← f.left_is) (omega (arith, top_own tab t terms left lost f.rows_long f.tops_long o b)),
        kept tab t terms left lost f.rows_long f.tops_long o b (u ∷ us) (omega (arith, f.left_is)) (omega (arith, f.terms_are)) f.has,
      );
      terms_are = omega (arith, f.terms_are);
      left_is = omega (arith, f.left_is);
      lost_is = omega (arith, f.lost_is);
      small = h;
      tops = tops_more tab t terms left lost f.rows_long f.tops_long o b f.sound is f.tops;
    }

-- The terms of the code ----------------------------------------------------------------------------------------------

-- no term
pub none_filled : (ts : List LinearInfo) → length ts ≡ 0 → Filled empty_table ts 0
unfolding enumerate
none_filled (t ∷ ts) e = absurd (omega (arith, e))
none_filled [] e =
    record { few = omega arith; sound = empty_sound; same = λ s p. rw (empty_top 0) (walk_covered empty_table empty_sound s p 0 (omega arith)) }

-- the last of them, behind those before
module _ (ts before : List LinearInfo) (last : LinearInfo) (e : ts ≡ before ++ (last ∷ [])) where
  long : length ts ≡ length before + 1
  long = rw e (length-append before (last ∷ []))

  at_last : drop (length before) ts ≡ last ∷ []
  at_last = rw e (drop-append_seam before (last ∷ []))

  -- one before
  at_more : (i : ℕ) → i < length before → drop i ts ≡ get_or before i no_info ∷ drop (i + 1) ts
  at_more i h = left_more ts i (omega (arith, long)) ∙ ap (λ u. u ∷ drop (i + 1) ts) (rw e (get_or-append before (last ∷ []) no_info i h))

  at_first : (i : ℕ) → i ≤ length before → (u : LinearInfo) × (us : List LinearInfo) × (drop i ts ≡ u ∷ us)
  at_first i h =
      ⊎_elim
      (λ (b : length before ≤ i). let j : i ≡ length before = omega arith in (last, [], rw j at_last))
      (λ (b : i < length before). (get_or before i no_info, drop (i + 1) ts, at_more i b))
      (which (length before) i)

  pub small_last : AllSmall ts → Small last
  small_last h = rw (e, get_or-append_seam before last [] no_info) at (h (length before))

  pub small_before : AllSmall ts → (i : ℕ) → i < length before → Small (get_or before i no_info)
  small_before h i b = rw (e, get_or-append before (last ∷ []) no_info i b) at (h i)

  module _ (h : InTable ts) where
    pub last_fits : last.weight * last.count ≤ 24
    unfolding last_loss
    last_fits = (rw at_last at (in_table_left ts h (length before) (omega (arith, long)))).last

    pub start_filling : Filling (put_last empty_table last) (drop (length before) ts) 0 0 (last.weight * last.count)
    start_filling = rw at_last (filling_last last last_fits)

    module _ (tab : Table) (i terms left lost : ℕ) (b : i < length before) (f : Filling tab (drop (i + 1) ts) terms left lost) where
      pub term_fits : (left + (get_or before i no_info).count < 24) × ((get_or before i no_info).weight * (get_or before i no_info).count + lost < 2 ^ 32)
      unfolding thresholds_before loss
      term_fits =
          let n = at_first (i + 1) (omega arith) in
          let g = rw n.2 at f in
          let w = rw (at_more i b, n.2) at (in_table_left ts h i (omega (arith, long))) in
          (omega (arith, w.few, g.left_is), omega (arith, w.all, g.lost_is))

      pub go_on_filling : terms < 23
          → Filling (put_term tab (get_or before i no_info) terms left lost) (drop i ts) (terms + 1) (left + (get_or before i no_info).count) (lost + (get_or before i no_info).weight * (get_or before i no_info).count)
      go_on_filling o =
          let n = at_first (i + 1) (omega arith) in
          rw (at_more i b, n.2) (filling_more tab (get_or before i no_info) n.0 n.1 terms left lost (rw n.2 at f) o term_fits.0)

  pub end_filling : (tab : Table) (terms left lost : ℕ) → terms < 24 → Filling tab ts terms left lost → Filled tab ts terms
  end_filling tab terms left lost o f =
      let n = at_first 0 (omega arith) in
      let g = rw n.2 at f in
      record {
        few = o;
        sound = f.sound;
        same = λ s p. rw (n.2, g.terms_are, has_top tab n.0 n.1 g.has) (tells tab f.sound n.0 n.1 g.has s p);
      }
