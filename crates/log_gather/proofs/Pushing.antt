-- Literals pushed: one, one after the other, once for each bit of a coefficient; arrays that hold none yet.
use mathlib.Core.Bool.{cond}
use lib.Dec.{eqb, lit<}
use borrow.Author.Tests.{eq-eqb, ne_eqb}
use mathlib.Core.Path.{◌≡◌, refl, ap, ap₂, sym, ◌∙◌}
use mathlib.Core.List.{List, [], ◌∷◌, ◌++◌, map, map-append}
use mathlib.Core.Logic.{⊎_elim}
use Prim.Native.Nat.{ℕ, zero, suc, ◌+◌, ◌-◌, ◌*◌, ◌/◌, ◌%◌, ◌^◌, ◌≤◌, ◌<◌}
use native.Mathlib.Nat.{add-zero, not-suc-le-zero, sub-zero}
use native.Mathlib.Numerals.{add-one, sub-one}
use native.Mathlib.Omega.{arith}
use lib.ListN.{length, get_or, get_or-replicate, set, take, replicate, length-set, length-append, length-map, length-take}
use lib.Seq.{get_or-set_same, get_or-set_other, take-suc, take-suc-set}
use Rattle.sat.specs.declared.Lit.{Lit}
use Rattle.log_adder.specs.ColumnInfo.{AllLow}
use Rattle.log_adder.specs.declared.Columns.{Columns}
use Rattle.sat.specs.LitArray.{first_lits, lit, num}
use Rattle.arithmetic.proofs.Tests.{same_or}
use Rattle.sat.proofs.Every.{every_set}
use Rattle.log_encoding.specs.Gather.{Grid, push_scaled, push_value}
use Rattle.log_gather.specs.Arrays.{Arrays, Few, Holds, Pushed}

-- One literal --------------------------------------------------------------------------------------------------------

pub push_same : (w l : ℕ) (g : Grid) → get_or (push_value w (l ∷ []) g) w [] ≡ get_or g w [] ++ (l ∷ [])
push_same zero l [] = refl
push_same zero l (c ∷ g) = refl
push_same (suc w) l [] = push_same w l []
push_same (suc w) l (c ∷ g) = push_same w l g

pub push_other : (w l : ℕ) (g : Grid) (i : ℕ) → (i ≡ w → ⊥) → get_or (push_value w (l ∷ []) g) i [] ≡ get_or g i []
push_other zero l [] zero h = absurd (h refl)
push_other zero l [] (suc i) h = refl
push_other zero l (c ∷ g) zero h = absurd (h refl)
push_other zero l (c ∷ g) (suc i) h = refl
push_other (suc w) l [] zero h = refl
push_other (suc w) l [] (suc i) h = push_other w l [] i (λ e. h (ap suc e))
push_other (suc w) l (c ∷ g) zero h = refl
push_other (suc w) l (c ∷ g) (suc i) h = push_other w l g i (λ e. h (ap suc e))

-- One after the other ------------------------------------------------------------------------------------------------

pub push_last : (o : ℕ) (xs : List ℕ) (x : ℕ) (g : Grid) → push_value o (xs ++ (x ∷ [])) g ≡ push_value (o + length xs) (x ∷ []) (push_value o xs g)
push_last zero [] x g = refl
push_last zero (y ∷ xs) x [] =
    let e : 0 + length (y ∷ xs) ≡ suc (0 + length xs) = omega arith in
    rw e (ap (λ (r : Grid). (y ∷ []) ∷ r) (push_last zero xs x []))
push_last zero (y ∷ xs) x (c ∷ g) =
    let e : 0 + length (y ∷ xs) ≡ suc (0 + length xs) = omega arith in
    rw e (ap (λ (r : Grid). (c ++ (y ∷ [])) ∷ r) (push_last zero xs x g))
push_last (suc o) xs x [] =
    let e : suc o + length xs ≡ suc (o + length xs) = omega arith in
    rw e (ap (λ (r : Grid). [] ∷ r) (push_last o xs x []))
push_last (suc o) xs x (c ∷ g) =
    let e : suc o + length xs ≡ suc (o + length xs) = omega arith in
    rw e (ap (λ (r : Grid). c ∷ r) (push_last o xs x g))

-- The arrays ---------------------------------------------------------------------------------------------------------

module _ (c : Columns) (w : ℕ) (l : Lit) (h : w < 32) (low : l.0 < 2 ^ 31) (z : Arrays c) where
  abbrev n· : ℕ
  n· = get_or c.counts w 0

  abbrev counts· : List ℕ
  counts· = set c.counts w (n· + 1)

  abbrev lits· : List (List Lit)
  lits· = set c.lits w (set (get_or c.lits w []) n· l)

  few· : (m : ℕ) → Few m c → (i : ℕ) → get_or counts· i 0 ≤ m + 1
  few· m b = every_set 0 (λ (x : ℕ). x ≤ m + 1) c.counts w (n· + 1) (λ i. let k = b i in omega arith) (let k = b w in omega arith)

  same_count : get_or counts· w 0 ≡ n· + 1
  same_count = get_or-set_same c.counts w (n· + 1) 0 (let k = z.places in omega arith)

  count_at : (g : Grid) → Holds c g → (i : ℕ) → i < 32 → get_or counts· i 0 ≡ length (get_or (push_value w (l.0 ∷ []) g) i [])
  count_at g q i k =
      ⊎_elim
      (λ (e : i ≡ w). rw (e, same_count, push_same w l.0 g, length-append (get_or g w []) (l.0 ∷ [])) (ap (λ (x : ℕ). x + 1) (q.count w h)))
      (λ (d : i ≡ w → ⊥). rw (get_or-set_other c.counts w i (n· + 1) 0 d, push_other w l.0 g i d) (q.count i k))
      (same_or i w)

  -- past 12 only the count grows
  pub pushed_past : 12 ≤ n· → Pushed 1 c (push_value w (l.0 ∷ [])) (record { lits = c.lits; counts = counts· })
  pushed_past p =
      record {
        arrays = record { rows = z.rows; places = length-set c.counts w (n· + 1) ∙ z.places; wide = z.wide; low = z.low };
        few = few·;
        holds = λ g q. record { count = count_at g q; own = own_at g q };
      }
    where
      own_at : (g : Grid) → Holds c g → (i : ℕ) → i < 32 → length (get_or (push_value w (l.0 ∷ []) g) i []) ≤ 12
          → map num (take (get_or counts· i 0) (get_or c.lits i [])) ≡ get_or (push_value w (l.0 ∷ []) g) i []
      own_at g q i k s =
          ⊎_elim
          (λ (e : i ≡ w).
          let a : length (get_or (push_value w (l.0 ∷ []) g) w []) ≡ length (get_or g w []) + 1 = ap length (push_same w l.0 g) ∙ length-append (get_or g w []) (l.0 ∷ []) in
          let b : n· ≡ length (get_or g w []) = q.count w h in
          let c : length (get_or (push_value w (l.0 ∷ []) g) w []) ≤ 12 = rw e at s in
          absurd (omega arith))
          (λ (d : i ≡ w → ⊥).
          let o = push_other w l.0 g i d in
          rw (get_or-set_other c.counts w i (n· + 1) 0 d, o) (q.own i k (rw o at s)))
          (same_or i w)

  row_long : length (get_or c.lits w []) ≡ 12
  row_long = z.wide w h

  -- below 12 it is stored
  pub pushed_stored : n· < 12 → Pushed 1 c (push_value w (l.0 ∷ [])) (record { lits = lits·; counts = counts· })
  pushed_stored p =
      record {
        arrays =
            record {
              rows = length-set c.lits w (set (get_or c.lits w []) n· l) ∙ z.rows;
              places = length-set c.counts w (n· + 1) ∙ z.places;
              wide = wide_at;
              low = every_set [] AllLow c.lits w (set (get_or c.lits w []) n· l) z.low (every_set (lit 0) (λ (x : Lit). x.0 < 2 ^ 31) (get_or c.lits w []) n· l (z.low w) low);
            };
        few = few·;
        holds = λ g q. record { count = count_at g q; own = own_at g q };
      }
    where
      same_row : get_or lits· w [] ≡ set (get_or c.lits w []) n· l
      same_row = get_or-set_same c.lits w (set (get_or c.lits w []) n· l) [] (let k = z.rows in omega arith)

      wide_at : (i : ℕ) → i < 32 → length (get_or lits· i []) ≡ 12
      wide_at i k =
          ⊎_elim
          (λ (e : i ≡ w). rw (e, same_row) (length-set (get_or c.lits w []) n· l ∙ row_long))
          (λ (d : i ≡ w → ⊥). rw (get_or-set_other c.lits w i (set (get_or c.lits w []) n· l) [] d) (z.wide i k))
          (same_or i w)

      own_at : (g : Grid) → Holds c g → (i : ℕ) → i < 32 → length (get_or (push_value w (l.0 ∷ []) g) i []) ≤ 12
          → map num (take (get_or counts· i 0) (get_or lits· i [])) ≡ get_or (push_value w (l.0 ∷ []) g) i []
      own_at g q i k s =
          ⊎_elim
          (λ (e : i ≡ w).
          let b : n· ≡ length (get_or g w []) = q.count w h in
          let m : n· < length (get_or c.lits w []) = let r = row_long in omega arith in
          rw (e, same_count, same_row, push_same w l.0 g, add-one n·, take-suc-set (get_or c.lits w []) n· l m, map-append num (take n· (get_or c.lits w [])) (l ∷ []))
          (ap (λ (x : List ℕ). x ++ (l.0 ∷ [])) (q.own w h (omega arith))))
          (λ (d : i ≡ w → ⊥).
          let o = push_other w l.0 g i d in
          rw (get_or-set_other c.counts w i (n· + 1) 0 d, get_or-set_other c.lits w i (set (get_or c.lits w []) n· l) [] d, o) (q.own i k (rw o at s)))
          (same_or i w)

-- The loops ----------------------------------------------------------------------------------------------------------

-- nothing pushed
pub pushed_nothing : {c : Columns} (k : ℕ) (f : Grid → Grid) → ((g : Grid) → f g ≡ g) → Arrays c → Pushed k c f c
pushed_nothing {c} k f e z = record { arrays = z; few = λ m b i. let r = b i in omega arith; holds = λ g q. rw (e g) q }

-- first one thing, then another
pub pushed_then : {j k : ℕ} {c c₁ c₂ : Columns} (f f₁ f₂ : Grid → Grid) → ((g : Grid) → f g ≡ f₂ (f₁ g)) → Pushed j c f₁ c₁ → Pushed k c₁ f₂ c₂
    → Pushed (j + k) c f c₂
pushed_then {j} {k} f f₁ f₂ e a b =
    record {
      arrays = b.arrays;
      few = λ m h i. let r = b.few (m + j) (a.few m h) i in omega arith;
      holds = λ g q. rw (e g) (b.holds (f₁ g) (a.holds g q));
    }

-- one literal more
pub push_more : (o : ℕ) (lits : List Lit) (j : ℕ) → j < length lits → (g : Grid) → push_value o (first_lits lits (j + 1)) g ≡ push_value (o + j) ((get_or lits j (lit 0)).0 ∷ []) (push_value o (first_lits lits j) g)
push_more o lits j h g =
    let e : first_lits lits (j + 1) ≡ first_lits lits j ++ ((get_or lits j (lit 0)).0 ∷ []) = rw (add-one j, take-suc lits j (lit 0) h, map-append num (take j lits) (get_or lits j (lit 0) ∷ [])) in
    let n : length (first_lits lits j) ≡ j = rw (length-map, length-take) (omega arith) in
    ap (λ (x : List ℕ). push_value o x g) e ∙ push_last o (first_lits lits j) (get_or lits j (lit 0)).0 g ∙ ap (λ (x : ℕ). push_value (o + x) ((get_or lits j (lit 0)).0 ∷ []) (push_value o (first_lits lits j) g)) n

-- one bit of the coefficient, and those left
pub scaled_step : (f k o : ℕ) (ls : List ℕ) (g : Grid) → 0 < f → push_scaled f k o ls g ≡ push_scaled (f - 1) (k / 2) (o + 1) ls (cond (eqb (k % 2) 1) (push_value o ls g) g)
scaled_step zero k o ls g h = absurd (not-suc-le-zero h)
scaled_step (suc f) k o ls g h = rw (sub-one (suc f), add-one o)

pub scaled_end : (f k o : ℕ) (ls : List ℕ) (g : Grid) → f ≤ 0 → push_scaled f k o ls g ≡ g
scaled_end zero k o ls g h = refl
scaled_end (suc f) k o ls g h = absurd (not-suc-le-zero h)

-- no literals: at most empty columns are added
pad_same : (o : ℕ) (g : Grid) (i : ℕ) → get_or (push_value o [] g) i [] ≡ get_or g i []
pad_same zero g i = refl
pad_same (suc o) [] zero = refl
pad_same (suc o) [] (suc i) = pad_same o [] i
pad_same (suc o) (c ∷ g) zero = refl
pad_same (suc o) (c ∷ g) (suc i) = pad_same o g i

pub pushed_start : (c : Columns) (o : ℕ) → Arrays c → Pushed 0 c (push_value o []) c
pushed_start c o z =
    record {
      arrays = z;
      few = λ m b i. let k = b i in omega arith;
      holds = λ g q. record {
        count = λ i k. q.count i k ∙ ap length (sym (pad_same o g i));
        own = λ i k s. q.own i k (rw (pad_same o g i) at s) ∙ sym (pad_same o g i);
      };
    }

-- a bit of the coefficient
pub pushed_bit : {n : ℕ} {c d : Columns} (k : ℕ) (f : Grid → Grid) → k % 2 ≡ 1 → Pushed n c f d → Pushed n c (λ g. cond (eqb (k % 2) 1) (f g) g) d
pushed_bit k f e a = record { arrays = a.arrays; few = a.few; holds = λ g q. rw (eq-eqb (k % 2) 1 e) (a.holds g q) }

pub pushed_no_bit : {n : ℕ} (c : Columns) (k : ℕ) (f : Grid → Grid) → (k % 2 ≡ 1 → ⊥) → Arrays c → Pushed n c (λ g. cond (eqb (k % 2) 1) (f g) g) c
pushed_no_bit c k f e z =
    record { arrays = z; few = λ m b i. let r = b i in omega arith; holds = λ g q. rw (ne_eqb (k % 2) 1 e) q }

-- i of the f bits so far, for n literals from column o on: what was pushed, after which those left give the whole
pub record Scaling (n f o : ℕ) (ls : List ℕ) (coef : ℕ) (c₀ c : Columns) (k i : ℕ) : Type 0 where
  pub so_far : Grid → Grid
  pub pushed : Pushed (n * i) c₀ so_far c
  pub same : (g : Grid) → push_scaled f coef o ls g ≡ push_scaled (f - i) k (o + i) ls (so_far g)

pub scaling_start : (n f o : ℕ) (ls : List ℕ) (coef : ℕ) (c : Columns) → Arrays c → Scaling n f o ls coef c c coef 0
scaling_start n f o ls coef c z =
    record { so_far = λ g. g; pushed = pushed_nothing (n * 0) (λ g. g) (λ g. refl) z; same = λ g. rw (sub-zero f, add-zero o) }

module _ {n f o : ℕ} {ls : List ℕ} {coef : ℕ} {c₀ c : Columns} {k i : ℕ} (s : Scaling n f o ls coef c₀ c k i) where
  pub scaling_turn : i < f → (d : Columns) → Pushed n c (λ g. cond (eqb (k % 2) 1) (push_value (o + i) ls g) g) d → Scaling n f o ls coef c₀ d (k / 2) (i + 1)
  scaling_turn h d a =
      let next : Grid → Grid = λ g. cond (eqb (k % 2) 1) (push_value (o + i) ls (s.so_far g)) (s.so_far g) in
      let m : n * i + n ≡ n * (i + 1) = omega arith in
      let j : f - i - 1 ≡ f - (i + 1) = omega arith in
      let w : o + i + 1 ≡ o + (i + 1) = omega arith in
      record {
        so_far = next;
        pushed = rw (← m) (pushed_then next s.so_far (λ g. cond (eqb (k % 2) 1) (push_value (o + i) ls g) g) (λ g. refl) s.pushed a);
        same = λ g. s.same g ∙ scaled_step (f - i) k (o + i) ls (s.so_far g) (omega arith) ∙ ap₂ (λ (x y : ℕ). push_scaled x (k / 2) y ls (next g)) j w;
      }

  pub scaling_end : i ≡ f → Pushed (n * f) c₀ (push_scaled f coef o ls) c
  scaling_end e =
      record {
        arrays = s.pushed.arrays;
        few = rw e at s.pushed.few;
        holds = λ g q. rw (s.same g ∙ scaled_end (f - i) k (o + i) ls (s.so_far g) (omega arith)) (s.pushed.holds g q);
      }

-- No literals yet ----------------------------------------------------------------------------------------------------

all_replicate : {A : Type 0} (P : A → Type 0) (n : ℕ) (x d : A) → P x → P d → (i : ℕ) → P (get_or (replicate n x) i d)
all_replicate P zero x d p q i = q
all_replicate P (suc n) x d p q zero = p
all_replicate P (suc n) x d p q (suc i) = all_replicate P n x d p q i

zero_at : (n i : ℕ) → ◌≡◌ {A = ℕ} (get_or (replicate n 0) i 0) 0
zero_at n i = all_replicate (λ (x : ℕ). x ≡ 0) n 0 0 refl refl i

-- no literal anywhere
abbrev none : Columns
none = record { lits = replicate 32 (replicate 12 (lit 0)); counts = replicate 32 0 }

pub nothing_held : Arrays none × Few 0 none × Holds none []
nothing_held = (
  record {
    rows = refl;
    places = refl;
    wide = λ i k. ap length (get_or-replicate 32 i (replicate 12 (lit 0)) [] k);
    low = all_replicate AllLow 32 (replicate 12 (lit 0)) [] (all_replicate (λ (x : Lit). x.0 < 2 ^ 31) 12 (lit 0) (lit 0) (lit< tt) (lit< tt)) (λ k. lit< tt);
  },
  (λ i. let e = zero_at 32 i in omega arith),
  record { count = λ i k. zero_at 32 i; own = λ i k s. ap (λ (n : ℕ). map num (take n (get_or (replicate 32 (replicate 12 (lit 0))) i []))) (zero_at 32 i) },
)
