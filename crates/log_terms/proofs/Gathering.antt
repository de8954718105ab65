-- A sum's terms gathered one after the other: the arrays, the width, and what negated literals add too much.
use mathlib.Core.Path.{◌≡◌, refl, ap, sym, ◌∙◌}
use mathlib.Core.Bool.{Bool, beq, cond, true, false}
use mathlib.Core.List.{List, [], ◌∷◌, map}
use Prim.Native.Nat.{ℕ, zero, suc, ◌+◌, ◌-◌, ◌*◌, ◌^◌, ◌≤◌, ◌<◌}
use native.Mathlib.Nat.{mul-le-mul_left, mul-one, mul-suc}
use native.Mathlib.Numerals.{add-one}
use native.Mathlib.Omega.{arith}
use lib.ListN.{drop, drop_of_length-le, get_or, get_or-map, length, length-map}
use lib.Seq.{drop-cons}
use Rattle.arithmetic.specs.Bits.{shl}
use Rattle.arithmetic.proofs.Bits.{shl_mul}
use Rattle.sat.specs.declared.Lit.{Lit}
use Rattle.log_adder.specs.ColumnInfo.{AllLow}
use Rattle.log_adder.specs.declared.Columns.{Columns}
use Rattle.log_encoding.specs.Gather.{Grid, push_scaled}
use Rattle.log_gather.specs.Arrays.{AllSmall, Arrays, Few, Holds, Pushed, widths}
use Rattle.log_linear.specs.Added.{bits_of}
use Rattle.sat.specs.LitArray.{num}
use Rattle.log_gather.proofs.Pushing.{pushed_start}
use Rattle.log_gather.proofs.Slices.{slice_below}
use Rattle.log_gather.proofs.Steps.{steps_enough, widths_enough, widths_most}
use Rattle.log_gather.proofs.Widths.{scaled_length}
use Rattle.log_linear.proofs.Literals.{lits_long}
use Rattle.log_terms.specs.Gathered.{Gathered}
use Rattle.log_encoding.specs.Linear.{Weighted, push_scaled_some}
use Rattle.log_terms.specs.Terms.{TermFits, no_term, some_width, weighted_of}
use Rattle.log_terms.specs.declared.Weighted.{Weighted as WeightedLits}

-- literals whose negations are small are small
pub all_low : (ls : List Lit) → AllSmall ls → AllLow ls
all_low ls h k = let r = h k in omega arith

-- the literals of one term pushed
pub pushed_as : {steps : ℕ} (t : WeightedLits) → TermFits steps t → steps ≤ 12 → {n : ℕ} → n ≡ t.bits.len → {c d : Columns} (f f₁ : Grid → Grid)
    → ((g : Grid) → f g ≡ f₁ g) → Pushed (n * steps) c f d → Pushed 384 c f₁ d
pushed_as t h l {n} k f f₁ e p =
    let most = mul-le-mul_left n l in
    record { arrays = p.arrays; few = λ m b i. omega (arith, p.few m b i, most, h.len, k); holds = λ g q. rw (← (e g)) (p.holds g q) }

-- `push_scaled` may be called
pub may_push : {steps : ℕ} (t : WeightedLits) → TermFits steps t → steps ≤ 12 → (ls : List Lit) → length ls ≡ t.bits.len → AllLow ls
    → (steps ≤ 12) × (shl (0 + length ls) t.coef < 2 ^ 32) × AllLow ls
may_push t h l ls e low = let z : 0 + length ls ≡ t.bits.len = omega arith in (l, rw z (omega (arith, h.reach)), low)

-- its literals as a slice are small
pub term_small : {steps : ℕ} (t : WeightedLits) → TermFits steps t → (ls : List Lit) → map num ls ≡ bits_of t.bits → AllSmall ls
term_small t h ls e = slice_below t.bits ls e h.small

-- The terms of a list ------------------------------------------------------------------------------------------------

module _ (ts : List WeightedLits) where
  terms_long : length (map weighted_of ts) ≡ length ts
  terms_long = length-map ts weighted_of

  -- the term at a place, and those after it
  pub terms_next : (i : ℕ) → i < length ts → drop i (map weighted_of ts) ≡ weighted_of (get_or ts i no_term) ∷ drop (i + 1) (map weighted_of ts)
  terms_next i h =
      let e : get_or (map weighted_of ts) i (weighted_of no_term) ≡ weighted_of (get_or ts i no_term) = get_or-map weighted_of ts i no_term in
      rw (add-one i, ← e) (drop-cons (map weighted_of ts) i (weighted_of no_term) (omega (arith, terms_long)))

  pub terms_none : (i : ℕ) → length ts ≤ i → drop i (map weighted_of ts) ≡ []
  terms_none i h = drop_of_length-le (map weighted_of ts) {i = i} (omega (arith, terms_long))

-- Terms left ----------------------------------------------------------------------------------------------------------

-- i terms are in a grid, from which the others give what all give from the start
pub record TermsLeft (all : List Weighted → Grid → Grid) (ps : List Weighted) (start : Grid) (i : ℕ) : Type 0 where
  pub grid : Grid
  pub same : all ps start ≡ all (drop i ps) grid

abbrev pub left_start : (all : List Weighted → Grid → Grid) (ps : List Weighted) (start : Grid) → TermsLeft all ps start 0
left_start all ps start = record { grid = start; same = refl }

module _ {all : List Weighted → Grid → Grid} {ps : List Weighted} {start : Grid} {i : ℕ} (l : TermsLeft all ps start i) where
  abbrev pub left_turn : (step : Grid → Grid) → all (drop i ps) l.grid ≡ all (drop (i + 1) ps) (step l.grid) → TermsLeft all ps start (i + 1)
  left_turn step e = record { grid = step l.grid; same = l.same ∙ e }

  pub left_end : ((g : Grid) → all [] g ≡ g) → drop i ps ≡ [] → all ps start ≡ l.grid
  left_end e none = l.same ∙ ap (λ (xs : List Weighted). all xs l.grid) none ∙ e l.grid

-- the columns hold that grid
pub record Gathering (all : List Weighted → Grid → Grid) (ps : List Weighted) (start : Grid) (c : Columns) (i : ℕ) : Type 0 where
  pub left : TermsLeft all ps start i
  pub arrays : Arrays c
  pub few : Few (384 * i) c
  pub holds : Holds c left.grid

module _ {all : List Weighted → Grid → Grid} {ps : List Weighted} {start : Grid} {c : Columns} where
  pub gathering_start : Arrays c → Few 0 c → Holds c start → Gathering all ps start c 0
  gathering_start z b h = record { left = left_start all ps start; arrays = z; few = λ j. let r = b j in omega arith; holds = h }

  pub gathering_few : {i : ℕ} → Gathering all ps start c i → i ≤ 7 → Few 2147480000 c
  gathering_few g h j = let r = g.few j in omega arith

  pub gathering_turn : {i : ℕ} {d : Columns} (g : Gathering all ps start c i) (step : Grid → Grid)
      → all (drop i ps) g.left.grid ≡ all (drop (i + 1) ps) (step g.left.grid) → Pushed 384 c step d → Gathering all ps start d (i + 1)
  gathering_turn {i} g step e p =
      record {
        left = left_turn g.left step e;
        arrays = p.arrays;
        few = λ j. let r = p.few (384 * i) g.few j in omega arith;
        holds = p.holds g.left.grid g.holds;
      }

  pub gathering_end : {i : ℕ} → Gathering all ps start c i → i ≤ 7 → ((g : Grid) → all [] g ≡ g) → drop i ps ≡ [] → Gathered (all ps start) c
  gathering_end g h e none =
      record { arrays = g.arrays; few = λ j. let r = g.few j in omega arith; holds = rw (left_end g.left e none) g.holds }

-- one empty column
pub empty_column : {c : Columns} → Arrays c → Holds c [] → Holds c ([] ∷ [])
empty_column {c} z h = (pushed_start c 1 z).holds [] h

-- One term ------------------------------------------------------------------------------------------------------------

-- how many literals a term has
pub term_long : {steps : ℕ} (t : WeightedLits) → TermFits steps t → length (bits_of t.bits) ≡ t.bits.len
term_long t h = lits_long t.bits.lits t.bits.len (omega (arith, h.len, h.long))

module _ {steps : ℕ} (t : WeightedLits) (h : TermFits steps t) (e : steps ≤ 12) where
  pub enough : (ls : List ℕ) (g : Grid) → push_scaled steps t.coef 0 ls g ≡ push_scaled 12 t.coef 0 ls g
  enough ls g = steps_enough steps 12 t.coef 0 ls g h.coef e

  pub enough_width : (n w : ℕ) → widths steps t.coef 0 n w ≡ widths 12 t.coef 0 n w
  enough_width n w = widths_enough steps 12 t.coef 0 n w h.coef e

  pub width_most : (w : ℕ) → w ≤ 25 → widths 12 t.coef 0 t.bits.len w ≤ 25
  width_most w b = let z : 0 + t.bits.len ≡ t.bits.len = omega arith in widths_most 25 12 t.coef 0 t.bits.len w b (rw z h.reach)

-- The width ----------------------------------------------------------------------------------------------------------

pub sign_length : (s : Bool) (t : Weighted) (g : Grid)
    → length (cond (beq s t.negative) (push_scaled 12 t.coef 0 t.lits g) g) ≡ cond (beq s t.negative) (widths 12 t.coef 0 (length t.lits) (length g)) (length g)
sign_length s t g = go (beq s t.negative)
  where
    go : (b : Bool) → length (cond b (push_scaled 12 t.coef 0 t.lits g) g) ≡ cond b (widths 12 t.coef 0 (length t.lits) (length g)) (length g)
    go true = scaled_length 12 t.coef 0 t.lits g
    go false = refl

pub some_length : (k : ℕ) (ls : List ℕ) (g : Grid) → length (push_scaled_some k ls g) ≡ some_width k (length ls) (length g)
some_length k [] g = refl
some_length k (l ∷ ls) g = scaled_length 12 k 0 (l ∷ ls) g

-- some literals
pub some_pushed : (k : ℕ) (ls : List ℕ) (g : Grid) → 0 < length ls → push_scaled 12 k 0 ls g ≡ push_scaled_some k ls g
some_pushed k [] g h = absurd (omega arith)
some_pushed k (l ∷ ls) g h = refl

pub some_wide : (k n w : ℕ) → (n ≡ 0 → ⊥) → widths 12 k 0 n w ≡ some_width k n w
some_wide k zero w h = absurd (h refl)
some_wide k (suc n) w h = refl

-- Negated literals ----------------------------------------------------------------------------------------------------

one_shifted : (n : ℕ) → 1 ≤ shl n 1
one_shifted zero = omega arith
one_shifted (suc n) = let r = one_shifted n in omega arith

pub negated_is : (k n : ℕ) → k * (shl n 1 - 1) ≡ shl n k - k
negated_is k n = go (shl n 1) (one_shifted n) (rw (mul-one k) at (shl_mul n k 1))
  where
    go : (p : ℕ) → 1 ≤ p → shl n k ≡ k * p → k * (p - 1) ≡ shl n k - k
    go zero h e = absurd (omega arith)
    go (suc p) h e =
        let q : suc p - 1 ≡ p = omega arith in
        let r : k * suc p ≡ k * p + k = mul-suc k p in
        rw q (omega arith)

-- the width so far is that of a grid from which the terms left go on
pub record WidthLeft (all : List Weighted → Grid → Grid) (ps : List Weighted) (start : Grid) (w i : ℕ) : Type 0 where
  pub left : TermsLeft all ps start i
  pub long : w ≡ length left.grid

pub width_start : (all : List Weighted → Grid → Grid) (ps : List Weighted) (start : Grid) → WidthLeft all ps start (length start) 0
width_start all ps start = record { left = left_start all ps start; long = refl }

pub width_turn : {all : List Weighted → Grid → Grid} {ps : List Weighted} {start : Grid} {w i : ℕ} (l : WidthLeft all ps start w i) (step : Grid → Grid) (w₁ : ℕ)
    → all (drop i ps) l.left.grid ≡ all (drop (i + 1) ps) (step l.left.grid) → w₁ ≡ length (step l.left.grid) → WidthLeft all ps start w₁ (i + 1)
width_turn l step w₁ e k = record { left = left_turn l.left step e; long = k }

pub width_end : {all : List Weighted → Grid → Grid} {ps : List Weighted} {start : Grid} {w i : ℕ} → WidthLeft all ps start w i → ((g : Grid) → all [] g ≡ g) → drop i ps ≡ [] → w ≡ length (all ps start)
width_end l e none = l.long ∙ ap length (sym (left_end l.left e none))
