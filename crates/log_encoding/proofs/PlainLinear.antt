-- The clauses of Eq in integers are those in natural numbers (`plain_linear_eq_is`).
use Prim.Native.Nat.{◌%◌, ◌*◌, ◌+◌, ◌-◌, ◌/◌, ◌<◌, suc, zero, ℕ}
use lib.Dec.{eqb}
use lib.IntN.{ℤ}
use lib.ListN.{length}
use mathlib.Core.Bool.{Bool, cond, false, true}
use mathlib.Core.List.{List, [], ◌++◌, ◌∷◌, map}
use mathlib.Core.Path.{◌∙◌, ◌≡◌, ap, refl}
use native.Mathlib.Omega.{arith}
use Rattle.arithmetic.specs.Bits.{shl}
use Rattle.arithmetic.specs.Integers.{down, up}
use Rattle.sat.specs.Clause.{Assignment, bit, holds}
use Rattle.sat.specs.Count.{count}
use Rattle.sat.specs.Lit.{neg}
use Rattle.sat.specs.Number.{code_of}
use Rattle.log_encoding.specs.Adder2.{eq_adder}
use Rattle.log_encoding.specs.Gather.{Grid, grid_value, push_scaled, push_value}
use Rattle.log_encoding.specs.PlainAdder2.{Signed, SignedColumns}
use Rattle.log_encoding.proofs.PlainAdder2.{minuses, plain_eq_adder_is, positive_lit, weights}
use Rattle.log_encoding.specs.Linear.{Weighted, gather, linear_eq, negated_constant, push_scaled_some}
use Rattle.log_encoding.specs.PlainLinear.{gather_signed, plain_linear_eq, push_lit, push_lits, push_scaled_lits, sign}
use Rattle.log_encoding.proofs.Linear.{WeightedBelow, push_scaled_some_value}

-- Signed literals by numbers, in the columns of specs/Gather ---------------------------------------------------------

module _ (h : Signed → ℕ) where
  abbrev grid : SignedColumns → Grid
  grid cols = map (map h) cols

  map_snoc : (c : List Signed) (s : Signed) → map h (c ++ (s ∷ [])) ≡ map h c ++ (h s ∷ [])
  map_snoc [] s = refl
  map_snoc (x ∷ c) s = ap (λ ls. h x ∷ ls) (map_snoc c s)

  puts_past : (o : ℕ) (ss : List Signed) (c : List Signed) (cols : SignedColumns) → push_lits (suc o) ss (c ∷ cols) ≡ c ∷ push_lits o ss cols
  puts_past o [] c cols = refl
  puts_past o (s ∷ ss) c cols = puts_past (suc o) ss c (push_lit o s cols)

  puts_here : (ss : List Signed) (cols : SignedColumns) → grid (push_lits 0 ss cols) ≡ push_value 0 (map h ss) (grid cols)
  puts_here [] cols = refl
  puts_here (s ∷ ss) [] = ap grid (puts_past 0 ss (s ∷ []) []) ∙ ap (λ g. (h s ∷ []) ∷ g) (puts_here ss [])
  puts_here (s ∷ ss) (c ∷ cols) =
      ap grid (puts_past 0 ss (c ++ (s ∷ [])) cols) ∙ rw (map_snoc, puts_here ss cols)

  push_lits_is : (o : ℕ) (s : Signed) (ss : List Signed) (cols : SignedColumns) → grid (push_lits o (s ∷ ss) cols) ≡ push_value o (map h (s ∷ ss)) (grid cols)
  push_lits_is zero s ss cols = puts_here (s ∷ ss) cols
  push_lits_is (suc o) s ss [] = ap grid (puts_past (suc o) ss [] (push_lit o s [])) ∙ ap (λ g. [] ∷ g) (push_lits_is o s ss [])
  push_lits_is (suc o) s ss (c ∷ cols) = ap grid (puts_past (suc o) ss c (push_lit o s cols)) ∙ ap (λ g. map h c ∷ g) (push_lits_is o s ss cols)

  push_scaled_lits_is : (f k o : ℕ) (s : Signed) (ss : List Signed) (cols : SignedColumns)
      → grid (push_scaled_lits f k o (s ∷ ss) cols) ≡ push_scaled f k o (map h (s ∷ ss)) (grid cols)
  push_scaled_lits_is zero k o s ss cols = refl
  push_scaled_lits_is (suc f) k o s ss cols =
      push_scaled_lits_is f (k / 2) (suc o) s ss (cond (eqb (k % 2) 1) (push_lits o (s ∷ ss) cols) cols)
      ∙ ap (λ g. push_scaled f (k / 2) (suc o) (map h (s ∷ ss)) g) (go (eqb (k % 2) 1))
    where
      go : (t : Bool) → grid (cond t (push_lits o (s ∷ ss) cols) cols) ≡ cond t (push_value o (map h (s ∷ ss)) (grid cols)) (grid cols)
      go true = push_lits_is o s ss cols
      go false = refl

scatter_none : (f k o : ℕ) (cols : SignedColumns) → push_scaled_lits f k o [] cols ≡ cols
scatter_none zero k o cols = refl
scatter_none (suc f) k o cols = scatter_none f (k / 2) (suc o) (cond (eqb (k % 2) 1) cols cols) ∙ go (eqb (k % 2) 1)
  where
    go : (t : Bool) → cond t cols cols ≡ cols
    go true = refl
    go false = refl

scattered : (h : Signed → ℕ) (k : ℕ) (ss : List Signed) (cols : SignedColumns)
    → map (map h) (push_scaled_lits 12 k 0 ss cols) ≡ push_scaled_some k (map h ss) (map (map h) cols)
scattered h k [] cols = ap (map (map h)) (scatter_none 12 k 0 cols)
scattered h k (s ∷ ss) cols = push_scaled_lits_is h 12 k 0 s ss cols

-- What the negative literals come to ---------------------------------------------------------------------------------

abbrev yes : Assignment
yes x = true

-- a literal that `yes` has hold where it counts negative
abbrev mark : Signed → ℕ
mark s = cond s.negative 0 1

holds_mark : (holds yes 0 ≡ true) × (holds yes 1 ≡ false)
unfolding holds
holds_mark = (refl, refl)

bit_mark : (m : Bool) → bit yes (cond m 0 1) ≡ cond m 1 0
bit_mark true = rw holds_mark.0
bit_mark false = rw holds_mark.1

minuses_is : (c : List Signed) → minuses c ≡ count yes (map mark c)
minuses_is [] = refl
minuses_is (s ∷ c) = omega (arith, bit_mark s.negative, minuses_is c)

weights_is : (cols : SignedColumns) → weights cols ≡ grid_value yes (map (map mark) cols)
weights_is [] = refl
weights_is (c ∷ cols) = omega (arith, minuses_is c, weights_is cols)

ones : (ls : List ℕ) → suc (code_of yes (map mark (map (sign true) ls))) ≡ shl (length ls) 1
ones [] = refl
ones (l ∷ ls) = omega (arith, bit_mark true, ones ls)

no_ones : (ls : List ℕ) → code_of yes (map mark (map (sign false) ls)) ≡ 0
no_ones [] = refl
no_ones (l ∷ ls) = omega (arith, bit_mark false, no_ones ls)

part_ones : (m : Bool) (k : ℕ) (ls : List ℕ) → k * code_of yes (map mark (map (sign m) ls)) ≡ cond m (k * (shl (length ls) 1 - 1)) 0
part_ones true k ls = ap (λ n. k * n) (omega (arith, ones ls))
part_ones false k ls = ap (λ n. k * n) (no_ones ls) ∙ omega arith

-- coefficients of at most 12 bits
abbrev pub Small : List Weighted → Type 0
Small [] = Unit
Small (p ∷ ps) = (p.coef < 4096) × Small ps

gather_signed_weights : (ps : List Weighted) (cols : SignedColumns) → Small ps → weights (gather_signed ps cols) ≡ weights cols + negated_constant ps
gather_signed_weights [] cols b = omega arith
gather_signed_weights (p ∷ ps) cols b =
    let ss = map (sign p.negative) p.lits in
    let next = push_scaled_lits 12 p.coef 0 ss cols in
    omega (
      arith,
      gather_signed_weights ps next b.1,
      weights_is next,
      weights_is cols,
      ap (grid_value yes) (scattered mark p.coef ss cols),
      push_scaled_some_value yes p.coef (map mark ss) (map (map mark) cols) b.0,
      part_ones p.negative p.coef p.lits,
    )

-- Sums ---------------------------------------------------------------------------------------------------------------

positive_lits_minus : (ls : List ℕ) → map positive_lit (map (sign true) ls) ≡ map neg ls
positive_lits_minus [] = refl
positive_lits_minus (l ∷ ls) = ap (λ ms. neg l ∷ ms) (positive_lits_minus ls)

positive_lits_plus : (ls : List ℕ) → map positive_lit (map (sign false) ls) ≡ ls
positive_lits_plus [] = refl
positive_lits_plus (l ∷ ls) = ap (λ ms. l ∷ ms) (positive_lits_plus ls)

positive_lits_are : (m : Bool) (ls : List ℕ) → map positive_lit (map (sign m) ls) ≡ cond m (map neg ls) ls
positive_lits_are true ls = positive_lits_minus ls
positive_lits_are false ls = positive_lits_plus ls

gather_signed_is : (ps : List Weighted) (cols : SignedColumns) → map (map positive_lit) (gather_signed ps cols) ≡ gather ps (map (map positive_lit) cols)
gather_signed_is [] cols = refl
gather_signed_is (p ∷ ps) cols =
    let ss = map (sign p.negative) p.lits in
    gather_signed_is ps (push_scaled_lits 12 p.coef 0 ss cols)
    ∙ ap (gather ps)
    (scattered positive_lit p.coef ss cols ∙ ap (λ ls. push_scaled_some p.coef ls (map (map positive_lit) cols)) (positive_lits_are p.negative p.lits))

-- the same clauses sent, the same returned and the same variables
pub plain_linear_eq_is : (ps : List Weighted) (k : ℤ) (v : ℕ) → Small ps → plain_linear_eq ps k v ≡ linear_eq ps (up k) (down k) v
plain_linear_eq_is ps k v b =
    plain_eq_adder_is (gather_signed ps []) k v
    ∙ ap (λ g. eq_adder g (up k - (down k + weights (gather_signed ps []))) (down k + weights (gather_signed ps []) - up k) v) (gather_signed_is ps [])
    ∙ ap (λ n. eq_adder (gather ps []) (up k - (down k + n)) (down k + n - up k) v) off
  where
    off : weights (gather_signed ps []) ≡ negated_constant ps
    off = omega (arith, gather_signed_weights ps [] b)

pub small : (v : ℕ) (ps : List Weighted) → WeightedBelow v ps → Small ps
small v [] b = tt
small v (p ∷ ps) b = (b.0.1, small v ps b.1)
