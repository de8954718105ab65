-- Sums of weighted literals: Ge, Ne and Eq (`linear_ge_encodes`, `linear_ne_encodes`, `linear_eq_encodes`).
use Prim.Native.Nat.{◌*◌, ◌+◌, ◌-◌, ◌/◌, ◌<◌, ◌≤◌, suc, zero, ℕ}
use lib.ListN.{length}
use mathlib.Core.Bool.{Bool, beq, So, cond, false, true}
use mathlib.Core.List.{List, [], ◌++◌, ◌∷◌, map}
use mathlib.Core.Logic.Iff
use mathlib.Core.Path.{◌∙◌, ◌≡◌, ap, refl}
use native.Mathlib.Omega.{arith}
use Rattle.arithmetic.specs.Bits.{shl}
use Rattle.sat.specs.Clause.{Assignment, sat}
use Rattle.sat.specs.Encoded.{EncodedBits, EncodedRule}
use Rattle.sat.specs.Encodes.{Agree, Any, Encodes, LitsBelow}
use Rattle.sat.specs.Lit.{neg}
use Rattle.sat.specs.Number.{code_of}
use Rattle.sat.proofs.Clauses.{sat_both}
use Rattle.sat.proofs.Extend.{agree_sym, compose, freely, lits_below_more, means, then}
use Rattle.sat.proofs.Lits.{negs_below}
use Rattle.sat.proofs.Number.{code_agree, code_neg}
use Rattle.log_encoding.specs.Adder.{AdderColumn, ColumnsBelow, columns_value}
use Rattle.log_encoding.specs.Gather.{Grid, GridBelow, grid_value, push_scaled, with_constant}
use Rattle.log_encoding.proofs.Adder.{adder_bits, adder_encodes, adder_length, adder_value}
use Rattle.log_encoding.proofs.Adder2.{eq_adder_encodes}
use Rattle.log_encoding.proofs.Gather.{push_scaled_below, push_scaled_length, push_scaled_value}
use Rattle.log_encoding.specs.Compare.{ne_bits}
use Rattle.log_encoding.specs.Linear.{Weighted, compare, gather, gather_sign, ge_bits, linear_eq, linear_ge, linear_ne, negated_constant, positive_lits, push_scaled_some, sign_adder, signed_sum}
use Rattle.log_encoding.proofs.Compare.{ge_encodes, ne_encodes}

-- parts over the first v variables, with coefficients below 4,096
abbrev pub WeightedBelow : ℕ → List Weighted → Type 0
WeightedBelow v [] = Unit
WeightedBelow v (p ∷ ps) = (LitsBelow v p.lits × (p.coef < 4096)) × WeightedBelow v ps

weighted_below_more : (v v' : ℕ) (ps : List Weighted) → v ≤ v' → WeightedBelow v ps → WeightedBelow v' ps
weighted_below_more v v' [] h b = tt
weighted_below_more v v' (p ∷ ps) h b = ((lits_below_more v v' p.lits h b.0.0, b.0.1), weighted_below_more v v' ps h b.1)

signed_sum_agree : (s : Bool) (v : ℕ) (α β : Assignment) → Agree v α β → (ps : List Weighted) → WeightedBelow v ps → signed_sum s α ps ≡ signed_sum s β ps
signed_sum_agree s v α β g [] b = refl
signed_sum_agree s v α β g (p ∷ ps) b = rw (code_agree v α β g p.lits b.0.0, signed_sum_agree s v α β g ps b.1)

-- Ne and Ge ----------------------------------------------------------------------------------------------------------

gather_sign_value : (s : Bool) (v : ℕ) (α : Assignment) (ps : List Weighted) (grid : Grid) → WeightedBelow v ps → grid_value α (gather_sign s ps grid) ≡ grid_value α grid + signed_sum s α ps
gather_sign_value s v α [] grid b = omega arith
gather_sign_value s v α (p ∷ ps) grid b = gather_sign_value s v α ps _ b.1 ∙ go (beq s p.negative)
  where
    go : (t : Bool) → grid_value α (cond t (push_scaled 12 p.coef 0 p.lits grid) grid) + signed_sum s α ps
        ≡ grid_value α grid + (cond t (p.coef * code_of α p.lits) 0 + signed_sum s α ps)
    go true = omega (arith, push_scaled_value α 12 p.coef 0 p.lits grid b.0.1)
    go false = omega arith

gather_sign_below : (s : Bool) (v : ℕ) (ps : List Weighted) (grid : Grid) → WeightedBelow v ps → GridBelow v grid → GridBelow v (gather_sign s ps grid)
gather_sign_below s v [] grid b g = g
gather_sign_below s v (p ∷ ps) grid b g = gather_sign_below s v ps _ b.1 (go (beq s p.negative))
  where
    go : (t : Bool) → GridBelow v (cond t (push_scaled 12 p.coef 0 p.lits grid) grid)
    go true = push_scaled_below v 12 p.coef 0 p.lits grid b.0.0 g
    go false = g

with_constant_value : (α : Assignment) (f : ℕ) (grid : Grid) (k : ℕ) → k < shl f 1 → columns_value α (with_constant f grid k) ≡ grid_value α grid + k
with_constant_value α f (c ∷ cols) k h = omega (arith, with_constant_value α f cols (k / 2) (omega arith))
with_constant_value α zero [] k h = omega arith
with_constant_value α (suc f) [] zero h = refl
with_constant_value α (suc f) [] (suc k) h = omega (arith, with_constant_value α f [] (suc k / 2) (omega arith))

with_constant_below : (v f : ℕ) (grid : Grid) (k : ℕ) → GridBelow v grid → ColumnsBelow v (with_constant f grid k)
with_constant_below v f (c ∷ cols) k g = (g.0, with_constant_below v f cols (k / 2) g.1)
with_constant_below v zero [] k g = tt
with_constant_below v (suc f) [] zero g = tt
with_constant_below v (suc f) [] (suc k) g = (tt, with_constant_below v f [] (suc k / 2) tt)

gather_sign_length : (s : Bool) (ps : List Weighted) (grid : Grid) → length grid ≤ length (gather_sign s ps grid)
gather_sign_length s [] grid = omega arith
gather_sign_length s (p ∷ ps) grid = go (beq s p.negative) (gather_sign_length s ps)
  where
    go : (t : Bool) → ((g : Grid) → length g ≤ length (gather_sign s ps g))
        → length grid ≤ length (gather_sign s ps (cond t (push_scaled 12 p.coef 0 p.lits grid) grid))
    go true ih = omega (arith, ih (push_scaled 12 p.coef 0 p.lits grid), push_scaled_length 12 p.coef 0 p.lits grid)
    go false ih = ih grid

with_constant_length : (f : ℕ) (grid : Grid) (k : ℕ) → length grid ≤ length (with_constant f grid k)
with_constant_length f (c ∷ cols) k = omega (arith, with_constant_length f cols (k / 2))
with_constant_length f [] k = omega arith

module _ (s : Bool) (ps : List Weighted) (k v : ℕ) (b : WeightedBelow v ps) (small : k < shl 32 1) where
  abbrev columns : List AdderColumn
  columns = with_constant 32 (gather_sign s ps ([] ∷ [])) k

  columns_below : ColumnsBelow v columns
  columns_below = with_constant_below v 32 (gather_sign s ps ([] ∷ [])) k (gather_sign_below s v ps ([] ∷ []) b (tt, tt))

  sign_adder_value : (α : Assignment) → So (sat α (sign_adder s ps k v).clauses) → code_of α (sign_adder s ps k v).bits ≡ signed_sum s α ps + k
  sign_adder_value α h =
      adder_value columns [] [] v columns_below tt tt α refl h
      ∙ omega (arith, with_constant_value α 32 (gather_sign s ps ([] ∷ [])) k small, gather_sign_value s v α ps ([] ∷ []) b)

  sign_adder_encodes : Encodes v (sign_adder s ps k v).vars Any Any (sign_adder s ps k v).clauses
  sign_adder_encodes = freely (λ α. refl) (adder_encodes columns [] [] v columns_below tt tt (omega arith))

  sign_adder_bits : LitsBelow (sign_adder s ps k v).vars (sign_adder s ps k v).bits
  sign_adder_bits = adder_bits columns [] [] v tt

  sign_adder_some : 0 < length (sign_adder s ps k v).bits
  sign_adder_some = omega (arith, adder_length columns [] [] v, with_constant_length 32 (gather_sign s ps ([] ∷ [])) k, gather_sign_length s ps ([] ∷ []))

-- a test of the two sums' numbers
module _ (test : List ℕ → List ℕ → ℕ → EncodedRule) (R : ℕ → ℕ → Type 0)
    (tests : (p n : List ℕ) (w : ℕ) → LitsBelow w p → LitsBelow w n → 0 < length p → 0 < length n
    → Encodes w (test p n w).vars Any (λ α. R (code_of α p) (code_of α n)) (test p n w).clauses)
    (ps : List Weighted) (a b v : ℕ) (parts : WeightedBelow v ps) (small-a : a < shl 32 1) (small_b : b < shl 32 1) where
  compare_encodes : (let made = compare test (sign_adder false ps a v) (λ w. sign_adder true ps b w) in
      Encodes v made.vars Any (λ α. R (signed_sum false α ps + a) (signed_sum true α ps + b)) made.clauses)
  compare_encodes =
      compose
      (λ α. R (signed_sum false α ps + a) (signed_sum true α ps + b))
      (then (sign_adder_encodes false ps a v parts small-a) second)
      (tests pos.bits negs.bits negs.vars (lits_below_more pos.vars negs.vars pos.bits second.grows (sign_adder_bits false ps a v parts small-a))
      (sign_adder_bits true ps b pos.vars parts' small_b) (sign_adder_some false ps a v parts small-a) (sign_adder_some true ps b pos.vars parts' small_b))
      (λ α β g _. tt)
      (λ α β g r. rw (signed_sum_agree false v β α (agree_sym v α β g) ps parts, signed_sum_agree true v β α (agree_sym v α β g) ps parts) r)
      (λ α _ _. tt)
      (λ α _ h.
      let (p, q) = (sat_both α pos.clauses negs.clauses).0 h in
      (tt, rw (sign_adder_value false ps a v parts small-a α p, sign_adder_value true ps b pos.vars parts' small_b α q) Iff.rfl))
    where
      pos : EncodedBits
      pos = sign_adder false ps a v

      negs : EncodedBits
      negs = sign_adder true ps b pos.vars

      parts' : WeightedBelow pos.vars ps
      parts' = weighted_below_more v pos.vars ps (sign_adder_encodes false ps a v parts small-a).grows parts

      second : Encodes pos.vars negs.vars Any Any negs.clauses
      second = sign_adder_encodes true ps b pos.vars parts' small_b

ge_bits_encodes : (p n : List ℕ) (w : ℕ) → LitsBelow w p → LitsBelow w n → 0 < length p → 0 < length n
    → Encodes w (ge_bits p n w).vars Any (λ α. code_of α n ≤ code_of α p) (ge_bits p n w).clauses
ge_bits_encodes [] n w b c h k = absurd (omega arith)
ge_bits_encodes (x ∷ p) [] w b c h k = absurd (omega arith)
ge_bits_encodes (x ∷ p) (y ∷ n) w b c h k = ge_encodes x p y n w b c

-- positive parts and a, less negative parts and b: at least 0
pub linear_ge_encodes : (ps : List Weighted) (a b v : ℕ) → WeightedBelow v ps → a < shl 32 1 → b < shl 32 1
    → Encodes v (linear_ge ps a b v).vars Any (λ α. signed_sum true α ps + b ≤ signed_sum false α ps + a) (linear_ge ps a b v).clauses
linear_ge_encodes ps a b v = compare_encodes ge_bits (λ x y. y ≤ x) ge_bits_encodes ps a b v

-- not 0
pub linear_ne_encodes : (ps : List Weighted) (a b v : ℕ) → WeightedBelow v ps → a < shl 32 1 → b < shl 32 1
    → Encodes v (linear_ne ps a b v).vars Any (λ α. signed_sum false α ps + a ≡ signed_sum true α ps + b → ⊥) (linear_ne ps a b v).clauses
linear_ne_encodes ps a b v =
    compare_encodes (λ p n w. ne_bits p n [] w) (λ x y. x ≡ y → ⊥) (λ p n w b c h k. ne_encodes p n w b c) ps a b v

pub push_scaled_some_value : (α : Assignment) (k : ℕ) (ls : List ℕ) (grid : Grid) → k < 4096 → grid_value α (push_scaled_some k ls grid) ≡ grid_value α grid + k * code_of α ls
push_scaled_some_value α k [] grid h = omega arith
push_scaled_some_value α k (l ∷ ls) grid h = push_scaled_value α 12 k 0 (l ∷ ls) grid h

push_scaled_some_below : (v k : ℕ) (ls : List ℕ) (grid : Grid) → LitsBelow v ls → GridBelow v grid → GridBelow v (push_scaled_some k ls grid)
push_scaled_some_below v k [] grid b g = g
push_scaled_some_below v k (l ∷ ls) grid b g = push_scaled_below v 12 k 0 (l ∷ ls) grid b g

gather_value : (v : ℕ) (α : Assignment) (ps : List Weighted) (grid : Grid) → WeightedBelow v ps
    → grid_value α (gather ps grid) + signed_sum true α ps ≡ grid_value α grid + signed_sum false α ps + negated_constant ps
gather_value v α [] grid b = omega arith
gather_value v α (p ∷ ps) grid b =
    go p.negative (push_scaled_some p.coef (positive_lits p) grid) (gather_value v α ps (push_scaled_some p.coef (positive_lits p) grid) b.1) (push_scaled_some_value α p.coef (positive_lits p) grid b.0.1)
  where
    k : ℕ
    k = p.coef

    ls : List ℕ
    ls = p.lits

    go : (m : Bool) (g : Grid)
        → grid_value α (gather ps g) + signed_sum true α ps ≡ grid_value α g + signed_sum false α ps + negated_constant ps
        → grid_value α g ≡ grid_value α grid + k * code_of α (cond m (map neg ls) ls)
        → grid_value α (gather ps g) + (cond (beq true m) (k * code_of α ls) 0 + signed_sum true α ps)
        ≡ grid_value α grid + (cond (beq false m) (k * code_of α ls) 0 + signed_sum false α ps) + (cond m (k * (shl (length ls) 1 - 1)) 0 + negated_constant ps)
    go true g e w =
        let off : code_of α (map neg ls) + code_of α ls ≡ shl (length ls) 1 - 1 = omega (arith, code_neg α ls) in
        omega (arith, ap (λ t. k * t) off)
    go false g e w = omega arith

gather_below : (v : ℕ) (ps : List Weighted) (grid : Grid) → WeightedBelow v ps → GridBelow v grid → GridBelow v (gather ps grid)
gather_below v [] grid b g = g
gather_below v (p ∷ ps) grid b g = gather_below v ps _ b.1 (push_scaled_some_below v p.coef (positive_lits p) grid (go p.negative) g)
  where
    go : (m : Bool) → LitsBelow v (cond m (map neg p.lits) p.lits)
    go true = negs_below v p.lits b.0.0
    go false = b.0.0

-- positive parts and a, less negative parts and b: 0
pub linear_eq_encodes : (ps : List Weighted) (a b v : ℕ) → WeightedBelow v ps
    → Encodes v (linear_eq ps a b v).vars Any (λ α. signed_sum false α ps + a ≡ signed_sum true α ps + b) ((linear_eq ps a b v).sent ++ (linear_eq ps a b v).returned)
linear_eq_encodes ps a b v parts =
    means
    (λ α. omega (arith, gather_value v α ps [] parts))
    (eq_adder_encodes (gather ps []) (a - (b + negated_constant ps)) (b + negated_constant ps - a) v (omega arith) (gather_below v ps [] parts tt))
