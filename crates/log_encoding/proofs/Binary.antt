-- The clauses of two values hold exactly where the literals spell t's code and c holds, or f's and it does not. New variables are
-- tied, and settled by the code.
use Prim.Native.Nat.{◌*◌, ◌+◌, ◌/◌, ◌<◌, ◌≤◌, suc, zero, ℕ}
use mathlib.Core.Bool.{Bool, beq, So, ◌&&◌, ◌||◌, and-eq-true_iff, cond, false, not, true}
use mathlib.Core.List.{[], ◌∷◌}
use mathlib.Core.Logic.{◌↔◌, by_cases}
use native.Mathlib.Decide.{dec_lt}
use mathlib.Core.Path.{◌∙◌, ◌≡◌, ap, refl, sym}
use native.Mathlib.Omega.{arith}
use Rattle.arithmetic.specs.Bits.{odd, shl}
use Rattle.arithmetic.proofs.Bits.{low_bit}
use Rattle.arithmetic.proofs.Tests.{never}
use Rattle.sat.specs.Clause.{Assignment, bit, holds, sat}
use Rattle.sat.specs.Encoded.{EncodedBits}
use Rattle.sat.specs.Encodes.{Agree, Any, Encodes, LitsBelow}
use Rattle.sat.specs.Lit.{neg}
use Rattle.sat.specs.Number.{code_of}
use Rattle.sat.proofs.Extend.{nothing, then}
use Rattle.sat.proofs.Gate.{gate}
use Rattle.sat.proofs.Lits.{bit_holds, bit_le, holds_neg, holds_plain, neg_below}
use Rattle.log_encoding.specs.Binary.{binary_bit, binary_bits, fixed}

-- one-literal clauses
unit_on : (α : Assignment) (l : ℕ) → So (holds α l || false) ↔ (bit α l ≡ 1)
unit_on α l = go (holds α l)
  where
    go : (t : Bool) → So (t || false) ↔ (◌≡◌ {A = ℕ} (cond t 1 0) 1)
    go true = (λ h. refl, λ h. refl)
    go false = (λ h. never h, λ h. absurd (omega arith))

unit_off : (α : Assignment) (l : ℕ) → So (holds α (neg l) || false) ↔ (bit α l ≡ 0)
unit_off α l = rw holds_neg (go (holds α l))
  where
    go : (t : Bool) → So (not t || false) ↔ (◌≡◌ {A = ℕ} (cond t 1 0) 0)
    go true = (λ h. never h, λ h. absurd (omega arith))
    go false = (λ h. refl, λ h. refl)

bit_not : (α : Assignment) (l : ℕ) → bit α (neg l) ≡ cond (holds α l) 0 1
bit_not α l = rw holds_neg (go (holds α l))
  where
    go : (t : Bool) → ◌≡◌ {A = ℕ} (cond (not t) 1 0) (cond t 0 1)
    go true = refl
    go false = refl

either : (t : Bool) (n : ℕ) → n ≡ cond t n n
either true n = refl
either false n = refl

pub binary_sat : (n f t c v : ℕ) (α : Assignment) → f < shl n 1 → t < shl n 1
    → So (sat α (binary_bits n f t c v).clauses) ↔ (code_of α (binary_bits n f t c v).bits ≡ cond (holds α c) t f)
binary_sat zero f t c v α p q = (λ h. go (holds α c), λ h. refl)
  where
    go : (s : Bool) → 0 ≡ cond s t f
    go true = omega arith
    go false = omega arith
binary_sat (suc n) f t c v α p q =
    go (odd f) (odd t) refl refl (λ w. binary_sat n (f / 2) (t / 2) c w α (omega arith) (omega arith))
  where
    more : ℕ → EncodedBits
    more w = binary_bits n (f / 2) (t / 2) c w

    -- the lowest bit y, and the rest x
    halves : (s a b : Bool) (y x : ℕ) → odd f ≡ a → odd t ≡ b → y ≤ 1
        → ((y ≡ cond s (cond b 1 0) (cond a 1 0)) × (x ≡ cond s (t / 2) (f / 2))) ↔ (y + 2 * x ≡ cond s t f)
    halves true a b y x p q d = omega (arith, low_bit t, ap {B = ℕ} (λ t. cond t 1 0) q)
    halves false a b y x p q d = omega (arith, low_bit f, ap {B = ℕ} (λ t. cond t 1 0) p)

    -- a bit that is right as it stands
    as_is : (s a b : Bool) (y w : ℕ) → odd f ≡ a → odd t ≡ b → y ≤ 1 → y ≡ cond s (cond b 1 0) (cond a 1 0)
        → So (sat α (more w).clauses) ↔ (code_of α (more w).bits ≡ cond s (t / 2) (f / 2))
        → So (sat α (more w).clauses) ↔ (y + 2 * code_of α (more w).bits ≡ cond s t f)
    as_is s a b y w p q d e ih = let h = halves s a b y (code_of α (more w).bits) p q d in (
      λ k. h.0 (e, ih.0 k),
      λ k. ih.1 (h.1 k).1,
    )

    -- a bit that a clause fixes
    unit : (s a : Bool) (l w : ℕ) → odd f ≡ a → odd t ≡ a → So (holds α l || false) ↔ (bit α (2 * v) ≡ cond a 1 0)
        → So (sat α (more w).clauses) ↔ (code_of α (more w).bits ≡ cond s (t / 2) (f / 2))
        → So (sat α ((l ∷ []) ∷ (more w).clauses)) ↔ (bit α (2 * v) + 2 * code_of α (more w).bits ≡ cond s t f)
    unit s a l w p q e ih =
        let h = halves s a a (bit α (2 * v)) (code_of α (more w).bits) p q (bit_le α (2 * v)) in
        let both = and-eq-true_iff (holds α l || false) (sat α (more w).clauses) in (
          λ k. let (x, y) = both.0 k in h.0 (e.0 x ∙ either s (cond a 1 0), ih.0 y),
          λ k. let (x, y) = h.1 k in both.1 (e.1 (x ∙ sym (either s (cond a 1 0))), ih.1 y),
        )

    go : (a b : Bool) → odd f ≡ a → odd t ≡ b
        → ((w : ℕ) → So (sat α (more w).clauses) ↔ (code_of α (more w).bits ≡ cond (holds α c) (t / 2) (f / 2)))
        → So (sat α (binary_bit a b c v more).clauses) ↔ (code_of α (binary_bit a b c v more).bits ≡ cond (holds α c) t f)
    go false false p q ih = unit (holds α c) false (neg (2 * v)) (suc v) p q (unit_off α (2 * v)) (ih (suc v))
    go false true p q ih = as_is (holds α c) false true (bit α c) v p q (bit_le α c) refl (ih v)
    go true false p q ih = as_is (holds α c) true false (bit α (neg c)) v p q (bit_le α (neg c)) (bit_not α c) (ih v)
    go true true p q ih = unit (holds α c) true (2 * v) (suc v) p q (unit_on α (2 * v)) (ih (suc v))

pub binary_encodes : (n f t c v : ℕ) → c < 2 * v → Encodes v (binary_bits n f t c v).vars Any Any (binary_bits n f t c v).clauses
binary_encodes zero f t c v b = nothing v Any
binary_encodes (suc n) f t c v b = go (odd f) (odd t) (λ w h. binary_encodes n (f / 2) (t / 2) c w h)
  where
    more : ℕ → EncodedBits
    more w = binary_bits n (f / 2) (t / 2) c w

    unit : (l : ℕ) → l < 2 * suc v → (s : Bool) → ((α : Assignment) → sat α ((l ∷ []) ∷ []) ≡ beq (α v) s)
        → Encodes (suc v) (more (suc v)).vars Any Any (more (suc v)).clauses → Encodes v (more (suc v)).vars Any Any ((l ∷ []) ∷ (more (suc v)).clauses)
    unit l low s is rest = then (gate v ((l ∷ []) ∷ []) (λ α. s) is Any ((low, tt), tt) (λ α β g. refl)) rest

    go : (a d : Bool) → ((w : ℕ) → c < 2 * w → Encodes w (more w).vars Any Any (more w).clauses)
        → Encodes v (binary_bit a d c v more).vars Any Any (binary_bit a d c v more).clauses
    go false false ih = unit (neg (2 * v)) (neg_below (suc v) (2 * v) (omega arith)) false (λ α. simp (holds_neg, holds_plain) (off (α v))) (ih (suc v) (omega arith))
      where
        off : (t : Bool) → ((not t || false) && true) ≡ beq t false
        off true = refl
        off false = refl
    go false true ih = ih v b
    go true false ih = ih v b
    go true true ih = unit (2 * v) (omega arith) true (λ α. simp holds_plain (on (α v))) (ih (suc v) (omega arith))
      where
        on : (t : Bool) → ((t || false) && true) ≡ beq t true
        on true = refl
        on false = refl

binary_grows : (n f t c v : ℕ) → v ≤ (binary_bits n f t c v).vars
binary_grows zero f t c v = omega arith
binary_grows (suc n) f t c v = go (odd f) (odd t) (binary_grows n (f / 2) (t / 2) c)
  where
    more : ℕ → EncodedBits
    more w = binary_bits n (f / 2) (t / 2) c w

    go : (a b : Bool) → ((w : ℕ) → w ≤ (more w).vars) → v ≤ (binary_bit a b c v more).vars
    go false false ih = omega (arith, ih (suc v))
    go false true ih = ih v
    go true false ih = ih v
    go true true ih = omega (arith, ih (suc v))

pub binary_below : (n f t c v : ℕ) → c < 2 * v → LitsBelow (binary_bits n f t c v).vars (binary_bits n f t c v).bits
binary_below zero f t c v b = tt
binary_below (suc n) f t c v b = go (odd f) (odd t) (λ w h. binary_below n (f / 2) (t / 2) c w h)
  where
    more : ℕ → EncodedBits
    more w = binary_bits n (f / 2) (t / 2) c w

    room : (w : ℕ) → w ≤ (more w).vars
    room w = binary_grows n (f / 2) (t / 2) c w

    go : (a d : Bool) → ((w : ℕ) → c < 2 * w → LitsBelow (more w).vars (more w).bits) → LitsBelow (binary_bit a d c v more).vars (binary_bit a d c v more).bits
    go false false ih = (omega (arith, room (suc v)), ih (suc v) (omega arith))
    go false true ih = (omega (arith, room v), ih v b)
    go true false ih = (neg_below (more v).vars c (omega (arith, room v)), ih v b)
    go true true ih = (omega (arith, room (suc v)), ih (suc v) (omega arith))

-- assignments that agree before it and spell the same code agree on the new variables too
pub binary_unique : (n f t c v : ℕ) (α β : Assignment) → Agree v α β
    → code_of α (binary_bits n f t c v).bits ≡ code_of β (binary_bits n f t c v).bits → Agree (binary_bits n f t c v).vars α β
binary_unique zero f t c v α β g e = g
binary_unique (suc n) f t c v α β g e = go (odd f) (odd t) e (λ w. binary_unique n (f / 2) (t / 2) c w α β)
  where
    more : ℕ → EncodedBits
    more w = binary_bits n (f / 2) (t / 2) c w

    rest : (l w : ℕ) → bit α l + 2 * code_of α (more w).bits ≡ bit β l + 2 * code_of β (more w).bits
        → code_of α (more w).bits ≡ code_of β (more w).bits
    rest l w e = omega (arith, bit_le α l, bit_le β l)

    -- the new variable of a bit that a clause fixes
    next : bit α (2 * v) ≡ bit β (2 * v) → Agree (suc v) α β
    next b y h =
        by_cases (dec_lt y v) (g y)
        (λ high.
        let at : y ≡ v = omega arith in
        rw at (sym (holds_plain α v) ∙ bit_holds α β (2 * v) b ∙ holds_plain β v))

    Here : EncodedBits → Type 0
    Here out = code_of α out.bits ≡ code_of β out.bits → Agree out.vars α β

    fixed_here : (l : ℕ) → (Agree (suc v) α β → Here (more (suc v))) → Here (fixed l v more)
    fixed_here l ih e = ih (next (omega (arith, bit_le α (2 * v), bit_le β (2 * v)))) (rest (2 * v) (suc v) e)

    go : (a b : Bool) → code_of α (binary_bit a b c v more).bits ≡ code_of β (binary_bit a b c v more).bits
        → ((w : ℕ) → Agree w α β → Here (more w)) → Agree (binary_bit a b c v more).vars α β
    go false false e ih = fixed_here (neg (2 * v)) (ih (suc v)) e
    go false true e ih = ih v g (rest c v e)
    go true false e ih = ih v g (rest (neg c) v e)
    go true true e ih = fixed_here (2 * v) (ih (suc v)) e
