-- The literals of a record as a loop places them, and the bits of two values one after the other.
use Prim.Native.Nat.{◌%◌, ◌*◌, ◌+◌, ◌-◌, ◌/◌, ◌<◌, ◌≤◌, suc, zero, ℕ}
use borrow.Author.Tests.{eq-eqb, eqb-false, eqb-true, ne_eqb}
use lib.Dec.{eqb}
use lib.ListN.{drop, length, length-map, length-replicate, replicate, set}
use lib.Seq.{sets, sets-eq}
use mathlib.Core.Bool.{Bool, false, true}
use mathlib.Core.List.{List, [], ◌++◌, ◌∷◌, map}
use mathlib.Core.Path.{◌∙◌, ◌≡◌, ap, ap₂, refl, sym}
use native.Mathlib.Omega.{arith}
use Rattle.arithmetic.specs.Bits.{odd}
use Rattle.sat.specs.declared.Lit.{Lit}
use Rattle.sat.specs.Encoded.{EncodedBits}
use Rattle.sat.specs.Lit.{as_lit, neg}
use Rattle.sat.specs.LitArray.{lit}
use Rattle.clause_set.specs.declared.ClauseSet.{ClauseSet}
use Rattle.clause_set.specs.Stores.{Added, Fits, Wrote}
use Rattle.clause_set.proofs.Writing.{Left, left_as, left_end, left_fits, left_start, left_turn, wrote_as, wrote_then}
use Rattle.log_encoding.specs.Binary.{binary_bit, binary_bits}
use Rattle.log_var.specs.Parts.{BitAdded, BitsAdded}
use Rattle.log_var.specs.Record.{pad}

drop_replicate : {A : Type 0} (n m : ℕ) (x : A) → drop m (replicate n x) ≡ replicate (n - m) x
drop_replicate n zero x = let e : n ≡ n - 0 = omega arith in ap (λ k. replicate k x) e
drop_replicate zero (suc m) x = let e : 0 ≡ 0 - suc m = omega arith in ap (λ k. replicate k x) e
drop_replicate (suc n) (suc m) x = let e : n - m ≡ suc n - suc m = omega arith in drop_replicate n m x ∙ ap (λ k. replicate k x) e

-- all literals placed
pub placed_all : (ls : List ℕ) → length ls ≤ 12 → sets (replicate 12 (lit 0)) 0 (map lit ls) ≡ pad ls
unfolding pad
placed_all ls h =
    let e : 0 + length (map lit ls) ≡ length ls = omega (arith, length-map ls lit) in
    let r : length (replicate 12 (lit 0)) ≡ 12 = length-replicate 12 (lit 0) in
    sets-eq (map lit ls) (replicate 12 (lit 0)) 0 (omega arith)
    ∙ ap (λ m. map lit ls ++ drop m (replicate 12 (lit 0))) e
    ∙ ap (λ xs. map lit ls ++ xs) (drop_replicate 12 (length ls) (lit 0))

-- one more literal placed
pub placed_turn : (out : List Lit) (i : ℕ) (l : Lit) (x : ℕ) (rest : List ℕ) → l.0 ≡ x
    → sets out i (map lit (x ∷ rest)) ≡ sets (set out i l) (i + 1) (map lit rest)
placed_turn out i l x rest e =
    let j : suc i ≡ i + 1 = omega arith in
    ap₂ (λ y k. sets (set out i y) k (map lit rest)) (ap lit (sym e)) j

-- One bit of two values ----------------------------------------------------------------------------------------------

neg_plain : (v : ℕ) → neg (2 * v) ≡ 2 * v + 1
unfolding neg
neg_plain v = rw (eq-eqb (2 * v % 2) 0 (omega arith))

abbrev no_more : ℕ → EncodedBits
no_more w = record { clauses = []; bits = []; vars = w }

-- by whether f and t are equal in it, and t's
module _ (f t c v : ℕ) where
  pub bit_same : f % 2 ≡ t % 2
      → binary_bits 1 f t c v ≡ record { clauses = (as_lit v (eqb (t % 2) 0) ∷ []) ∷ []; bits = 2 * v ∷ []; vars = suc v }
  bit_same equal = go (odd f) (odd t) refl refl
    where
      go : (a b : Bool) → odd f ≡ a → odd t ≡ b
          → binary_bit a b c v no_more ≡ record { clauses = (as_lit v (eqb (t % 2) 0) ∷ []) ∷ []; bits = 2 * v ∷ []; vars = suc v }
      go true true p q = rw (ne_eqb (t % 2) 0 (omega (arith, eqb-true (t % 2) 1 q)))
      go true false p q = let h : ¬ (t % 2 ≡ 1) = eqb-false (t % 2) 1 q in absurd (omega (arith, equal, eqb-true (f % 2) 1 p))
      go false true p q = let h : ¬ (f % 2 ≡ 1) = eqb-false (f % 2) 1 p in absurd (omega (arith, equal, eqb-true (t % 2) 1 q))
      go false false p q =
          let h : ¬ (t % 2 ≡ 1) = eqb-false (t % 2) 1 q in
          rw (eq-eqb (t % 2) 0 (omega arith), neg_plain v)

pub bit_vars_le : (f t c v : ℕ) → (binary_bits 1 f t c v).vars ≤ suc v
bit_vars_le f t c v = go (odd f) (odd t)
  where
    go : (a b : Bool) → (binary_bit a b c v no_more).vars ≤ suc v
    go true true = omega arith
    go true false = omega arith
    go false true = omega arith
    go false false = omega arith

-- a new variable, and its clause
pub fixed_added : (f t c : ℕ) {s u w : ClauseSet} {l : ℕ} {r : Lit} → f % 2 ≡ t % 2 → l ≡ as_lit s.vars (eqb (t % 2) 0)
    → Added s ((l ∷ []) ∷ []) u → Wrote u (u.vars + 1) [] w → r.0 ≡ 2 * u.vars → BitAdded f t c s r w
fixed_added f t c {s} {u} e same a new is =
    let bit = bit_same f t c s.vars e in
    record {
      wrote = wrote_as (wrote_then a new) ((let j : u.vars + 1 ≡ suc s.vars = omega (arith, a.vars_are) in j) ∙ ap (λ (b : EncodedBits). b.vars) (sym bit))
          (ap (λ x. (x ∷ []) ∷ []) same ∙ ap (λ (b : EncodedBits). b.clauses) (sym bit));
      lits_are = ap (λ x. x ∷ []) (is ∙ ap (λ x. 2 * x) a.vars_are) ∙ ap (λ (b : EncodedBits). b.bits) (sym bit);
    }

-- The bits one after the other ---------------------------------------------------------------------------------------

-- what m bits after the bit `one` make of them all
abbrev pub after_bit : EncodedBits → (ℕ → EncodedBits) → EncodedBits
after_bit one more =
    record { clauses = one.clauses ++ (more one.vars).clauses; bits = one.bits ++ (more one.vars).bits; vars = (more one.vars).vars }

bits_cons : (m f t c v : ℕ) → binary_bits (suc m) f t c v ≡ after_bit (binary_bits 1 f t c v) (binary_bits m (f / 2) (t / 2) c)
bits_cons m f t c v = go (odd f) (odd t)
  where
    more : ℕ → EncodedBits
    more = binary_bits m (f / 2) (t / 2) c

    go : (a b : Bool) → binary_bit a b c v more ≡ after_bit (binary_bit a b c v (λ w. record { clauses = []; bits = []; vars = w })) more
    go true true = refl
    go true false = refl
    go false true = refl
    go false false = refl

pub bits_step : (n i f t c v : ℕ) → i < n
    → binary_bits (n - i) f t c v ≡ after_bit (binary_bits 1 f t c v) (binary_bits (n - (i + 1)) (f / 2) (t / 2) c)
bits_step n i f t c v h =
    let e : n - i ≡ suc (n - (i + 1)) = omega arith in ap (λ m. binary_bits m f t c v) e ∙ bits_cons (n - (i + 1)) f t c v

pub bits_long : (n f t c v : ℕ) → length (binary_bits n f t c v).bits ≡ n
bits_long zero f t c v = refl
bits_long (suc n) f t c v = go (odd f) (odd t) (bits_long n (f / 2) (t / 2) c)
  where
    more : ℕ → EncodedBits
    more = binary_bits n (f / 2) (t / 2) c

    go : (a b : Bool) → ((w : ℕ) → length (more w).bits ≡ n) → length (binary_bit a b c v more).bits ≡ suc n
    go true true ih = ap suc (ih (suc v))
    go true false ih = ap suc (ih v)
    go false true ih = ap suc (ih v)
    go false false ih = ap suc (ih (suc v))

-- What is left of n bits of codes f and t: those from i on, of codes x and y, in new variables behind the set u's.
pub record BitsLeft (n f t c : ℕ) (s : ClauseSet) (out₀ : List Lit) (u : ClauseSet) (out : List Lit) (i x y : ℕ) : Type 0 where
  pub left : Left s (binary_bits n f t c s.vars).clauses u (binary_bits (n - i) x y c u.vars).clauses
  pub placed : sets out₀ 0 (map lit (binary_bits n f t c s.vars).bits) ≡ sets out i (map lit (binary_bits (n - i) x y c u.vars).bits)
  pub same_vars : (binary_bits n f t c s.vars).vars ≡ (binary_bits (n - i) x y c u.vars).vars
  pub room : u.vars + (n - i) ≤ s.vars + n

pub bits_start : (n f t c : ℕ) {s : ClauseSet} {out : List Lit} → Fits s.base s.used (binary_bits n f t c s.vars).clauses → BitsLeft n f t c s out s out 0 f t
bits_start n f t c {s} {out} fits =
    let m : n ≡ n - 0 = omega arith in
    record {
      left = left_as (left_start s _ fits) (ap (λ k. (binary_bits k f t c s.vars).clauses) m);
      placed = ap (λ k. sets out 0 (map lit (binary_bits k f t c s.vars).bits)) m;
      same_vars = ap (λ k. (binary_bits k f t c s.vars).vars) m;
      room = omega arith;
    }

module _ {n f t c : ℕ} {s : ClauseSet} {out₀ : List Lit} {u : ClauseSet} {out : List Lit} {i x y : ℕ} (g : BitsLeft n f t c s out₀ u out i x y) where
  pub bits_fit : i < n → Fits u.base u.used (binary_bits 1 x y c u.vars).clauses
  bits_fit h = left_fits _ _ (left_as g.left (ap (λ (b : EncodedBits). b.clauses) (bits_step n i x y c u.vars h)))

  pub bits_end : n ≤ i → n ≤ 12 → out₀ ≡ replicate 12 (lit 0) → BitsAdded n f t c s out u
  bits_end h k o =
      let m : n - i ≡ 0 = omega arith in
      record {
        wrote = wrote_as (left_end (left_as g.left (ap (λ j. (binary_bits j x y c u.vars).clauses) m)))
            (sym (g.same_vars ∙ ap (λ j. (binary_bits j x y c u.vars).vars) m)) refl;
        lits_are = sym (g.placed ∙ ap (λ j. sets out i (map lit (binary_bits j x y c u.vars).bits)) m)
            ∙ ap (λ z. sets z 0 (map lit (binary_bits n f t c s.vars).bits)) o
            ∙ placed_all (binary_bits n f t c s.vars).bits (omega (arith, bits_long n f t c s.vars));
      }

  pub bits_turn : {w : ClauseSet} {r : Lit} → i < n → BitAdded x y c u r w → BitsLeft n f t c s out₀ w (set out i r) (i + 1) (x / 2) (y / 2)
  bits_turn {w} {r} h b =
      let one = binary_bits 1 x y c u.vars in
      let more = binary_bits (n - (i + 1)) (x / 2) (y / 2) c in
      let step = bits_step n i x y c u.vars h in
      let next : one.vars ≡ w.vars = sym b.wrote.vars_are in
      record {
        left = left_turn one.clauses (more w.vars).clauses
            (left_as g.left (ap (λ (z : EncodedBits). z.clauses) step ∙ ap (λ k. one.clauses ++ (more k).clauses) next)) b.wrote;
        placed = g.placed
            ∙ ap (λ ls. sets out i (map lit ls)) (ap (λ (z : EncodedBits). z.bits) step ∙ ap (λ k. one.bits ++ (more k).bits) next ∙ ap (λ ls. ls ++ (more w.vars).bits) (sym b.lits_are))
            ∙ placed_turn out i r r.0 (more w.vars).bits refl;
        same_vars = g.same_vars ∙ ap (λ (z : EncodedBits). z.vars) step ∙ ap (λ k. (more k).vars) next;
        room = omega (arith, g.room, bit_vars_le x y c u.vars, next);
      }
