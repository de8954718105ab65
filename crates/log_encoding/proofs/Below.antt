-- Which variables the clauses of an inequality speak of.
use Prim.Native.Nat.{◌*◌, ◌-◌, ◌/◌, ◌<◌, suc, zero, ℕ}
use borrow.Author.Tests.{leb-false}
use lib.Dec.{leb}
use lib.ListN.{get_or, length}
use mathlib.Core.Bool.{Bool, cond, false, true}
use mathlib.Core.List.{List, [], ◌++◌, ◌∷◌}
use mathlib.Core.Path.{◌≡◌, refl}
use native.Mathlib.Omega.{arith}
use Rattle.sat.specs.Clause.{Clauses}
use Rattle.sat.specs.Encodes.{ClausesBelow, LitsBelow}
use Rattle.sat.proofs.Extend.{clauses_below_append, lits_below_append}
use Rattle.log_encoding.specs.Enumerate.{bounded, branch, enumerate, final, missed}
use Rattle.log_encoding.specs.Terms.{Term, singles}

abbrev pub Terms : ℕ → List Term → Type 0
Terms v [] = Unit
Terms v (t ∷ ts) = LitsBelow v t.lits × Terms v ts

pub singles_below : (v : ℕ) (own : List ℕ) (ts : List Term) → LitsBelow v own → Terms v ts → Terms v (singles own ++ ts)
singles_below v [] ts b c = c
singles_below v (l ∷ own) ts b c = ((b.0, tt), singles_below v own ts b.1 c)

getD_below : (v : ℕ) (ls : List ℕ) (j : ℕ) → 0 < length ls → LitsBelow v ls → get_or ls j 0 < 2 * v
getD_below v [] j pos b = absurd (omega arith)
getD_below v (l ∷ ls) zero pos b = b.0
getD_below v (l ∷ []) (suc j) pos b = omega arith
getD_below v (l ∷ m ∷ ls) (suc j) pos b = getD_below v (m ∷ ls) j (omega arith) b.1

module _ (v : ℕ) where
  final_below : (w : ℕ) (ls : List ℕ) (s : ℕ) (p : List ℕ) → LitsBelow v ls → LitsBelow v p → ClausesBelow v (final w ls s p)
  final_below w ls s p b q = go (leb (w * length ls) s) refl
    where
      j : ℕ
      j = length ls - s / w - 1

      some_lits : (ls : List ℕ) → s < w * length ls → 0 < length ls
      some_lits [] h = absurd (omega arith)
      some_lits (l ∷ ls) h = omega arith

      go : (t : Bool) → leb (w * length ls) s ≡ t → ClausesBelow v (cond t [] ((p ++ (get_or ls j 0 ∷ [])) ∷ []))
      go true e = tt
      go false e = (lits_below_append v p _ q (getD_below v ls j (some_lits ls (leb-false (w * length ls) s e)) b, tt), tt)

  branch_below : (more : ℕ → List ℕ → Clauses) → ((s : ℕ) (p : List ℕ) → LitsBelow v p → ClausesBelow v (more s p))
      → (w : ℕ) (ls : List ℕ) (s : ℕ) (p : List ℕ) → LitsBelow v ls → LitsBelow v p → ClausesBelow v (branch more w ls s p)
  branch_below more ih w [] s p b q = ih s p q
  branch_below more ih w (l ∷ ls) s p b q =
      clauses_below_append v (missed more c l s p) (branch more w ls s p) (go (leb c s)) (branch_below more ih w ls s p b.1 q)
    where
      c : ℕ
      c = w * suc (length ls)

      longer : LitsBelow v (p ++ (l ∷ []))
      longer = lits_below_append v p (l ∷ []) q (b.0, tt)

      go : (t : Bool) → ClausesBelow v (cond t (more (s - c) (p ++ (l ∷ []))) ((p ++ (l ∷ [])) ∷ []))
      go true = ih (s - c) (p ++ (l ∷ [])) longer
      go false = (longer, tt)

  pub enumerate_below : (ts : List Term) (s : ℕ) (p : List ℕ) → Terms v ts → LitsBelow v p → ClausesBelow v (enumerate ts s p)
  unfolding enumerate
  enumerate_below [] s p b q = tt
  enumerate_below (t ∷ []) s p b q = final_below t.weight t.lits s p b.0 q
  enumerate_below (t ∷ u ∷ ts) s p b q =
      branch_below (enumerate (u ∷ ts)) (λ s' p' q'. enumerate_below (u ∷ ts) s' p' b.1 q') t.weight t.lits s p b.0 q

pub bounded_below : (v : ℕ) (ts : List Term) (a b : ℕ) → Terms v ts → ClausesBelow v (bounded ts a b)
unfolding bounded
bounded_below v ts a b h = go (leb b a)
  where
    go : (t : Bool) → ClausesBelow v (cond t (enumerate ts (a - b) []) ([] ∷ []))
    go true = enumerate_below v ts (a - b) [] h tt
    go false = (tt, tt)
