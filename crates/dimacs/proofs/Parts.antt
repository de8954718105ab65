-- Clause k as a part within the store (`clause_cut`), and the clauses that a loop still has before it.
use Prim.Native.Nat.{◌+◌, ◌-◌, ◌<◌, ◌≤◌, suc, ℕ}
use lib.ListN.{drop, get_or, length, length-drop}
use lib.Seq.{take_all}
use mathlib.Core.List.{List, [], ◌∷◌}
use mathlib.Core.Logic.{⊎_elim}
use mathlib.Core.Path.{◌∙◌, ◌≡◌, sym}
use native.Mathlib.Numerals.{add-one}
use native.Mathlib.Omega.{arith}
use Rattle.clause_set.specs.Stores.{Within, clause_at, clauses_from, part}

-- a part whose end does not pass its begin is empty
part_none : (l : List ℕ) (b e : ℕ) → e ≤ b → part b e l ≡ []
part_none l b e h = let z : e - b ≡ 0 = omega arith in rw z

-- a part that passes the store ends with it
part_cut : (l : List ℕ) (b e : ℕ) → length l ≤ e → part b (length l) l ≡ part b e l
part_cut l b e h =
    let g : length (drop b l) ≤ length l - b = rw length-drop (omega arith) in
    let k : length (drop b l) ≤ e - b = rw length-drop (omega arith) in
    take_all (length l - b) (drop b l) g ∙ sym (take_all (e - b) (drop b l) k)

-- an end past the store moved back to the store's end; a begin past the end moved back to the end
end_within : (l : List ℕ) (b e to : ℕ) → Within e (length l) to → part b to l ≡ part b e l
end_within l b e to w =
    ⊎_elim
    (λ (p : (e ≤ length l) × (to ≡ e)). rw p.1)
    (λ (p : (length l < e) × (to ≡ length l)). let h : length l ≤ e = omega arith in rw p.1 (part_cut l b e h))
    w.place

begin_within : (l : List ℕ) (b to from : ℕ) → Within b to from → part from to l ≡ part b to l
begin_within l b to from w =
    ⊎_elim
    (λ (p : (b ≤ to) × (from ≡ b)). rw p.1)
    (λ (p : (to < b) × (from ≡ to)).
    let h : to ≤ from = omega arith in
    let g : to ≤ b = omega arith in
    part_none l from to h ∙ sym (part_none l b to g))
    w.place

-- clause k, by the ends that the code read
pub clause_cut : (lits ends : List ℕ) (k : ℕ) {begin end from to : ℕ} {r : List ℕ} → begin ≡ get_or ends k 0 → end ≡ get_or ends (k + 1) 0
    → Within end (length lits) to → Within begin to from → r ≡ part from to lits → r ≡ clause_at lits ends k
clause_cut lits ends k {begin} {end} {from} {to} x y p q e = e ∙ begin_within lits begin to from q ∙ end_within lits begin end to p ∙ rw (x, y)

module _ (lits ends : List ℕ) (k n : ℕ) where
  pub from_some : k < n → clauses_from lits ends k (n - k) ≡ clause_at lits ends k ∷ clauses_from lits ends (k + 1) (n - (k + 1))
  from_some h = let e : n - k ≡ suc (n - (k + 1)) = omega arith in rw (e, add-one)

  pub from_none : n ≤ k → clauses_from lits ends k (n - k) ≡ []
  from_none h = let e : n - k ≡ 0 = omega arith in rw e
