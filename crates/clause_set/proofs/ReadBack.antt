-- Clauses that were added are read back (`added_back`), behind those that were there, which are unchanged (`read_back`).
use Prim.Native.Nat.{◌+◌, ◌-◌, ◌<◌, ◌≤◌, suc, zero, ℕ}
use lib.Dec.{eqb}
use lib.ListN.{drop, get_or, length, length-set, set, take}
use lib.Seq.{drop_at, drop-set-add, get_or-set_other, get_or-set_same, length-sets, length-take-le, sets, sets-eq, take_at, take-set-le}
use mathlib.Core.Bool.{Bool, false, true}
use mathlib.Core.List.{List, [], ◌++◌, ◌∷◌, append_assoc}
use mathlib.Core.Path.{◌∙◌, ◌≡◌, ap, ap₂, refl, sym}
use native.Mathlib.Nat.{zero-add}
use native.Mathlib.Numerals.{add-one}
use native.Mathlib.Omega.{arith}
use borrow.Author.Tests.{eqb-false, eqb-true}
use Rattle.sat.specs.Size.{entries}
use Rattle.sat.specs.Clause.{Clauses}
use Rattle.clause_set.specs.Stores.{Sound, Stores, add_clause, add_clauses, clause_at, clauses_after, clauses_from, clauses_of, part}
use Rattle.clause_set.proofs.Adding.{count_after}

-- a store at or past the end of a part leaves the part
part_set : (f t i a : ℕ) (l : List ℕ) → f ≤ i → t ≤ i → part f t (set l i a) ≡ part f t l
part_set f t i a l p q =
    let e : i ≡ f + (i - f) = omega arith in
    let d : drop f (set l i a) ≡ set (drop f l) (i - f) a = ap (λ (n : ℕ). drop f (set l n a)) e ∙ drop-set-add f l (i - f) a in
    ap (take (t - f)) d ∙ take-set-le (t - f) (drop f l) (i - f) a (omega arith)

part_sets : (c l : List ℕ) (f t i : ℕ) → f ≤ i → t ≤ i → part f t (sets l i c) ≡ part f t l
part_sets [] l f t i p q = refl
part_sets (a ∷ c) l f t i p q = part_sets c (set l i a) f t (suc i) (omega arith) (omega arith) ∙ part_set f t i a l p q

-- the part just written
part_new : (c l : List ℕ) (i : ℕ) → i + length c ≤ length l → part i (i + length c) (sets l i c) ≡ c
part_new c l i h =
    let e : i + length c - i ≡ length c = omega arith in
    let d : drop i (take i l ++ c ++ drop (i + length c) l) ≡ c ++ drop (i + length c) l =
    ap (drop i) (append_assoc (take i l) c (drop (i + length c) l)) ∙ drop_at (take i l) (c ++ drop (i + length c) l) i (length-take-le i l (omega arith)) in
    rw (sets-eq c l i h, e, d) (take_at c (drop (i + length c) l) (length c) refl)

-- What was there ------------------------------------------------------------------------------------------------------

module _ (s : Stores) (c : List ℕ) where
  old_end : (k : ℕ) → k ≤ s.count → get_or (add_clause 0 c s).ends k 0 ≡ get_or s.ends k 0
  unfolding add_clause
  old_end k h = get_or-set_other s.ends (s.count + 1) k (0 + (s.used + length c)) 0 (λ e. omega arith)

  new_end : s.count + 1 < length s.ends → get_or (add_clause 0 c s).ends (s.count + 1) 0 ≡ s.used + length c
  unfolding add_clause
  new_end q = get_or-set_same s.ends (s.count + 1) (0 + (s.used + length c)) 0 q ∙ omega arith

pub kept_end : (cs : Clauses) (s : Stores) (k : ℕ) → k ≤ s.count → get_or (add_clauses 0 cs s).ends k 0 ≡ get_or s.ends k 0
unfolding add_clause
kept_end [] s k h = refl
kept_end (c ∷ cs) s k h = kept_end cs (add_clause 0 c s) k (omega arith) ∙ old_end s c k h

kept_part : (cs : Clauses) (s : Stores) (f t : ℕ) → f ≤ s.used → t ≤ s.used → part f t (add_clauses 0 cs s).lits ≡ part f t s.lits
unfolding add_clause
kept_part [] s f t p q = refl
kept_part (c ∷ cs) s f t p q = kept_part cs (add_clause 0 c s) f t (omega arith) (omega arith) ∙ part_sets c s.lits f t s.used p q

pub kept_long : (cs : Clauses) (s : Stores) → (length (add_clauses 0 cs s).lits ≡ length s.lits) × (length (add_clauses 0 cs s).ends ≡ length s.ends)
unfolding add_clause
kept_long [] s = (refl, refl)
kept_long (c ∷ cs) s =
    let r = kept_long cs (add_clause 0 c s) in
    (r.0 ∙ length-sets s.lits s.used c, r.1 ∙ length-set s.ends (s.count + 1) (0 + (s.used + length c)))

-- What was added ------------------------------------------------------------------------------------------------------

-- from the literal count on, whatever the stores held
pub added_back : (cs : Clauses) (s : Stores) → s.used + entries cs ≤ length s.lits → s.count + length cs < length s.ends
    → clauses_after (add_clauses 0 cs s).lits (add_clauses 0 cs s).ends s.used s.count (length cs) ≡ cs
unfolding add_clause
added_back [] s p q = refl
added_back (c ∷ cs) s p q =
    let s₁ = add_clause 0 c s in
    let t = add_clauses 0 cs s₁ in
    let x = length-sets s.lits s.used c in
    let y = length-set s.ends (s.count + 1) (0 + (s.used + length c)) in
    let end : get_or t.ends (s.count + 1) 0 ≡ s.used + length c = kept_end cs s₁ (s.count + 1) (omega arith) ∙ new_end s c (omega arith) in
    let first : part s.used (s.used + length c) t.lits ≡ c =
    kept_part cs s₁ s.used (s.used + length c) (omega arith) (omega arith) ∙ part_new c s.lits s.used (omega arith) in
    let rest = added_back cs s₁ (omega arith) (omega arith) in
    rw (end, first) (ap (λ (ds : Clauses). c ∷ ds) (ap (λ (k : ℕ). clauses_after t.lits t.ends (s.used + length c) k (length cs)) (sym (add-one s.count)) ∙ rest))

-- All clauses ---------------------------------------------------------------------------------------------------------

pub from_after : (n k : ℕ) (l e : List ℕ) → clauses_from l e k n ≡ clauses_after l e (get_or e k 0) k n
from_after zero k l e = refl
from_after (suc n) k l e = rw (from_after n (suc k) l e, add-one)

from_split : (n m k : ℕ) (l e : List ℕ) → clauses_from l e k (n + m) ≡ clauses_from l e k n ++ clauses_from l e (k + n) m
from_split zero m k l e = let i : k + 0 ≡ k = omega arith in rw (i, zero-add)
from_split (suc n) m k l e =
    let i : suc k + n ≡ k + suc n = omega arith in
    let j : suc n + m ≡ suc (n + m) = omega arith in
    rw j (ap (λ (cs : Clauses). clause_at l e k ∷ cs) (from_split n m (suc k) l e ∙ ap (λ (x : ℕ). clauses_from l e (suc k) n ++ clauses_from l e x m) i))

from_same : (n k : ℕ) (l e l' e' : List ℕ) → ((i : ℕ) → k ≤ i → i < k + n → clause_at l e i ≡ clause_at l' e' i)
    → clauses_from l e k n ≡ clauses_from l' e' k n
from_same zero k l e l' e' h = refl
from_same (suc n) k l e l' e' h =
    rw (h k (omega arith) (omega arith), from_same n (suc k) l e l' e' (λ i a b. h i (omega arith) (omega arith)))

still_sound : (s : Stores) (c : List ℕ) → Sound s → s.used + length c ≤ length s.lits → s.count + 1 < length s.ends → Sound (add_clause 0 c s)
unfolding add_clause
still_sound s c o p q =
    record {
      last_end = new_end s c q;
      rising = λ k h. rises k h (eqb k s.count) refl;
      ends_in = within;
      lits_in = omega (arith, length-sets s.lits s.used c);
      ends_long = omega (arith, length-set s.ends (s.count + 1) (0 + (s.used + length c)));
    }
  where
    within : (k : ℕ) → k ≤ s.count + 1 → get_or (add_clause 0 c s).ends k 0 ≤ s.used + length c
    within k h = go (eqb k (s.count + 1)) refl
      where
        go : (t : Bool) → eqb k (s.count + 1) ≡ t → get_or (add_clause 0 c s).ends k 0 ≤ s.used + length c
        go true e = let d = eqb-true k (s.count + 1) e in rw (d, new_end s c q) (omega arith)
        go false e = let d = eqb-false k (s.count + 1) e in omega (arith, old_end s c k (omega arith), o.ends_in k (omega arith))

    -- the new clause begins where the last one ended
    rises : (k : ℕ) → k < s.count + 1 → (t : Bool) → eqb k s.count ≡ t → get_or (add_clause 0 c s).ends k 0 ≤ get_or (add_clause 0 c s).ends (k + 1) 0
    rises k h true e = let d = eqb-true k s.count e in rw (d, new_end s c q) (omega (arith, old_end s c s.count (omega arith), o.last_end))
    rises k h false e =
        let d = eqb-false k s.count e in
        omega (arith, old_end s c k (omega arith), old_end s c (k + 1) (omega arith), o.rising k (omega arith))

sound_after : (cs : Clauses) (s : Stores) → Sound s → s.used + entries cs ≤ length s.lits → s.count + length cs < length s.ends → Sound (add_clauses 0 cs s)
unfolding add_clause
sound_after [] s o p q = o
sound_after (c ∷ cs) s o p q =
    let x = length-sets s.lits s.used c in
    let y = length-set s.ends (s.count + 1) (0 + (s.used + length c)) in
    sound_after cs (add_clause 0 c s) (still_sound s c o (omega arith) (omega arith)) (omega arith) (omega arith)

pub read_back : (cs : Clauses) (s : Stores) → Sound s → s.used + entries cs ≤ length s.lits → s.count + length cs < length s.ends
    → (clauses_of (add_clauses 0 cs s) ≡ clauses_of s ++ cs) × Sound (add_clauses 0 cs s)
read_back cs s o p q =
    let t = add_clauses 0 cs s in
    let same : (k : ℕ) → 0 ≤ k → k < 0 + s.count → clause_at t.lits t.ends k ≡ clause_at s.lits s.ends k =
    λ k _ h.
    rw (kept_end cs s k (omega arith), kept_end cs s (k + 1) (omega arith))
    (kept_part cs s (get_or s.ends k 0) (get_or s.ends (k + 1) 0) (o.ends_in k (omega arith)) (o.ends_in (k + 1) (omega arith))) in
    let begin : get_or t.ends s.count 0 ≡ s.used = kept_end cs s s.count (omega arith) ∙ o.last_end in
    let new : clauses_from t.lits t.ends s.count (length cs) ≡ cs =
    from_after (length cs) s.count t.lits t.ends
    ∙ ap (λ (b : ℕ). clauses_after t.lits t.ends b s.count (length cs)) begin ∙ added_back cs s p q in
    let z : 0 + s.count ≡ s.count = omega arith in (
      ap (λ (n : ℕ). clauses_from t.lits t.ends 0 n) (count_after 0 cs s)
          ∙ from_split s.count (length cs) 0 t.lits t.ends
          ∙ ap (λ (k : ℕ). clauses_from t.lits t.ends 0 s.count ++ clauses_from t.lits t.ends k (length cs)) z
          ∙ ap₂ (λ (a b : Clauses). a ++ b) (from_same s.count 0 t.lits t.ends s.lits s.ends same) new,
      sound_after cs s o p q,
    )
