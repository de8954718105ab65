-- What adding clauses leaves in the stores: one list after another.
use mathlib.Core.Path.{◌≡◌, refl, ap, sym, ◌∙◌}
use mathlib.Core.List.{List, [], ◌∷◌, ◌++◌, map, map-append}
use Prim.Native.Nat.{ℕ, min, suc, zero, ◌-◌, ◌≤◌, ◌+◌, ◌<◌}
use native.Mathlib.Nat.{add-zero}
use native.Mathlib.Numerals.{add-one}
use native.Mathlib.Omega.{arith}
use lib.ListN.{length, take, get_or, set, length-append, length-map, length-set}
use lib.Seq.{length-take-le, set_out, sets, take-append_seam, take-suc}
use Rattle.sat.specs.Size.{entries}
use Rattle.sat.proofs.Size.{entries_append}
use Rattle.clause_set.specs.declared.Counts.{Counts}
use Rattle.sat.specs.declared.Lit.{Lit}
use Rattle.sat.specs.LitArray.{first_lits, num}
use Rattle.clause_set.specs.Stores.{Stores, stores, add_clause, add_clauses, Fits}

pub sets_append : (a l : List ℕ) (i : ℕ) (b : List ℕ) → sets l i (a ++ b) ≡ sets (sets l i a) (i + length a) b
sets_append [] l i b = rw add-zero
sets_append (x ∷ a) l i b = sets_append a (set l i x) (suc i) b ∙ ap (λ (k : ℕ). sets (sets (set l i x) (suc i) a) k b) (omega arith)

-- a turn of the loop that stores a clause's literals
pub lits_more : (l : List ℕ) (i : ℕ) (c : List Lit) (k : ℕ) → k < length c
    → set (sets l i (map num (take k c))) (i + k) (get_or c k (record { 0 = 0 })).0 ≡ sets l i (map num (take (k + 1) c))
lits_more l i c k h =
    let e : length (map num (take k c)) ≡ k = length-map (take k c) num ∙ length-take-le k c (omega arith) in
    sym (rw (add-one, take-suc c k (record { 0 = 0 }) h, map-append, sets_append, e))

-- past a store's end nothing is stored
sets_past : (c l : List ℕ) (i : ℕ) → length l ≤ i → sets l i c ≡ l
sets_past [] l i h = refl
sets_past (x ∷ c) l i h = rw (set_out l i x h) (sets_past c l (suc i) (omega arith))

-- so those that lie inside are all that count
sets_fit : (c l : List ℕ) (i k : ℕ) → k ≡ min (length c) (length l - i) → sets l i (take k c) ≡ sets l i c
sets_fit [] l i zero e = refl
sets_fit [] l i (suc k) e = refl
sets_fit (x ∷ c) l i zero e = sym (sets_past (x ∷ c) l i (omega arith))
sets_fit (x ∷ c) l i (suc k) e = sets_fit c (set l i x) (suc i) k (omega (arith, length-set l i x))

pub lits_fit : (c : List Lit) (l : List ℕ) (i k : ℕ) → k ≡ min (length c) (length l - i) → sets l i (map num (take k c)) ≡ sets l i (map num c)
lits_fit c l i k e = ap (sets l i) (nums c k) ∙ sets_fit (map num c) l i k (omega (arith, length-map c num))
  where
    nums : (c : List Lit) (k : ℕ) → map num (take k c) ≡ take k (map num c)
    nums c zero = refl
    nums [] (suc k) = refl
    nums (x ∷ c) (suc k) = ap (λ (xs : List ℕ). x.0 ∷ xs) (nums c k)

-- fewer of an array's first literals
pub fewer_lits : (ls : List Lit) (m n : ℕ) → m ≤ n → first_lits ls m ≡ take m (first_lits ls n)
fewer_lits ls zero n h = refl
fewer_lits ls (suc m) zero h = absurd (omega arith)
fewer_lits [] (suc m) (suc n) h = refl
fewer_lits (l ∷ ls) (suc m) (suc n) h = ap (λ (xs : List ℕ). l.0 ∷ xs) (fewer_lits ls m n (omega arith))

-- an array's first literals without the last of them
pub but_last : (ls : List Lit) (m n : ℕ) (xs : List ℕ) (x : ℕ) → m + 1 ≡ n → n ≤ length ls → first_lits ls n ≡ xs ++ (x ∷ []) → first_lits ls m ≡ xs
but_last ls m n xs x e h f =
    let long : length (first_lits ls n) ≡ n = length-map (take n ls) num ∙ length-take-le n ls h in
    let more : length (first_lits ls n) ≡ length xs + 1 = ap length f ∙ length-append xs (x ∷ []) in
    let k : m ≡ length xs = omega arith in
    fewer_lits ls m n (omega arith) ∙ ap (take m) f ∙ ap (λ j. take j (xs ++ (x ∷ []))) k ∙ take-append_seam xs (x ∷ [])

-- Clauses one after the other ----------------------------------------------------------------------------------------

pub add_append : (b : ℕ) (cs ds : List (List ℕ)) (s : Stores) → add_clauses b (cs ++ ds) s ≡ add_clauses b ds (add_clauses b cs s)
add_append b [] ds s = refl
add_append b (c ∷ cs) ds s = add_append b cs ds (add_clause b c s)

pub used_after : (b : ℕ) (cs : List (List ℕ)) (s : Stores) → (add_clauses b cs s).used ≡ s.used + entries cs
unfolding add_clause
used_after b [] s = omega arith
used_after b (c ∷ cs) s = omega (arith, used_after b cs (add_clause b c s))

pub count_after : (b : ℕ) (cs : List (List ℕ)) (s : Stores) → (add_clauses b cs s).count ≡ s.count + length cs
unfolding add_clause
count_after b [] s = omega arith
count_after b (c ∷ cs) s = omega (arith, count_after b cs (add_clause b c s))

-- one clause is added: its literals, its end, the two counts
pub one_added : (b : ℕ) (s : Stores) (c d e : List ℕ) (end : ℕ) → d ≡ sets s.lits s.used c → end ≡ s.used + length c
    → e ≡ set s.ends (s.count + 1) (b + end) → stores d e end (s.count + 1) ≡ add_clauses b (c ∷ []) s
unfolding add_clause
one_added b s c d e end p q r = λ i. stores (p i) ((r ∙ ap (λ (x : ℕ). set s.ends (s.count + 1) (b + x)) q) i) (q i) (s.count + 1)

-- the first of two lists of clauses fits where both do
pub fits_first : {b : ℕ} {a : Counts} (cs ds : List (List ℕ)) → Fits b a (cs ++ ds) → Fits b a cs
fits_first cs ds f = record { lits = omega (arith, f.lits, entries_append cs ds); clauses = omega (arith, f.clauses, length-append cs ds) }
