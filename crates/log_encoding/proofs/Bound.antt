-- How many clauses an inequality can have, and how many literals: at most 2 ^ k clauses for terms of k literals in all, and in each clause at
-- most as many literals as there are terms.
use mathlib.Core.Path.{◌≡◌}
use mathlib.Core.Bool.{Bool, true, false, cond}
use mathlib.Core.List.{List, [], ◌∷◌, ◌++◌}
use Prim.Native.Nat.{ℕ, zero, suc, ◌+◌, ◌-◌, ◌*◌, ◌/◌, ◌^◌, ◌≤◌}
use native.Mathlib.Nat.{le_trans, suc-mul, one-mul, pow-succ', pow-zero, pow-le-pow_right, mul-le-mul_right}
use native.Mathlib.Omega.{arith}
use lib.Dec.{leb, lit<, lit≤}
use lib.Pow.{pow-add}
use lib.ListN.{length, get_or, length-append}
use Rattle.sat.specs.Size.{entries}
use Rattle.sat.specs.Clause.{Clauses}
use Rattle.log_encoding.specs.Terms.{Term}
use Rattle.log_encoding.specs.Enumerate.{missed, branch, final, enumerate, bounded}

-- the literals of all the terms
abbrev pub sizes : List Term → ℕ
sizes [] = 0
sizes (t ∷ ts) = length t.lits + sizes ts

-- what holds of every element
abbrev Every : {A : Type 0} → (A → Type 0) → List A → Type 0
Every P [] = Unit {0}
Every P (x ∷ xs) = P x × Every P xs

every_append : {A : Type 0} (P : A → Type 0) (xs ys : List A) → Every P xs → Every P ys → Every P (xs ++ ys)
every_append P [] ys g h = h
every_append P (x ∷ xs) ys g h = (g.0, every_append P xs ys g.1 h)

every_cond : {A : Type 0} (P : A → Type 0) (b : Bool) (xs ys : List A) → Every P xs → Every P ys → Every P (cond b xs ys)
every_cond P true xs ys g h = g
every_cond P false xs ys g h = h

-- The clauses' number ------------------------------------------------------------------------------------------------

one_most : (b : Bool) (c : List ℕ) (xs : Clauses) (r : ℕ) → 1 ≤ r → length xs ≤ r → length (cond b xs (c ∷ [])) ≤ r
one_most true c xs r z h = h
one_most false c xs r z h = z

branch_most : (more : ℕ → List ℕ → Clauses) (r : ℕ) → 1 ≤ r → ((s : ℕ) (p : List ℕ) → length (more s p) ≤ r)
    → (w : ℕ) (ls : List ℕ) (s : ℕ) (p : List ℕ) → length (branch more w ls s p) ≤ suc (length ls) * r
branch_most more r z h w [] s p = rw one-mul (h s p)
branch_most more r z h w (l ∷ ls) s p =
    let cost : ℕ = w * suc (length ls) in
    let u : length (missed more cost l s p) ≤ r = one_most (leb cost s) (p ++ (l ∷ [])) (more (s - cost) (p ++ (l ∷ []))) r z (h (s - cost) (p ++ (l ∷ []))) in
    let v = branch_most more r z h w ls s p in
    rw (length-append, suc-mul (suc (length ls)) r) (omega (arith, u, v))

suc_power : (k : ℕ) → suc k ≤ 2 ^ k
suc_power zero = rw pow-zero (lit≤ tt)
suc_power (suc k) = rw (pow-succ' 2 k) (omega (arith, suc_power k))

power_pos : (k : ℕ) → 1 ≤ 2 ^ k
power_pos k = omega (arith, suc_power k)

final_most : (w : ℕ) (ls : List ℕ) (s : ℕ) (p : List ℕ) → length (final w ls s p) ≤ 1
final_most w ls s p = one_most (leb (w * length ls) s) (p ++ (get_or ls (length ls - s / w - 1) 0 ∷ [])) [] 1 (lit≤ tt) (lit≤ tt)

clauses_most : (ts : List Term) (s : ℕ) (p : List ℕ) → length (enumerate ts s p) ≤ 2 ^ sizes ts
unfolding enumerate
clauses_most [] s p = lit≤ tt
clauses_most (t ∷ []) s p = le_trans (final_most t.weight t.lits s p) (power_pos (sizes (t ∷ [])))
clauses_most (t ∷ u ∷ ts) s p =
    let r : ℕ = sizes (u ∷ ts) in
    le_trans (branch_most (enumerate (u ∷ ts)) (2 ^ r) (power_pos r) (clauses_most (u ∷ ts)) t.weight t.lits s p)
    (rw (pow-add 2 (length t.lits) r) (mul-le-mul_right (2 ^ r) (suc_power (length t.lits))))

-- The clauses' lengths -----------------------------------------------------------------------------------------------

abbrev Up : ℕ → List ℕ → Type 0
Up b c = length c ≤ b

total_most : (b : ℕ) (cs : Clauses) → Every (Up b) cs → entries cs ≤ length cs * b
total_most b [] h = omega arith
total_most b (c ∷ cs) h = rw (suc-mul (length cs) b) (omega (arith, h.0, total_most b cs h.1))

branch_up : (b n : ℕ) (more : ℕ → List ℕ → Clauses) → ((s : ℕ) (p : List ℕ) → length p + n ≤ b → Every (Up b) (more s p))
    → (w : ℕ) (ls : List ℕ) (s : ℕ) (p : List ℕ) → length p + suc n ≤ b → Every (Up b) (branch more w ls s p)
branch_up b n more h w [] s p l = h s p (omega arith)
branch_up b n more h w (x ∷ ls) s p l =
    let q : List ℕ = p ++ (x ∷ []) in
    let e : length q ≡ length p + 1 = length-append p (x ∷ []) in
    let cost : ℕ = w * suc (length ls) in
    every_append (Up b) (missed more cost x s p) (branch more w ls s p)
    (every_cond (Up b) (leb cost s) (more (s - cost) q) (q ∷ []) (h (s - cost) q (omega arith)) (omega arith, tt))
    (branch_up b n more h w ls s p l)

final_up : (b w : ℕ) (ls : List ℕ) (s : ℕ) (p : List ℕ) → length p + 1 ≤ b → Every (Up b) (final w ls s p)
final_up b w ls s p l =
    let x : ℕ = get_or ls (length ls - s / w - 1) 0 in
    let e : length (p ++ (x ∷ [])) ≡ length p + 1 = length-append p (x ∷ []) in
    every_cond (Up b) (leb (w * length ls) s) [] ((p ++ (x ∷ [])) ∷ []) tt (omega arith, tt)

clauses_up : (b : ℕ) (ts : List Term) (s : ℕ) (p : List ℕ) → length p + length ts ≤ b → Every (Up b) (enumerate ts s p)
unfolding enumerate
clauses_up b [] s p l = tt
clauses_up b (t ∷ []) s p l = final_up b t.weight t.lits s p l
clauses_up b (t ∷ u ∷ ts) s p l = branch_up b (suc (length ts)) (enumerate (u ∷ ts)) (clauses_up b (u ∷ ts)) t.weight t.lits s p l

-- 15 terms of at most 19 literals in all -----------------------------------------------------------------------------

module _ (ts : List Term) (a b : ℕ) (k : sizes ts ≤ 19) (n : length ts ≤ 15) where
  live_count : (s : ℕ) → length (enumerate ts s []) ≤ 524288
  live_count s = le_trans (clauses_most ts s []) (pow-le-pow_right {n = 2} (lit< tt) k)

  live_total : (s : ℕ) → entries (enumerate ts s []) ≤ 7864320
  live_total s = le_trans (total_most 15 (enumerate ts s []) (clauses_up 15 ts s [] (omega arith))) (mul-le-mul_right 15 (live_count s))

  pub bounded_count : length (bounded ts a b) ≤ 524288
  unfolding bounded
  bounded_count = one_most (leb b a) [] (enumerate ts (a - b) []) 524288 (lit≤ tt) (live_count (a - b))

  pub bounded_total : entries (bounded ts a b) ≤ 7864320
  unfolding bounded
  bounded_total = go (leb b a) where
    go : (t : Bool) → entries (cond t (enumerate ts (a - b) []) ([] ∷ [])) ≤ 7864320
    go true = live_total (a - b)
    go false = lit≤ tt
