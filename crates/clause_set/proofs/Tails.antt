-- Tails of the stores that are lent, written and come back: what is added to the tails is added to the whole stores, whether these reach
-- so far or not.
use mathlib.Core.Path.{◌≡◌, refl, ap, sym, ◌∙◌}
use mathlib.Core.List.{List, [], ◌∷◌, ◌++◌, append-nil}
use mathlib.Core.Logic.{◌⊎◌, inl, inr, ⊎_elim}
use Prim.Native.Nat.{ℕ, suc, ◌+◌, ◌-◌, ◌≤◌, ◌<◌}
use native.Mathlib.Nat.{add-zero}
use native.Mathlib.Omega.{arith}
use lib.ListN.{length, take, drop, set, length-take, length-drop, take-append-drop, drop_of_length-le}
use lib.Seq.{sets, set_out, take_all, length-take-le}
use borrow.Rule.Slice.PartMut.{put_mid}
use Rattle.clause_set.specs.declared.Counts.{Counts}
use Rattle.clause_set.specs.Stores.{Stores, stores, after, add_clause, add_clauses, Within}

-- the tail ys begins at n behind xs; or nothing is there
pub record Behind (xs ys : List ℕ) (n : ℕ) : Type 0 where
  pub place : (length xs ≡ n) ⊎ ((length xs ≤ n) × (ys ≡ []))

set_behind_at : (xs ys : List ℕ) (i x : ℕ) → set (xs ++ ys) (length xs + i) x ≡ xs ++ set ys i x
set_behind_at [] ys i x = ap (λ (k : ℕ). set ys k x) (omega arith)
set_behind_at (z ∷ xs) ys i x =
    let e : length (z ∷ xs) + i ≡ suc (length xs + i) = omega arith in
    rw e (ap (λ (l : List ℕ). z ∷ l) (set_behind_at xs ys i x))

set_none : (i x : ℕ) → set [] i x ≡ []
set_none i x = set_out [] i x (omega arith)

pub set_behind : (xs ys : List ℕ) (n i x : ℕ) → Behind xs ys n → set (xs ++ ys) (n + i) x ≡ xs ++ set ys i x
set_behind xs ys n i x h =
    ⊎_elim
    (λ (e : length xs ≡ n). rw (← e) (set_behind_at xs ys i x))
    (λ (p : (length xs ≤ n) × (ys ≡ [])). rw (p.1, set_none i x, append-nil xs) (set_out xs (n + i) x (omega arith)))
    h.place

pub behind_set : (xs ys : List ℕ) (n i x : ℕ) → Behind xs ys n → Behind xs (set ys i x) n
behind_set xs ys n i x h =
    record { place = ⊎_elim (λ (e : length xs ≡ n). inl e) (λ (p : (length xs ≤ n) × (ys ≡ [])). inr (p.0, rw p.1 (set_none i x))) h.place }

sets_behind : (c xs ys : List ℕ) (n i : ℕ) → Behind xs ys n → (sets (xs ++ ys) (n + i) c ≡ xs ++ sets ys i c) × Behind xs (sets ys i c) n
sets_behind [] xs ys n i h = (refl, h)
sets_behind (x ∷ c) xs ys n i h =
    let r = sets_behind c xs (set ys i x) n (suc i) (behind_set xs ys n i x h) in
    let e : suc (n + i) ≡ n + suc i = omega arith in
    (rw (set_behind xs ys n i x h, e) r.0, r.1)

-- the stores with the parts before the tails
abbrev pub join : List ℕ → List ℕ → ℕ → ℕ → Stores → Stores
join xs zs m n s = stores (xs ++ s.lits) (zs ++ s.ends) (m + s.used) (n + s.count)

pub add_behind : (cs : List (List ℕ)) (b : ℕ) (xs zs : List ℕ) (m n : ℕ) (s : Stores) → Behind xs s.lits m → Behind zs s.ends n
    → add_clauses b cs (join xs zs m n s) ≡ join xs zs m n (add_clauses (b + m) cs s)
unfolding add_clause
add_behind [] b xs zs m n s g h = refl
add_behind (c ∷ cs) b xs zs m n s g h =
    let p = sets_behind c xs s.lits m s.used g in
    let end : b + ((m + s.used) + length c) ≡ (b + m) + (s.used + length c) = omega arith in
    let i : (n + s.count) + 1 ≡ n + (s.count + 1) = omega arith in
    let u : (m + s.used) + length c ≡ m + (s.used + length c) = omega arith in
    let one : add_clause b c (join xs zs m n s) ≡ join xs zs m n (add_clause (b + m) c s) =
    (λ k. stores (p.0 k) ((ap (λ (y : ℕ). set (zs ++ s.ends) ((n + s.count) + 1) y) end ∙ ap (λ (j : ℕ). set (zs ++ s.ends) j ((b + m) + (s.used + length c))) i ∙ set_behind zs s.ends n (s.count + 1) ((b + m) + (s.used + length c)) h) k) (u k) (i k)) in
    ap (add_clauses b cs) one ∙ add_behind cs b xs zs m n (add_clause (b + m) c s) p.1 (behind_set zs s.ends n (s.count + 1) ((b + m) + (s.used + length c)) h)

-- Tails that are lent and come back ----------------------------------------------------------------------------------

abbrev pub tail : List ℕ → ℕ → List ℕ
tail xs n = take (length xs - n) (drop n xs)

tail_drop : (xs : List ℕ) (n : ℕ) → tail xs n ≡ drop n xs
tail_drop xs n = take_all (length xs - n) (drop n xs) (rw length-drop (omega arith))

-- where a part may begin: at n, or, where the list does not reach so far, at its end
behind_tail : (xs : List ℕ) (n f : ℕ) → Within n (length xs) f → Behind (take f xs) (tail xs f) n
behind_tail xs n f w =
    record {
      place =
          ⊎_elim
          (λ (p : (n ≤ length xs) × (f ≡ n)). inl (length-take-le f xs (omega arith) ∙ p.1))
          (λ (p : (length xs < n) × (f ≡ length xs)). let k : length xs ≤ f = omega arith in inr (rw length-take (omega arith), tail_drop xs f ∙ drop_of_length-le xs k))
          w.place;
    }

whole_tail : (xs : List ℕ) (n : ℕ) → take n xs ++ tail xs n ≡ xs
whole_tail xs n = rw (tail_drop xs n) (take-append-drop n xs)

put_whole : (xs : List ℕ) (n : ℕ) (ys : List ℕ) → put_mid n (length xs - n) xs ys ≡ take n xs ++ ys
put_whole xs n ys =
    let h : length (drop n xs) ≤ length xs - n = rw length-drop (omega arith) in
    let z : drop (length xs - n) (drop n xs) ≡ [] = drop_of_length-le (drop n xs) h in
    rw (z, append-nil)

module _ (d e : List ℕ) (a : Counts) (b f g : ℕ) (p : Within a.lits (length d) f) (q : Within a.clauses (length e) g) where
  pub lent_added : (cs : List (List ℕ)) (base : ℕ) (d₁ e₁ : List ℕ) (r : Counts) → base ≡ b + a.lits
      → after d₁ e₁ r ≡ add_clauses base cs (stores (tail d f) (tail e g) 0 0)
      → stores (put_mid f (length d - f) d d₁) (put_mid g (length e - g) e e₁) (a.lits + r.lits) (a.clauses + r.clauses) ≡ add_clauses b cs (after d e a)
  lent_added cs base d₁ e₁ r k w =
      let s : Stores = stores (tail d f) (tail e g) 0 0 in
      let one : stores (put_mid f (length d - f) d d₁) (put_mid g (length e - g) e e₁) (a.lits + r.lits) (a.clauses + r.clauses) ≡ join (take f d) (take g e) a.lits a.clauses (after d₁ e₁ r) =
      (λ i. stores (put_whole d f d₁ i) (put_whole e g e₁ i) (a.lits + r.lits) (a.clauses + r.clauses)) in
      let two : join (take f d) (take g e) a.lits a.clauses (after d₁ e₁ r) ≡ join (take f d) (take g e) a.lits a.clauses (add_clauses (b + a.lits) cs s) =
      ap (join (take f d) (take g e) a.lits a.clauses) (w ∙ ap (λ (x : ℕ). add_clauses x cs s) k) in
      let three = sym (add_behind cs b (take f d) (take g e) a.lits a.clauses s (behind_tail d a.lits f p) (behind_tail e a.clauses g q)) in
      let four : join (take f d) (take g e) a.lits a.clauses s ≡ after d e a =
      (λ i. stores (whole_tail d f i) (whole_tail e g i) (add-zero a.lits i) (add-zero a.clauses i)) in
      one ∙ two ∙ three ∙ ap (add_clauses b cs) four
