-- The clauses of one inequality in integers are those of `enumerate`, with the upper bound as slack (`encode_sub_is`,
-- `encode_ge_is`), over order encodings whose values are evenly apart.
use Prim.Native.Nat.{◌*◌, ◌+◌, ◌-◌, ◌/◌, ◌<◌, suc, zero, ℕ}
use borrow.Author.Tests.{le-leb, leb-false, lt-leb}
use lib.Dec.{leb}
use lib.IntN.{◌*ℤ◌, ◌+ℤ◌, ◌-ℤ◌, negsuc, neg_ℤ, pos, ℤ}
use lib.ListN.{get_or, length}
use lib.Signed.{le_z, lt_z}
use mathlib.Core.Bool.{Bool, cond, false, true}
use mathlib.Core.List.{List, [], ◌++◌, ◌∷◌, append_assoc, map}
use mathlib.Core.Path.{◌∙◌, ◌≡◌, ap, refl, sym}
use native.Mathlib.Nat.{div-lt_iff_lt-mul, le-div_iff_mul-le, mul_comm, mul-le-mul_left}
use native.Mathlib.Omega.{arith}
use Rattle.arithmetic.specs.Integers.{down, up}
use Rattle.arithmetic.proofs.Integers.{add_read, le_read, lt_read, mul_read, neg_reads}
use Rattle.sat.specs.Clause.{Clauses}
use Rattle.sat.specs.Lit.{neg}
use Rattle.log_encoding.specs.Enumerate.{bounded, branch, enumerate, final, missed}
use Rattle.log_encoding.specs.Order.{LinearInfo, always, at_least, at_least_val, domain_at, domain_max, domain_size, each, encode_ge, encode_sub, first, lit, steps, unless_below, upper_bound, with_lit}
use Rattle.log_encoding.specs.Terms.{Term, flip, term}
use Rattle.log_encoding.proofs.Flip.{flip_at, length_flip}

-- a term whose values are the weight apart, with its literals in order
pub record Even (t : LinearInfo) (u : Term) : Type 0 where
  pub size : domain_size t ≡ suc (length u.lits)
  pub rise : (j : ℕ) → j < length u.lits
      → up (domain_at t (suc j)) + down (domain_at t j) ≡ down (domain_at t (suc j)) + up (domain_at t j) + u.weight
  pub reach : (j : ℕ) → j < length u.lits → at_least t (suc j) ≡ get_or u.lits j 0

abbrev pub Evens : List LinearInfo → List Term → Type 0
Evens [] [] = Unit
Evens [] (u ∷ us) = ⊥
Evens (t ∷ ts) [] = ⊥
Evens (t ∷ ts) (u ∷ us) = Even t u × Evens ts us

-- a bound of a - b
at_bound : (us : List Term) (bound : ℤ) (a b : ℕ) (p : List ℕ) → up bound + b ≡ down bound + a
    → unless_below bound p (enumerate us (up bound) p) ≡ cond (leb b a) (enumerate us (a - b) p) (p ∷ [])
at_bound us (pos n) a b p e = rw (le-leb b a (omega arith)) (ap (λ s. enumerate us s p) (omega arith))
at_bound us (negsuc n) a b p e = rw (lt-leb b a (omega arith))

first_is : (test : ℕ → Bool) (k n : ℕ) → k < n → ((j : ℕ) → j < k → test j ≡ false) → test k ≡ true → first test n ≡ k
first_is test k zero h below here = absurd (omega arith)
first_is test zero (suc n) h below here = rw here
first_is test (suc k) (suc n) h below here =
    rw (below 0 (omega arith), first_is (λ j. test (suc j)) k n (omega arith) (λ j i. below (suc j) (omega arith)) here)

-- One term -----------------------------------------------------------------------------------------------------------

module _ (t : LinearInfo) (u : Term) (even : Even t u) where
  abbrev n : ℕ
  n = length u.lits

  abbrev w : ℕ
  w = u.weight

  max_is : domain_max t ≡ domain_at t n
  max_is = ap (domain_at t) (omega (arith, even.size))

  -- what value i lacks of the greatest
  lacks : (i c : ℕ) → i + c ≡ n → up (domain_at t n) + down (domain_at t i) ≡ down (domain_at t n) + up (domain_at t i) + w * c
  lacks i zero e = let same : i ≡ n = omega arith in rw same (omega arith)
  lacks i (suc c) e = omega (arith, even.rise i (omega arith), lacks (suc i) c (omega arith))

  module _ (s : ℕ) where
    -- the value that the last term has to reach
    abbrev need : ℤ
    need = neg_ℤ (pos s -ℤ domain_max t)

    need_is : up need + down (domain_at t n) + s ≡ down need + up (domain_at t n)
    need_is =
        let m = ap up max_is in
        let m' = ap down max_is in
        omega (arith, neg_reads (pos s -ℤ domain_max t), add_read (pos s) (neg_ℤ (domain_max t)), neg_reads (domain_max t))

    reaches : (i c : ℕ) → i + c ≡ n → le_z need (domain_at t i) ≡ leb (w * c) s
    reaches i c e = le_read need (domain_at t i) (w * c) s (omega (arith, need_is, lacks i c e))

    never_not : lt_z (domain_max t) need ≡ false
    never_not =
        let m = ap up max_is in
        let m' = ap down max_is in
        lt_read (domain_max t) need s 0 (omega (arith, need_is)) ∙ lt-leb (suc s) 0 (omega arith)

    module _ (short : s < w * n) where
      wide : 0 < w
      wide = go w refl
        where
          go : (m : ℕ) → w ≡ m → 0 < m
          go zero e = absurd (omega (arith, ap (λ m. m * n) e))
          go (suc m) e = omega arith

      part_of : s / w < n
      part_of = (div-lt_iff_lt-mul wide).1 (omega arith)

      first_reached : first (λ j. le_z need (domain_at t j)) (domain_size t) ≡ n - s / w
      first_reached =
          first_is (λ j. le_z need (domain_at t j)) (n - s / w) (domain_size t) (omega (arith, even.size))
          (λ j h. reaches j (n - j) (omega (arith, part_of)) ∙ lt-leb (w * (n - j)) s (over j h))
          (reaches (n - s / w) (s / w) (omega (arith, part_of))
          ∙ le-leb (w * (s / w)) s (rw mul_comm ((le-div_iff_mul-le wide).0 (omega arith))))
        where
          over : (j : ℕ) → j < n - s / w → s < w * (n - j)
          over j h =
              let fit : s < suc (s / w) * w = (div-lt_iff_lt-mul wide).0 (omega arith) in
              omega (arith, fit, mul-le-mul_left {m = suc (s / w)} {n = n - j} w (omega arith))

    last_is : (p : List ℕ) → with_lit p (at_least_val t need) ≡ final w u.lits s p
    last_is p = rw (reaches 0 n (omega arith), never_not) (go (leb (w * n) s) refl)
      where
        go : (b : Bool) → leb (w * n) s ≡ b
            → with_lit p (cond b always (lit (at_least t (first (λ j. le_z need (domain_at t j)) (domain_size t)))))
            ≡ cond b [] ((p ++ (get_or u.lits (n - s / w - 1) 0 ∷ [])) ∷ [])
        go true q = refl
        go false q =
            let short : s < w * n = leb-false (w * n) s q in
            let i : n - s / w ≡ suc (n - s / w - 1) = omega (arith, part_of short) in
            ap (λ l. (p ++ (l ∷ [])) ∷ [])
            (ap (at_least t) (first_reached short ∙ i) ∙ even.reach (n - s / w - 1) (omega (arith, part_of short)))

-- the loop over a term's values
each_is : (more : ℕ → List ℕ → Clauses) (w : ℕ) (ls : List ℕ) (s : ℕ) (p : List ℕ) (f : ℕ → Clauses)
    → ((j c : ℕ) → suc c + j ≡ length ls → f j ≡ missed more (w * suc c) (get_or ls j 0) s p)
    → each (length ls) f ++ more s p ≡ branch more w ls s p
each_is more w [] s p f h = refl
each_is more w (l ∷ ls) s p f h =
    rw (append_assoc, h 0 (length ls) (omega arith))
    (ap (λ cs. missed more (w * suc (length ls)) l s p ++ cs)
    (each_is more w ls s p (λ i. f (suc i)) (λ j c e. h (suc j) c (omega arith))))

-- a term that is not the last
module _ (t : LinearInfo) (u : Term) (even : Even t u) (rest : List ℕ → ℤ → Clauses) (us : List Term)
    (ih : (p : List ℕ) (bound : ℤ) → rest p bound ≡ unless_below bound p (enumerate us (up bound) p)) where
  branch_is : (s : ℕ) (p : List ℕ)
      → each (domain_size t - 1) (λ i. rest (p ++ (at_least t (suc i) ∷ [])) ((pos s -ℤ domain_max t) +ℤ domain_at t i)) ++ rest p (pos s)
      ≡ branch (enumerate us) u.weight u.lits s p
  branch_is s p =
      let size : domain_size t - 1 ≡ length u.lits = omega (arith, even.size) in
      ap (λ m. each m f ++ rest p (pos s)) size ∙ ap (λ cs. each (length u.lits) f ++ cs) (ih p (pos s))
      ∙ each_is (enumerate us) u.weight u.lits s p f turn
    where
      bound : ℕ → ℤ
      bound i = (pos s -ℤ domain_max t) +ℤ domain_at t i

      f : ℕ → Clauses
      f i = rest (p ++ (at_least t (suc i) ∷ [])) (bound i)

      turn : (j c : ℕ) → suc c + j ≡ length u.lits → f j ≡ missed (enumerate us) (u.weight * suc c) (get_or u.lits j 0) s p
      turn j c e =
          let m = ap up (max_is t u even) in
          let m' = ap down (max_is t u even) in
          ap (λ l. rest (p ++ (l ∷ [])) (bound j)) (even.reach j (omega arith))
          ∙ ih (p ++ (get_or u.lits j 0 ∷ [])) (bound j)
          ∙ at_bound us (bound j) s (u.weight * suc c) (p ++ (get_or u.lits j 0 ∷ []))
          (omega (
            arith,
            add_read (pos s -ℤ domain_max t) (domain_at t j),
            add_read (pos s) (neg_ℤ (domain_max t)),
            neg_reads (domain_max t),
            lacks t u even j (suc c) (omega arith),
          ))

-- Every term ---------------------------------------------------------------------------------------------------------

pub encode_sub_is : (ts : List LinearInfo) (us : List Term) → Evens ts us → (p : List ℕ) (bound : ℤ)
    → encode_sub ts p bound ≡ unless_below bound p (enumerate us (up bound) p)
unfolding enumerate
encode_sub_is [] [] e p bound = refl
encode_sub_is [] (u ∷ us) e p bound = absurd e
encode_sub_is (t ∷ ts) [] e p bound = absurd e
encode_sub_is (t ∷ []) (u ∷ []) e p (pos s) = last_is t u e.0 s p
encode_sub_is (t ∷ []) (u ∷ []) e p (negsuc b) = refl
encode_sub_is (t ∷ []) (u ∷ v ∷ us) e p bound = absurd e.1
encode_sub_is (t ∷ t' ∷ ts) (u ∷ []) e p bound = absurd e.1
encode_sub_is (t ∷ t' ∷ ts) (u ∷ u' ∷ us) e p (negsuc b) = refl
encode_sub_is (t ∷ t' ∷ ts) (u ∷ u' ∷ us) e p (pos s) =
    branch_is t u e.0 (encode_sub (t' ∷ ts)) (u' ∷ us) (encode_sub_is (t' ∷ ts) (u' ∷ us) e.1) s p

pub encode_ge_is : (ts : List LinearInfo) (us : List Term) → Evens ts us → (k : ℤ) (a b : ℕ)
    → up (upper_bound ts k) + b ≡ down (upper_bound ts k) + a → encode_ge ts k ≡ bounded us a b
unfolding bounded
encode_ge_is ts us e k a b h = encode_sub_is ts us e [] (upper_bound ts k) ∙ at_bound us (upper_bound ts k) a b [] h

-- Terms whose domain has a constant step -----------------------------------------------------------------------------

steps_length : (low : ℤ) (w n : ℕ) → length (steps low w n) ≡ suc n
steps_length low w zero = refl
steps_length low w (suc n) = ap suc (steps_length (low +ℤ pos w) w n)

steps_rise : (low : ℤ) (w n j : ℕ) → j < n → get_or (steps low w n) (suc j) (pos 0) ≡ get_or (steps low w n) j (pos 0) +ℤ pos w
steps_rise low w zero j h = absurd (omega arith)
steps_rise low w (suc zero) zero h = refl
steps_rise low w (suc (suc n)) zero h = refl
steps_rise low w (suc n) (suc j) h = steps_rise (low +ℤ pos w) w n j (omega arith)

-- a value and the next, times a coefficient
scaled : (x : ℤ) (w k : ℕ)
    → up ((x +ℤ pos w) *ℤ pos (suc k)) + down (x *ℤ pos (suc k)) ≡ down ((x +ℤ pos w) *ℤ pos (suc k)) + up (x *ℤ pos (suc k)) + w * suc k
scaled x w k =
    omega (arith, mul_read (x +ℤ pos w) (pos (suc k)), mul_read x (pos (suc k)), ap (λ m. m * suc k) (add_read x (pos w)))

scaled_down : (x : ℤ) (w k : ℕ)
    → up (x *ℤ negsuc k) + down ((x +ℤ pos w) *ℤ negsuc k) ≡ down (x *ℤ negsuc k) + up ((x +ℤ pos w) *ℤ negsuc k) + w * suc k
scaled_down x w k =
    omega (arith, mul_read (x +ℤ pos w) (negsuc k), mul_read x (negsuc k), ap (λ m. m * suc k) (add_read x (pos w)))

-- two values that are so far apart
apart : (x y x' y' : ℤ) (w : ℕ) → x ≡ x' → y ≡ y' → up x' + down y' ≡ down x' + up y' + w → up x + down y ≡ down x + up y + w
apart x y x' y' w p q h = rw (p, q) h

module _ (low : ℤ) (w k : ℕ) (ls : List ℕ) where
  abbrev values : List ℤ
  values = steps low w (length ls)

  abbrev with_coef : ℤ → LinearInfo
  with_coef c = record { coef = c; encoding = record { domain = values; lits = ls } }

  plus : leb 1 (suc k) ≡ true
  plus = le-leb 1 (suc k) (omega arith)

  up_at : (j : ℕ) → domain_at (with_coef (pos (suc k))) j ≡ get_or values j (pos 0) *ℤ pos (suc k)
  up_at j = ap (λ b. get_or values (cond b j (length values - 1 - j)) (pos 0) *ℤ pos (suc k)) plus

  down_at : (j c : ℕ) → c + j ≡ length ls → domain_at (with_coef (negsuc k)) j ≡ get_or values c (pos 0) *ℤ negsuc k
  down_at j c e = ap (λ i. get_or values i (pos 0) *ℤ negsuc k) (omega (arith, steps_length low w (length ls)))

  pub even_up : Even (with_coef (pos (suc k))) (term (w * suc k) ls)
  even_up =
      record {
        size = steps_length low w (length ls);
        rise = λ j h.
            apart _ _ _ _ _ (up_at (suc j) ∙ ap (λ x. x *ℤ pos (suc k)) (steps_rise low w (length ls) j h)) (up_at j)
            (scaled (get_or values j (pos 0)) w k);
        reach = λ j h. rw plus (ap (λ i. get_or ls i 0) (omega arith));
      }

  pub even_down : Even (with_coef (negsuc k)) (term (w * suc k) (flip ls))
  even_down =
      record {
        size = steps_length low w (length ls) ∙ ap suc (sym (length_flip ls));
        rise = λ j h.
            let c : suc (length ls - suc j) + j ≡ length ls = omega (arith, length_flip ls) in
            apart _ _ _ _ _ (down_at (suc j) (length ls - suc j) (omega arith))
            (down_at j (suc (length ls - suc j)) c
            ∙ ap (λ x. x *ℤ negsuc k) (steps_rise low w (length ls) (length ls - suc j) (omega arith)))
            (scaled_down (get_or values (length ls - suc j) (pos 0)) w k);
        reach = λ j h.
            let c : suc (length ls - suc j) + j ≡ length ls = omega (arith, length_flip ls) in
            ap (λ i. neg (get_or ls i 0)) (omega (arith, steps_length low w (length ls))) ∙ sym (flip_at ls j (length ls - suc j) c);
      }

  steps_first : (n : ℕ) → get_or (steps low w n) 0 (pos 0) ≡ low
  steps_first zero = refl
  steps_first (suc n) = refl

  -- the greatest value
  pub max_up : (let m = domain_max (with_coef (pos (suc k))) in
      up m + down low * suc k ≡ down m + up low * suc k + w * suc k * length ls)
  max_up =
      let t = with_coef (pos (suc k)) in
      let u = term (w * suc k) ls in
      let m = max_is t u even_up in
      let f : domain_at t 0 ≡ low *ℤ pos (suc k) = up_at 0 ∙ ap (λ x. x *ℤ pos (suc k)) (steps_first (length ls)) in
      omega (arith, ap up m, ap down m, ap up f, ap down f, lacks t u even_up 0 (length ls) (omega arith), mul_read low (pos (suc k)))

  pub max_down : (let m = domain_max (with_coef (negsuc k)) in up m + up low * suc k ≡ down m + down low * suc k)
  max_down =
      let f : domain_max (with_coef (negsuc k)) ≡ low *ℤ negsuc k =
      down_at (length values - 1) 0 (omega (arith, steps_length low w (length ls))) ∙ ap (λ x. x *ℤ negsuc k) (steps_first (length ls)) in
      omega (arith, ap up f, ap down f, mul_read low (negsuc k))

-- an order encoding with a constant step, and a coefficient of `size` + 1 or its negative
pub record Stepped : Type 0 where
  pub low : ℤ
  pub step : ℕ
  pub negative : Bool
  pub size : ℕ
  pub lits : List ℕ

abbrev pub stepped_info : Stepped → LinearInfo
stepped_info s =
    record {
      coef = cond s.negative (negsuc s.size) (pos (suc s.size));
      encoding = record { domain = steps s.low s.step (length s.lits); lits = s.lits };
    }

abbrev pub stepped_term : Stepped → Term
stepped_term s = term (s.step * suc s.size) (cond s.negative (flip s.lits) s.lits)

stepped_evens : (ss : List Stepped) → Evens (map stepped_info ss) (map stepped_term ss)
stepped_evens [] = tt
stepped_evens (s ∷ ss) = (go s.negative, stepped_evens ss)
  where
    go : (m : Bool) → Even
        (record {
          coef = cond m (negsuc s.size) (pos (suc s.size));
          encoding = record { domain = steps s.low s.step (length s.lits); lits = s.lits };
        })
        (term (s.step * suc s.size) (cond m (flip s.lits) s.lits))
    go true = even_down s.low s.step s.size s.lits
    go false = even_up s.low s.step s.size s.lits

-- the clause so far where the bound is below 0 (at the start, the lone empty clause), else the clauses of `enumerate`
pub encode_sub_steps : (ss : List Stepped) (p : List ℕ) (bound : ℤ)
    → encode_sub (map stepped_info ss) p bound ≡ unless_below bound p (enumerate (map stepped_term ss) (up bound) p)
unfolding enumerate
encode_sub_steps ss p bound = encode_sub_is (map stepped_info ss) (map stepped_term ss) (stepped_evens ss) p bound
