-- The adder of Eq in integers gives what the adder in natural numbers gives, dead ends included (`plain_eq_adder_is`), and the
-- columns of the other adder are the two inequalities of mixed.rs (`column_plain`).
use Prim.Native.Nat.{◌%◌, ◌*◌, ◌+◌, ◌-◌, ◌/◌, ◌≤◌, min, suc, zero, ℕ}
use borrow.Author.Tests.{le-leb, leb-false, leb-true, lt-leb, ne_eqb}
use lib.Dec.{leb}
use lib.IntN.{◌+ℤ◌, ◌-ℤ◌, negsuc, neg_ℤ, pos, ℤ}
use lib.ListN.{length, length-map}
use lib.Signed.{lt_z}
use mathlib.Core.Bool.{Bool, cond, false, not, true}
use mathlib.Core.List.{List, [], ◌++◌, ◌∷◌, map}
use mathlib.Core.Option.{none, some}
use mathlib.Core.Path.{◌∙◌, ◌≡◌, ap, refl}
use native.Mathlib.Omega.{arith}
use Rattle.arithmetic.specs.Integers.{div_ceil, div_floor, down, low_bit, shift, up}
use Rattle.arithmetic.proofs.Integers.{add_read, apart_read, bit_read, ceil_read, floor_read, lt_read, neg_reads, shift_next, shift_none}
use Rattle.sat.proofs.Fresh.{length_fresh}
use Rattle.sat.specs.Clause.{Clauses}
use Rattle.sat.specs.Fresh.{fresh}
use Rattle.sat.specs.Lit.{neg}
use Rattle.log_encoding.specs.Enumerate.{bounded, enumerate}
use Rattle.log_encoding.specs.Order.{OrderEncoding, domain_max, encode_eq, negated, upper_bound}
use Rattle.log_encoding.specs.Terms.{Term, flip, term}
use Rattle.log_encoding.proofs.Order.{Even, Evens, encode_ge_is, even_down, even_up, max_down, max_up}
use Rattle.log_encoding.specs.Adder2.{Adder2Output, adder2, column_and_rest, column_answer, dead_end, eq_adder, eq_column, eq_columns, eq_ge_terms, eq_le_terms, last_column, returned_set, unless_dead}
use Rattle.log_encoding.specs.Column.{column, ge_terms, le_terms}
use Rattle.log_encoding.specs.PlainAdder2.{Carry, Signed, SignedColumns, adder_infos, carry_order, column_infos, from_0, greatest, info, least, minus_twice, next_carry, no_carry, plain_adder2, plain_eq_adder, signed_order}
use Rattle.log_encoding.proofs.MinusTwice.{Fits, carry_is, evenly, twice_even, twice_even', twice_max, twice_max'}

-- The same columns for the adder of natural numbers: a literal that counts negative as its negation, one less.
abbrev pub positive_lit : Signed → ℕ
positive_lit s = cond s.negative (neg s.lit) s.lit

-- the ones, column by column and in all
abbrev pub minuses : List Signed → ℕ
minuses [] = 0
minuses (s ∷ ss) = cond s.negative 1 0 + minuses ss

abbrev pub weights : SignedColumns → ℕ
weights [] = 0
weights (c ∷ cols) = minuses c + 2 * weights cols

-- The terms of a column ----------------------------------------------------------------------------------------------

abbrev lowest : Signed → ℤ
lowest s = cond s.negative (negsuc 0) (pos 0)

signed_is : (s : Signed) → signed_order s ≡ evenly (lowest s) (positive_lit s ∷ [])
signed_is s = go s.negative
  where
    go : (m : Bool)
        → cond m
        (record { domain = negsuc 0 ∷ pos 0 ∷ []; lits = neg s.lit ∷ [] })
        (record { domain = pos 0 ∷ pos 1 ∷ []; lits = s.lit ∷ [] })
        ≡ evenly (cond m (negsuc 0) (pos 0)) (cond m (neg s.lit) s.lit ∷ [])
    go true = refl
    go false = refl

module _ (o : OrderEncoding) (low : ℤ) (ls : List ℕ) (e : o ≡ evenly low ls) where
  more_even : Even (info (pos 1) o) (term 1 ls)
  more_even = rw e (even_up low 1 0 ls)

  less_even : Even (info (negsuc 0) o) (term 1 (flip ls))
  less_even = rw e (even_down low 1 0 ls)

  more_max : up (domain_max (info (pos 1) o)) + down low ≡ down (domain_max (info (pos 1) o)) + up low + length ls
  more_max = rw e (omega (arith, max_up low 1 0 ls))

  less_max : up (domain_max (info (negsuc 0) o)) + up low ≡ down (domain_max (info (negsuc 0) o)) + down low
  less_max = rw e (omega (arith, max_down low 1 0 ls))

join : {xs xs' ys ys' : Clauses} → xs ≡ xs' → ys ≡ ys' → xs ++ ys ≡ xs' ++ ys'
join p q = cc

module _ (carry next : Carry) (f : Fits carry) (g : Fits next) where
  ge_even : (own : List Signed) → Evens (column_infos own carry next) (eq_ge_terms (map positive_lit own) carry.lits next.lits)
  ge_even [] = (more_even _ _ _ (carry_is carry f), (twice_even next g, tt))
  ge_even (s ∷ ss) = (more_even _ _ _ (signed_is s), ge_even ss)

  le_even : (own : List Signed) → Evens (map negated (column_infos own carry next)) (eq_le_terms (map positive_lit own) carry.lits next.lits)
  le_even [] = (less_even _ _ _ (carry_is carry f), (twice_even' next g, tt))
  le_even (s ∷ ss) = (less_even _ _ _ (signed_is s), le_even ss)

  lowest_read : (s : Signed) → (up (lowest s) ≡ 0) × (down (lowest s) ≡ cond s.negative 1 0)
  lowest_read s = go s.negative
    where
      go : (m : Bool) → (up (cond m (negsuc 0) (pos 0)) ≡ 0) × (down (cond m (negsuc 0) (pos 0)) ≡ cond m 1 0)
      go true = (refl, refl)
      go false = (refl, refl)

  -- k + own + carry - 2 next, at most
  ge_bound : (own : List Signed) (k : ℤ) → (let bound = upper_bound (column_infos own carry next) k in
      up bound + (down k + minuses own + down carry.low + 2 * up next.low)
      ≡ down bound + (up k + length own + up carry.low + length carry.lits + 2 * down next.low))
  ge_bound [] k =
      let m = domain_max (info (pos 1) (carry_order carry)) in
      let m' = domain_max (info (pos 1) (minus_twice next)) in
      omega (arith, more_max _ _ _ (carry_is carry f), twice_max next g, add_read k m, add_read (k +ℤ m) m')
  ge_bound (s ∷ ss) k =
      let m = domain_max (info (pos 1) (signed_order s)) in
      omega (arith, lowest_read s, more_max _ _ _ (signed_is s), add_read k m, ge_bound ss (k +ℤ m))

  -- k - own - carry + 2 next
  le_bound : (own : List Signed) (k : ℤ) → (let bound = upper_bound (map negated (column_infos own carry next)) k in
      up bound + (down k + up carry.low + 2 * down next.low)
      ≡ down bound + (up k + minuses own + down carry.low + 2 * up next.low + 2 * length next.lits))
  le_bound [] k =
      let m = domain_max (info (negsuc 0) (carry_order carry)) in
      let m' = domain_max (info (negsuc 0) (minus_twice next)) in
      omega (arith, less_max _ _ _ (carry_is carry f), twice_max' next g, add_read k m, add_read (k +ℤ m) m')
  le_bound (s ∷ ss) k =
      let m = domain_max (info (negsuc 0) (signed_order s)) in
      omega (arith, lowest_read s, less_max _ _ _ (signed_is s), add_read k m, le_bound ss (k +ℤ m))

  column_is : (own : List Signed) (k : ℤ) (x y : ℕ)
      → up k + up carry.low + 2 * down next.low + y ≡ down k + down carry.low + minuses own + 2 * up next.low + x
      → encode_eq (column_infos own carry next) k ≡ eq_column (map positive_lit own) carry.lits x next.lits y
  unfolding eq_column
  column_is own k x y e =
      let n = length-map own positive_lit in
      join
      (encode_ge_is (column_infos own carry next) _ (ge_even own) k (x + length (map positive_lit own) + length carry.lits) y
      (omega (arith, ge_bound own k)))
      (encode_ge_is (map negated (column_infos own carry next)) _ (le_even own) (neg_ℤ k) (y + 2 * length next.lits) x
      (omega (arith, le_bound own (neg_ℤ k), neg_reads k)))

below_read : (m : Bool) (z : ℤ) → up (cond m (z -ℤ pos 1) z) + (down z + cond m 1 0) ≡ down (cond m (z -ℤ pos 1) z) + up z
below_read true z = omega (arith, add_read z (negsuc 0))
below_read false z = omega arith

above_read : (m : Bool) (z : ℤ) → up (cond m z (z +ℤ pos 1)) + (down z + cond m 1 0) ≡ down (cond m z (z +ℤ pos 1)) + (up z + 1)
above_read true z = omega arith
above_read false z = omega (arith, add_read z (pos 1))

least_read : (own : List Signed) (low : ℤ) → up (least own low) + (down low + minuses own) ≡ down (least own low) + up low
least_read [] low = omega arith
least_read (s ∷ ss) low = omega (arith, below_read s.negative low, least_read ss (cond s.negative (low -ℤ pos 1) low))

greatest_read : (own : List Signed) (high : ℤ)
    → up (greatest own high) + (down high + minuses own) ≡ down (greatest own high) + (up high + length own)
greatest_read [] high = omega arith
greatest_read (s ∷ ss) high = omega (arith, above_read s.negative high, greatest_read ss (cond s.negative high (high +ℤ pos 1)))

halved : (a b x y : ℕ) → min x y ≡ 0 → 2 * a + y ≡ 2 * b + x + (x + y) % 2 → a + y / 2 ≡ b + (x + 1) / 2
halved a b zero y h e = omega arith
halved a b (suc x) zero h e = omega arith
halved a b (suc x) (suc y) h e = absurd (omega arith)

-- a column whose values reach from l to h, m more; its constant k; the ones of the columns after it; x and y of the natural numbers
module _ (k l h : ℤ) (m rest x y : ℕ) (wide : up h + down l ≡ down h + up l + m) (apart : min x y ≡ 0)
    (sum : up k + up l + y ≡ down k + down l + 2 * rest + x) where
  abbrev low : ℤ
  low = div_ceil (l +ℤ low_bit k)

  abbrev high : ℤ
  high = div_floor (h +ℤ low_bit k)

  low_is : up (low_bit k) + up l + 2 * down low + (x + y) % 2 ≡ down (low_bit k) + down l + 2 * up low
  low_is = omega (arith, ceil_read (l +ℤ low_bit k), add_read l (low_bit k), bit_read k)

  low_next : up (div_floor k) + up low + y / 2 ≡ down (div_floor k) + down low + rest + (x + 1) / 2
  low_next =
      omega (arith, halved (up (div_floor k) + up low) (down (div_floor k) + down low + rest) x y apart (omega (arith, low_is, bit_read k)))

  high_is : (2 * up high + 2 * down low + (x + y) % 2 ≤ 2 * down high + 2 * up low + m)
      × (2 * down high + 2 * up low + m ≤ 2 * up high + 2 * down low + (x + y) % 2 + 1)
  high_is = omega (arith, low_is, floor_read (h +ℤ low_bit k), add_read h (low_bit k))

  alive : lt_z high low ≡ not (leb ((x + y) % 2) m)
  alive = lt_read high low (up high + down low) (down high + up low) (omega arith) ∙ go (leb ((x + y) % 2) m) refl
    where
      go : (b : Bool) → leb ((x + y) % 2) m ≡ b → leb (suc (up high + down low)) (down high + up low) ≡ not b
      go true q = lt-leb (suc (up high + down low)) (down high + up low) (omega (arith, high_is, leb-true ((x + y) % 2) m q))
      go false q = le-leb (suc (up high + down low)) (down high + up low) (omega (arith, high_is, leb-false ((x + y) % 2) m q))

  span : (x + y) % 2 ≤ m → up high + down low ≡ down high + up low + (m - (x + y) % 2) / 2
  span a = omega (arith, high_is)

-- The columns --------------------------------------------------------------------------------------------------------

-- a column but the last, and the adders that go on from it
module _ (own : List Signed) (carry : Carry) (k : ℤ) (v x y rest : ℕ) (fits : Fits carry) (apart : min x y ≡ 0)
    (sum : up k + up carry.low + y ≡ down k + down carry.low + (minuses own + 2 * rest) + x)
    (plain : Carry → ℕ → Adder2Output) (other : List ℕ → ℕ → Adder2Output)
    (ih : (next : Carry) (w : ℕ) → Fits next
    → up (div_floor k) + up next.low + y / 2 ≡ down (div_floor k) + down next.low + rest + (x + 1) / 2
    → plain next w ≡ other next.lits w) where
  abbrev next : Carry
  next = next_carry own carry (low_bit k) v

  abbrev odd : ℕ
  odd = (x + y) % 2

  abbrev size : ℕ
  size = length (map positive_lit own) + length carry.lits

  abbrev l : ℤ
  l = least own carry.low

  abbrev h : ℤ
  h = greatest own carry.high

  width : up h + down l ≡ down h + up l + size
  width = omega (arith, fits, least_read own carry.low, greatest_read own carry.high, length-map own positive_lit)

  left : up k + up l + y ≡ down k + down l + 2 * rest + x
  left = omega (arith, sum, least_read own carry.low)

  abbrev col : List ℕ → ℕ → Adder2Output
  col ls w = column_and_rest ls (eq_column (map positive_lit own) carry.lits 0 ls odd) (other ls w)

  live_is : odd ≤ size → column_and_rest next.lits (encode_eq (column_infos own carry next) (low_bit k)) (plain next (v + length next.lits))
      ≡ col (fresh ((size - odd) / 2) v) (v + (size - odd) / 2)
  live_is a =
      let wide = span k l h size rest x y width apart left a in
      let many : up (next.high -ℤ next.low) ≡ (size - odd) / 2 =
      omega (arith, add_read next.high (neg_ℤ next.low), neg_reads next.low, apart_read (next.high -ℤ next.low)) in
      let lits : length next.lits ≡ (size - odd) / 2 = length_fresh (up (next.high -ℤ next.low)) v ∙ many in
      let fit : Fits next = omega arith in
      let column : encode_eq (column_infos own carry next) (low_bit k) ≡ eq_column (map positive_lit own) carry.lits 0 next.lits odd =
      column_is carry next fits fit own (low_bit k) 0 odd
      (omega (arith, low_is k l h size rest x y width apart left, least_read own carry.low)) in
      let on : plain next (v + length next.lits) ≡ other next.lits (v + length next.lits) =
      ih next (v + length next.lits) fit (low_next k l h size rest x y width apart left) in
      ap (λ cs. column_and_rest next.lits cs (plain next (v + length next.lits))) column
      ∙ ap (λ out. column_and_rest next.lits (eq_column (map positive_lit own) carry.lits 0 next.lits odd) out) on
      ∙ ap (λ n. col next.lits (v + n)) lits
      ∙ ap (λ n. col (fresh n v) (v + (size - odd) / 2)) many

  step_is : cond (lt_z next.high next.low) (dead_end v)
      (column_and_rest next.lits (encode_eq (column_infos own carry next) (low_bit k)) (plain next (v + length next.lits)))
      ≡ unless_dead (column_answer size odd v) v (λ c. col c.lits c.vars)
  step_is = rw (alive k l h size rest x y width apart left) (go (leb odd size) refl)
    where
      go : (b : Bool) → leb odd size ≡ b
          → cond (not b) (dead_end v)
          (column_and_rest next.lits (encode_eq (column_infos own carry next) (low_bit k)) (plain next (v + length next.lits)))
          ≡ unless_dead (cond b (some record { lits = fresh ((size - odd) / 2) v; vars = v + (size - odd) / 2 }) none) v (λ c. col c.lits c.vars)
      go true q = live_is (leb-true odd size q)
      go false q = refl

-- the two adders from a column on, a dead end included
pub plain_adder2_is : (own : List Signed) (cols : SignedColumns) (i : ℕ) (k : ℤ) (carry : Carry) (v x y : ℕ) → Fits carry → min x y ≡ 0
    → up (shift k i) + up carry.low + y ≡ down (shift k i) + down carry.low + weights (own ∷ cols) + x
    → plain_adder2 own cols i k carry v
    ≡ adder2 (eq_columns (map positive_lit own ∷ map (map positive_lit) cols) x y) (last_column (map positive_lit own ∷ map (map positive_lit) cols) x y) carry.lits v
plain_adder2_is own [] i k carry v x y f apart sum =
    ap (λ cs. record { sent = []; returned = some cs; vars = v }) (column_is carry no_carry f refl own (shift k i) x y (omega arith))
plain_adder2_is own (c ∷ cols) i k carry v x y f apart sum =
    step_is own carry (shift k i) v x y (weights (c ∷ cols)) f apart sum
    (λ next w. plain_adder2 c cols (suc i) k next w)
    (λ ls w. adder2 (eq_columns (map positive_lit c ∷ map (map positive_lit) cols) ((x + 1) / 2) (y / 2))
    (last_column (map positive_lit c ∷ map (map positive_lit) cols) ((x + 1) / 2) (y / 2)) ls w)
    (λ next w g s.
    let a = ap up (shift_next k i) in
    let b = ap down (shift_next k i) in
    plain_adder2_is c cols (suc i) k next w ((x + 1) / 2) (y / 2) g (omega arith) (omega arith))

-- the same clauses sent, the same returned and the same variables, for all columns and every constant
pub plain_eq_adder_is : (cols : SignedColumns) (k : ℤ) (v : ℕ)
    → plain_eq_adder cols k v ≡ eq_adder (map (map positive_lit) cols) (up k - (down k + weights cols)) (down k + weights cols - up k) v
plain_eq_adder_is [] (pos zero) v = refl
plain_eq_adder_is [] (pos (suc k)) v = rw (ne_eqb (suc k - 0) (0 - suc k) (omega arith))
plain_eq_adder_is [] (negsuc k) v = rw (ne_eqb (0 - (suc k + 0)) (suc k + 0 - 0) (omega arith))
plain_eq_adder_is (c ∷ cols) k v =
    ap (λ out. record { sent = out.sent; returned = returned_set out.returned; vars = out.vars })
    (plain_adder2_is c cols 0 k no_carry v (up k - (down k + weights (c ∷ cols))) (down k + weights (c ∷ cols) - up k) refl (omega arith)
    (omega (arith, apart_read k, ap up (shift_none k), ap down (shift_none k))))

-- The adder of Ne, Ge and products -----------------------------------------------------------------------------------

bounded_in : (us : List Term) (a b n : ℕ) → b ≤ a → a - b ≡ n → bounded us a b ≡ enumerate us n []
unfolding bounded
bounded_in us a b n h e = rw (le-leb b a h, e)

module _ (carry next : List ℕ) (r : ℕ) where
  column_ge_even : (own : List ℕ) → Evens (adder_infos own carry next r) (ge_terms own carry next r)
  column_ge_even [] = (even_up (pos 0) 1 0 carry, (even_down (pos 0) 1 1 next, (even_down (pos 0) 1 0 (r ∷ []), tt)))
  column_ge_even (l ∷ ls) = (even_up (pos 0) 1 0 (l ∷ []), column_ge_even ls)

  column_le_even : (own : List ℕ) → Evens (map negated (adder_infos own carry next r)) (le_terms own carry next r)
  column_le_even [] = (even_down (pos 0) 1 0 carry, (even_up (pos 0) 1 1 next, (even_up (pos 0) 1 0 (r ∷ []), tt)))
  column_le_even (l ∷ ls) = (even_down (pos 0) 1 0 (l ∷ []), column_le_even ls)

  column_ge_bound : (own : List ℕ) (k : ℤ) → (let bound = upper_bound (adder_infos own carry next r) k in
      up bound + down k ≡ down bound + (up k + length own + length carry))
  column_ge_bound [] k =
      let a = domain_max (info (pos 1) (from_0 carry)) in
      let b = domain_max (info (negsuc 1) (from_0 next)) in
      let c = domain_max (info (negsuc 0) (from_0 (r ∷ []))) in
      omega (
        arith,
        max_up (pos 0) 1 0 carry,
        max_down (pos 0) 1 1 next,
        max_down (pos 0) 1 0 (r ∷ []),
        add_read k a,
        add_read (k +ℤ a) b,
        add_read ((k +ℤ a) +ℤ b) c,
      )
  column_ge_bound (l ∷ ls) k =
      let a = domain_max (info (pos 1) (from_0 (l ∷ []))) in
      omega (arith, max_up (pos 0) 1 0 (l ∷ []), add_read k a, column_ge_bound ls (k +ℤ a))

  column_le_bound : (own : List ℕ) (k : ℤ) → (let bound = upper_bound (map negated (adder_infos own carry next r)) k in
      up bound + down k ≡ down bound + (up k + 2 * length next + 1))
  column_le_bound [] k =
      let a = domain_max (info (negsuc 0) (from_0 carry)) in
      let b = domain_max (info (pos 2) (from_0 next)) in
      let c = domain_max (info (pos 1) (from_0 (r ∷ []))) in
      omega (
        arith,
        max_down (pos 0) 1 0 carry,
        max_up (pos 0) 1 1 next,
        max_up (pos 0) 1 0 (r ∷ []),
        add_read k a,
        add_read (k +ℤ a) b,
        add_read ((k +ℤ a) +ℤ b) c,
      )
  column_le_bound (l ∷ ls) k =
      let a = domain_max (info (negsuc 0) (from_0 (l ∷ []))) in
      omega (arith, max_down (pos 0) 1 0 (l ∷ []), add_read k a, column_le_bound ls (k +ℤ a))

  pub column_plain : (own : List ℕ) (c : ℕ) → c ≤ 1 → encode_eq (adder_infos own carry next r) (pos c) ≡ column own carry c next r
  unfolding column
  column_plain own c h =
      let n = neg_reads (pos c) in
      join
      (encode_ge_is (adder_infos own carry next r) _ (column_ge_even own) (pos c) (c + length own + length carry) 0
      (omega (arith, column_ge_bound own (pos c)))
      ∙ bounded_in (ge_terms own carry next r) (c + length own + length carry) 0 _ (omega arith) (omega arith))
      (encode_ge_is (map negated (adder_infos own carry next r)) _ (column_le_even own) (neg_ℤ (pos c)) (2 * length next + 1) c
      (omega (arith, column_le_bound own (neg_ℤ (pos c))))
      ∙ bounded_in (le_terms own carry next r) (2 * length next + 1) c _ (omega arith) refl)
