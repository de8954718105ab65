-- What the code reads at a place is the first field of the bytes from there on.
use Prim.Native.Nat.{◌+◌, ◌-◌, ◌<◌, ◌≤◌, suc, zero, ℕ}
use native.Mathlib.Omega.{arith}
use mathlib.Core.Path.{◌≡◌, ap, refl, sym}
use mathlib.Core.Bool.{Bool, cond, false, not, true, true≢false}
use mathlib.Core.List.{List, [], ◌∷◌}
use lib.Dec.{eqb, leb, ltb}
use lib.ListN.{drop, drop_of_length-le, get_or, length, length-drop, take}
use lib.Seq.{drop-cons, drop-drop}
use borrow.Author.Tests.{eqb-true, le-leb, le-ltb, leb-false, leb-true, lt-leb, lt-ltb, ltb-false, ltb-true, ne_eqb}
use Rattle.job_fields.specs.Numbers.{word_at}
use Rattle.job_fields.specs.Fields.{broken, fields, right_length, right_place}
use Rattle.job_fields.specs.Places.{Broken, Contents, End, field_at, fields_from}

-- What the code's tests come to ------------------------------------------------------------------------------------------

module _ (s : List ℕ) (at : ℕ) where
  pub at_end : length s ≤ at → End ≡ field_at s at
  unfolding field_at
  at_end h = rw (le-ltb at (length s) h)

  pub head_broken : at < length s → length s - at < 3 → Broken ≡ field_at s at
  unfolding field_at
  head_broken h g = rw (lt-ltb at (length s) h, lt-leb 3 (length s - at) g)

  pub contents_broken : {n : ℕ} → at < length s → 3 ≤ length s - at → n ≡ word_at s (at + 1) → length s - (at + 3) < n → Broken ≡ field_at s at
  unfolding field_at
  contents_broken {n} h g e k = rw (lt-ltb at (length s) h, le-leb 3 (length s - at) g, ← e, lt-leb n (length s - (at + 3)) k)

  pub field_whole : {n : ℕ} → at < length s → 3 ≤ length s - at → n ≡ word_at s (at + 1) → n ≤ length s - (at + 3)
      → Contents (get_or s at 0) (take n (drop (at + 3) s)) (at + 3 + n) ≡ field_at s at
  unfolding field_at
  field_whole {n} h g e k = rw (lt-ltb at (length s) h, le-leb 3 (length s - at) g, ← e, le-leb n (length s - (at + 3)) k)

-- at a tag that is a numeral, `right_length` computes
pub at_tag : (t k n : ℕ) → t ≡ k → right_length k n ≡ right_length t n
at_tag t k n e = rw e

pub no_tag : (t n : ℕ) → (t ≡ 1 → ⊥) → (t ≡ 2 → ⊥) → (t ≡ 3 → ⊥) → (t ≡ 4 → ⊥) → (t ≡ 5 → ⊥) → (t ≡ 6 → ⊥) → false ≡ right_length t n
unfolding right_length
no_tag t n a b c d e f = rw (ne_eqb t 1 a, ne_eqb t 2 b, ne_eqb t 3 c, ne_eqb t 4 d, ne_eqb t 5 e, ne_eqb t 6 f)

-- a tag of a right length that is none of 01 to 05 is 06
pub tag_6 : (t n : ℕ) → (t ≡ 1 → ⊥) → (t ≡ 2 → ⊥) → (t ≡ 3 → ⊥) → (t ≡ 4 → ⊥) → (t ≡ 5 → ⊥) → right_length t n ≡ true → (t ≡ 6) × (n ≡ 3)
unfolding right_length
tag_6 t n a b c d e h = go (eqb t 6) refl (rw (ne_eqb t 1 a, ne_eqb t 2 b, ne_eqb t 3 c, ne_eqb t 4 d, ne_eqb t 5 e) at h)
  where
    go : (x : Bool) → eqb t 6 ≡ x → cond x (eqb n 3) false ≡ true → (t ≡ 6) × (n ≡ 3)
    go true p g = (eqb-true t 6 p, eqb-true n 3 g)
    go false p g = absurd (true≢false (sym g))

pub first_place : (i t : ℕ) → i ≡ 0 → eqb t 1 ≡ right_place i t
unfolding right_place
first_place i t h = rw h

pub later_place : (i t : ℕ) → (i ≡ 0 → ⊥) → not (eqb t 1) ≡ right_place i t
unfolding right_place
later_place i t h = rw (ne_eqb i 0 h)

-- Places and bytes -------------------------------------------------------------------------------------------------------

three : (s : List ℕ) (at : ℕ) → 3 ≤ length s - at → drop at s ≡ get_or s at 0 ∷ get_or s (at + 1) 0 ∷ get_or s (at + 1 + 1) 0 ∷ drop (at + 3) s
three s at h =
    let a : at < length s = omega arith in
    let b : suc at < length s = omega arith in
    let c : suc (suc at) < length s = omega arith in
    let e1 : at + 1 ≡ suc at = omega arith in
    let e2 : suc at + 1 ≡ suc (suc at) = omega arith in
    let e3 : at + 3 ≡ suc (suc (suc at)) = omega arith in
    rw (e1, e2, e3, drop-cons s at 0 a, drop-cons s (suc at) 0 b, drop-cons s (suc (suc at)) 0 c)

short : (n : ℕ) (l : List ℕ) → 0 < length l → length l < 3 → fields (suc n) l ≡ broken ∷ []
unfolding fields
short n [] h g = absurd (omega arith)
short n (t ∷ []) h g = refl
short n (t ∷ u ∷ []) h g = refl
short n (t ∷ u ∷ v ∷ l) h g = absurd (omega arith)

pub first_field : (n : ℕ) (s : List ℕ) (at : ℕ) → fields (suc n) (drop at s) ≡ fields_from n s (field_at s at)
unfolding fields field_at word_at
first_field n s at = go (ltb at (length s)) refl (leb 3 (length s - at)) refl (leb (word_at s (at + 1)) (length s - (at + 3))) refl
  where
    go : (x : Bool) → ltb at (length s) ≡ x → (y : Bool) → leb 3 (length s - at) ≡ y
        → (z : Bool) → leb (word_at s (at + 1)) (length s - (at + 3)) ≡ z → fields (suc n) (drop at s) ≡ fields_from n s (field_at s at)
    go false p y q z r = rw (p, drop_of_length-le s (ltb-false at (length s) p))
    go true p false q z r =
        let a = ltb-true at (length s) p in
        let b = leb-false 3 (length s - at) q in
        rw (p, q) (short n (drop at s) (rw length-drop (omega (arith, a))) (rw length-drop (omega (arith, b))))
    go true p true q true r =
        rw (p, q, r, three s at (leb-true 3 (length s - at) q), length-drop (at + 3) s, r) (rw drop-drop)
    go true p true q false r = rw (p, q, r, three s at (leb-true 3 (length s - at) q), length-drop (at + 3) s, r)

-- the same, where n is enough for the bytes left
pub fields_at : (n : ℕ) (s : List ℕ) (at : ℕ) → length s - at ≤ n → fields n (drop at s) ≡ fields_from (n - 1) s (field_at s at)
unfolding fields
fields_at zero s at h = ap (fields_from 0 s) (at_end s at (omega arith))
fields_at (suc n) s at h = let e : suc n - 1 ≡ n = omega arith in rw e (first_field n s at)

-- where a field's contents lie
pub record Within (s : List ℕ) (at end : ℕ) : Type 0 where
  pub from : at + 3 ≤ end
  pub inside : end ≤ length s

pub field_within : (s : List ℕ) (at tag : ℕ) (contents : List ℕ) (end : ℕ) → field_at s at ≡ Contents tag contents end → Within s at end
unfolding field_at
field_within s at tag contents end e = go (ltb at (length s)) refl (leb 3 (length s - at)) refl (leb (word_at s (at + 1)) (length s - (at + 3))) refl
  where
    go : (x : Bool) → ltb at (length s) ≡ x → (y : Bool) → leb 3 (length s - at) ≡ y → (z : Bool) → leb (word_at s (at + 1)) (length s - (at + 3)) ≡ z → Within s at end
    go false p y q z r = let f = rw p at e in cc
    go true p false q z r = let f = rw (p, q) at e in cc
    go true p true q false r = let f = rw (p, q, r) at e in cc
    go true p true q true r =
        let f = rw (p, q, r) at e in
        let en : at + 3 + word_at s (at + 1) ≡ end = cc in
        let l1 = ltb-true at (length s) p in
        let l2 = leb-true 3 (length s - at) q in
        let l3 = leb-true (word_at s (at + 1)) (length s - (at + 3)) r in
        record { from = omega arith; inside = omega arith }
