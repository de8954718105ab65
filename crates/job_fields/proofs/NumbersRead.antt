-- Laws of numbers of several bytes, and of numbers put one after the other into the first entries of an array.
use Prim.Native.Nat.{◌*◌, ◌+◌, ◌-◌, ◌/◌, ◌<◌, ◌≤◌, suc, zero, ℕ}
use native.Mathlib.Omega.{arith}
use native.Mathlib.Numerals.{add-one}
use mathlib.Core.Path.{◌∙◌, ◌≡◌, ap, refl, sym}
use mathlib.Core.List.{List, [], ◌++◌, ◌∷◌, append_assoc, append-nil}
use lib.IntN.{◌-ℤ◌, negsuc, pos, ℤ}
use lib.ListN.{drop, get_or, length, length-drop, length-set, set, take}
use lib.Seq.{drop-cons, take-suc-set}
use borrow.Author.Tests.{le-ltb, lt-ltb, ltb-false, ltb-true}
use mathlib.Core.Bool.{Bool, false, true}
use lib.Dec.{ltb}
use mir.Val.{sel}
use Rattle.job_fields.specs.Numbers.{signed, signed_word, terms, values, word_at}

-- −1 − k
below_zero : (k : ℕ) → negsuc 0 -ℤ pos k ≡ negsuc k
below_zero zero = refl
below_zero (suc k) = ap negsuc (omega arith)

signed_low : (half n : ℕ) → n < half → pos n ≡ signed half n
unfolding signed
signed_low half n h = rw (lt-ltb n half h)

signed_high : (half n : ℕ) → half ≤ n → n < 2 * half → negsuc 0 -ℤ pos (half - 1 - (n - half)) ≡ signed half n
unfolding signed
signed_high half n h g =
    let e : 2 * half ≡ suc (2 * half - 1) = omega arith in
    let f : half - 1 - (n - half) ≡ 2 * half - suc n = omega arith in
    let t : n < suc (2 * half - 1) = omega arith in
    rw (below_zero (half - 1 - (n - half)), le-ltb n half h, f, e) (rw (lt-ltb n (suc (2 * half - 1)) t) refl)

-- the bits of a two's complement
pub bits_signed : (half n : ℕ) → n < 2 * half → sel (ltb n half) (pos n) (negsuc (2 * half - suc n)) ≡ signed half n
bits_signed half n h = go (ltb n half) refl
  where
    go : (t : Bool) → ltb n half ≡ t → sel t (pos n) (negsuc (2 * half - suc n)) ≡ signed half n
    go true e = signed_low half n (ltb-true n half e)
    go false e =
        let k : half ≤ n = ltb-false n half e in
        let m : 2 * half - suc n ≡ half - 1 - (n - half) = omega arith in
        ap negsuc m ∙ sym (below_zero (half - 1 - (n - half))) ∙ signed_high half n k h

pub values_length : (s : List ℕ) → length (values s) ≡ length s / 2
unfolding values
values_length [] = refl
values_length (a ∷ []) = refl
values_length (a ∷ b ∷ s) = omega (arith, values_length s)

pub terms_length : (s : List ℕ) → length (terms s) ≡ 2 * (length s / 3)
unfolding terms
terms_length [] = refl
terms_length (x ∷ []) = refl
terms_length (x ∷ a ∷ []) = refl
terms_length (x ∷ a ∷ b ∷ s) = omega (arith, terms_length s)

-- Numbers put into an array ----------------------------------------------------------------------------------------------

-- of all numbers, the first k are the first entries of xs, and these are left
pub record Putting (all : List ℤ) (m k : ℕ) (rest xs : List ℤ) : Type 0 where
  pub long : length xs ≡ m
  pub are : take k xs ++ rest ≡ all

module _ {all : List ℤ} {m : ℕ} where
  pub putting_none : (xs : List ℤ) → length xs ≡ m → Putting all m 0 all xs
  putting_none xs e = record { long = e; are = refl }

  pub putting_more : (k : ℕ) (z : ℤ) {rest xs : List ℤ} → k < m → Putting all m k (z ∷ rest) xs → Putting all m (k + 1) rest (set xs k z)
  putting_more k z {rest} {xs} h p =
      let l : k < length xs = omega (arith, p.long) in
      record {
        long = length-set xs k z ∙ p.long;
        are = rw (add-one k, take-suc-set xs k z l) (append_assoc (take k xs) (z ∷ []) rest ∙ p.are);
      }

  pub putting_end : {k : ℕ} {xs : List ℤ} → Putting all m k [] xs → take k xs ≡ all
  putting_end {k} {xs} p = sym (append-nil (take k xs)) ∙ p.are

module _ (s : List ℕ) (i : ℕ) where
  pub values_more : i < length s / 2 → values (drop (2 * i) s) ≡ signed_word s (2 * i) ∷ values (drop (2 * (i + 1)) s)
  unfolding values signed_word word_at
  values_more h =
      let a : 2 * i < length s = omega arith in
      let b : suc (2 * i) < length s = omega arith in
      let e : 2 * i + 1 ≡ suc (2 * i) = omega arith in
      let f : 2 * (i + 1) ≡ suc (suc (2 * i)) = omega arith in
      rw (drop-cons s (2 * i) 0 a, drop-cons s (suc (2 * i)) 0 b, e, f)

  pub values_end : length s / 2 ≤ i → values (drop (2 * i) s) ≡ []
  unfolding values
  values_end h = short (drop (2 * i) s) (rw length-drop (omega arith))
    where
      short : (t : List ℕ) → length t ≤ 1 → values t ≡ []
      short [] g = refl
      short (a ∷ []) g = refl
      short (a ∷ b ∷ t) g = absurd (omega arith)

  pub terms_more : i < length s / 3
      → terms (drop (3 * i) s) ≡ pos (get_or s (3 * i) 0) ∷ signed_word s (3 * i + 1) ∷ terms (drop (3 * (i + 1)) s)
  unfolding terms signed_word word_at
  terms_more h =
      let a : 3 * i < length s = omega arith in
      let b : suc (3 * i) < length s = omega arith in
      let c : suc (suc (3 * i)) < length s = omega arith in
      let e : 3 * i + 1 ≡ suc (3 * i) = omega arith in
      let g : suc (3 * i) + 1 ≡ suc (suc (3 * i)) = omega arith in
      let f : 3 * (i + 1) ≡ suc (suc (suc (3 * i))) = omega arith in
      rw (drop-cons s (3 * i) 0 a, drop-cons s (suc (3 * i)) 0 b, drop-cons s (suc (suc (3 * i))) 0 c, e, g, f)

  pub terms_end : length s / 3 ≤ i → terms (drop (3 * i) s) ≡ []
  unfolding terms
  terms_end h = short (drop (3 * i) s) (rw length-drop (omega arith))
    where
      short : (t : List ℕ) → length t ≤ 2 → terms t ≡ []
      short [] g = refl
      short (x ∷ []) g = refl
      short (x ∷ a ∷ []) g = refl
      short (x ∷ a ∷ b ∷ t) g = absurd (omega arith)
