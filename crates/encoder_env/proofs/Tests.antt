-- What a test that the code has made says of the definition's own test.
use mathlib.Core.Path.{◌≡◌, ◌∙◌, ap, refl, sym}
use mathlib.Core.Bool.{Bool, ◌&&◌, false, false≢true, not, true}
use Prim.Native.Nat.{◌+◌, ◌<◌, ◌≤◌, suc, zero, ℕ}
use native.Mathlib.Numerals.{add-one}
use native.Mathlib.Omega.{arith}
use lib.Dec.{eqb, leb, ltb}
use lib.ListN.{get_or, length, take}
use mathlib.Core.List.{List}
use Rattle.std.specs.List.{list_all}
use Rattle.std.proofs.lemmas.List.{take_all}
use Rattle.std.proofs.lemmas.List.Folds.{list_all_more}
use lib.IntN.{negsuc, pos, ℤ}
use lib.Signed.{◌≤ℤ◌, le_z, lt_z}
use mir.Syntax.{w32}
use mir.Val.{SFits, of_z, to_z}
use mir.ValLaws.{to_z-of_z}
use borrow.Author.Tests.{eq-eqb, eqb-false, eqb-true, le-leb, leb-true, le-ltb, lt-leb, lt-ltb, ltb-false, ltb-true, ne_eqb, not-false, not-true}
use Rattle.arithmetic.specs.Integers.{down, up}
use Rattle.arithmetic.specs.Offset.{code, offset_of}
use Rattle.arithmetic.proofs.Integers.{apart_read, order_read}
use Rattle.arithmetic.proofs.Offset.{offset_read}
use Rattle.encoder_env.specs.WellFormed.{all_below, bounds_hold, code_fits, eqz, in_range, lez}

leb_ltb : (a b : ℕ) → leb a b ≡ not (ltb b a)
leb_ltb a b = go (ltb b a) refl where
  go : (t : Bool) → ltb b a ≡ t → leb a b ≡ not (ltb b a)
  go true e = rw (e, lt-leb a b (ltb-true b a e))
  go false e = rw (e, le-leb a b (ltb-false b a e))

leZ_ltZ : (a b : ℤ) → le_z a b ≡ not (lt_z b a)
leZ_ltZ (pos a) (pos b) = leb_ltb a b
leZ_ltZ (pos a) (negsuc b) = refl
leZ_ltZ (negsuc a) (pos b) = refl
leZ_ltZ (negsuc a) (negsuc b) = leb_ltb b a

-- the code's test of two i32, of the numbers themselves
tested : {x y : ℤ} {t : Bool} (R : ℤ → ℤ → Bool) → SFits w32 x → SFits w32 y → R (to_z w32 (of_z w32 x)) (to_z w32 (of_z w32 y)) ≡ t → R x y ≡ t
tested {x} {y} R f g h = sym (ap (λ (z : ℤ). R z (to_z w32 (of_z w32 y))) (to_z-of_z w32 x f) ∙ ap (λ (z : ℤ). R x z) (to_z-of_z w32 y g)) ∙ h

pub le_yes : {x y : ℤ} → SFits w32 x → SFits w32 y → lt_z (to_z w32 (of_z w32 y)) (to_z w32 (of_z w32 x)) ≡ false → lez x y ≡ true
unfolding lez
le_yes {x} {y} f g h = rw (leZ_ltZ x y, tested lt_z g f h)

pub le_no : {x y : ℤ} → SFits w32 x → SFits w32 y → lt_z (to_z w32 (of_z w32 y)) (to_z w32 (of_z w32 x)) ≡ true → lez x y ≡ false
unfolding lez
le_no {x} {y} f g h = rw (leZ_ltZ x y, tested lt_z g f h)

pub below_no : {x y : ℤ} → SFits w32 x → SFits w32 y → le_z (to_z w32 (of_z w32 y)) (to_z w32 (of_z w32 x)) ≡ true → lt_z x y ≡ false
below_no {x} {y} f g h = not-true (lt_z x y) (sym (leZ_ltZ y x) ∙ tested le_z g f h)

pub below_yes : {x y : ℤ} → SFits w32 x → SFits w32 y → le_z (to_z w32 (of_z w32 y)) (to_z w32 (of_z w32 x)) ≡ false → lt_z x y ≡ true
below_yes {x} {y} f g h = not-false (lt_z x y) (sym (leZ_ltZ y x) ∙ tested le_z g f h)

-- a number that is below another is not above it
pub lt_lez : (x y : ℤ) → lt_z x y ≡ true → lez x y ≡ true
unfolding lez
lt_lez (pos a) (pos b) h = le-leb a b (omega (arith, ltb-true a b h))
lt_lez (pos a) (negsuc b) h = absurd (false≢true h)
lt_lez (negsuc a) (pos b) h = refl
lt_lez (negsuc a) (negsuc b) h = le-leb b a (omega (arith, ltb-true b a h))

pub eqz_refl : (z : ℤ) → eqz z z ≡ true
unfolding eqz
eqz_refl (pos n) = eq-eqb n n refl
eqz_refl (negsuc n) = eq-eqb n n refl

pub eqz_true : (x y : ℤ) → eqz x y ≡ true → x ≡ y
unfolding eqz
eqz_true (pos a) (pos b) h = ap pos (eqb-true a b h)
eqz_true (pos a) (negsuc b) h = let z : ◌≡◌ {A = Bool} false true = h in cc
eqz_true (negsuc a) (pos b) h = let z : ◌≡◌ {A = Bool} false true = h in cc
eqz_true (negsuc a) (negsuc b) h = ap negsuc (eqb-true a b h)

pub eq_yes : {x y : ℤ} → SFits w32 x → SFits w32 y → of_z w32 x ≡ of_z w32 y → eqz x y ≡ true
eq_yes {x} {y} f g h = let e : x ≡ y = sym (to_z-of_z w32 x f) ∙ ap (to_z w32) h ∙ to_z-of_z w32 y g in rw e (eqz_refl y)

pub eq_no : (x y : ℤ) → (of_z w32 x ≡ of_z w32 y → ⊥) → eqz x y ≡ false
eq_no x y h = go (eqz x y) refl where
  go : (t : Bool) → eqz x y ≡ t → t ≡ false
  go true e = absurd (h (ap (of_z w32) (eqz_true x y e)))
  go false e = refl

pub ruleset signed_tests = (le_yes, le_no, eq_yes, eq_no)

pub ruleset tests = (lt-ltb, le-ltb, lt-leb, le-leb, eq-eqb, ne_eqb)

-- A test of every number below a bound, as a loop finds it -----------------------------------------------------------

and_false : (b : Bool) → (b && false) ≡ false
and_false true = refl
and_false false = refl

module _ (f : ℕ → Bool) where
  pub all_more : (n : ℕ) → all_below n f ≡ true → f n ≡ true → all_below (n + 1) f ≡ true
  unfolding all_below
  all_more n p q = rw (add-one, p, q)

  pub all_fail : (n i : ℕ) → i < n → f i ≡ false → all_below n f ≡ false
  unfolding all_below
  all_fail zero i h e = absurd (omega arith)
  all_fail (suc n) i h e = go (eqb i n) refl (λ k. all_fail n i k e) where
    go : (t : Bool) → eqb i n ≡ t → (i < n → all_below n f ≡ false) → (all_below n f && f n) ≡ false
    go true k r = let p : f n ≡ false = ap f (sym (eqb-true i n k)) ∙ e in rw p (and_false (all_below n f))
    go false k r = let m = eqb-false i n k in rw (r (omega arith))

-- the test of every element of a list
all_taken : {A : Type 0} (f : A → Bool) (xs : List A) (d : A) (n : ℕ) → n ≤ length xs → list_all f (take n xs) ≡ all_below n (λ i. f (get_or xs i d))
unfolding all_below
all_taken f xs d zero h = refl
all_taken {A = A} f xs d (suc n) h =
    let more : list_all f (take (n + 1) xs) ≡ (list_all f (take n xs) && f (get_or xs n d)) = list_all_more f xs n d (omega arith) in
    rw (← add-one, more, all_taken f xs d n (omega arith))

pub all_listed : {A : Type 0} (f : A → Bool) (xs : List A) (d : A) → list_all f xs ≡ all_below (length xs) (λ i. f (get_or xs i d))
all_listed f xs d = ap (list_all f) (sym (take_all (length xs) xs (omega arith))) ∙ all_taken f xs d (length xs) (omega arith)

-- Bounds of a setting ------------------------------------------------------------------------------------------------

pub lez_read : (x y : ℤ) → lez x y ≡ true → up x + down y ≤ up y + down x
unfolding lez
lez_read (pos a) (pos b) h = omega (arith, leb-true a b h)
lez_read (pos a) (negsuc b) h = absurd (false≢true h)
lez_read (negsuc a) (pos b) h = omega arith
lez_read (negsuc a) (negsuc b) h = omega (arith, leb-true b a h)

pub order_lez : (x y : ℤ) → x ≤ℤ y → lez x y ≡ true
unfolding lez
order_lez x y h = go x y ((order_read x y).0 h) where
  go : (x y : ℤ) → up x + down y ≤ up y + down x → le_z x y ≡ true
  go (pos a) (pos b) k = le-leb a b (omega arith)
  go (pos a) (negsuc b) k = absurd (omega arith)
  go (negsuc a) (pos b) k = refl
  go (negsuc a) (negsuc b) k = le-leb b a (omega arith)

-- what `code` asks, of the offset and high
pub record Coded (offset high : ℤ) : Type 0 where
  pub above : offset ≤ℤ high
  pub high_small : up high < 1073741824
  pub offset_small : down offset < 1073741824

pub both : (a b : Bool) → (a && b) ≡ true → (a ≡ true) × (b ≡ true)
both true b h = (refl, h)
both false b h = absurd (false≢true h)

pub both_l : (a b : Bool) → (a && b) ≡ true → a ≡ true
both_l a b h = (both a b h).0

pub both_r : (a b : Bool) → (a && b) ≡ true → b ≡ true
both_r a b h = (both a b h).1

-- the tests that the bounds of a setting are made of
pub bounds_parts : (low high : ℤ) → bounds_hold low high ≡ true → (in_range low ≡ true) × (in_range high ≡ true) × (lez low high ≡ true) × (code_fits low high ≡ true)
unfolding bounds_hold
bounds_parts low high h =
    let p = both (in_range low && in_range high && lez low high) (code_fits low high) h in
    let q = both (in_range low && in_range high) (lez low high) p.0 in
    let r = both (in_range low) (in_range high) q.0 in
    (r.0, r.1, q.1, p.1)

pub coded : (low high : ℤ) → in_range low ≡ true → in_range high ≡ true → lez low high ≡ true → Coded (offset_of low) high
coded low high a b c =
    let p = lez_read (negsuc 4094) low (both_l (lez (negsuc 4094) low) (lez low (pos 4095)) a) in
    let q = lez_read low high c in
    let r = lez_read high (pos 4095) (both_r (lez (negsuc 4094) high) (lez high (pos 4095)) b) in
    let o = offset_read low in
    record {
      above = (order_read (offset_of low) high).1 (omega (arith, p, q, r, o, apart_read low, apart_read high));
      high_small = omega (arith, p, q, r, apart_read high);
      offset_small = omega (arith, p, o, apart_read low);
    }

pub bounds_coded : (low high : ℤ) → bounds_hold low high ≡ true → Coded (offset_of low) high
bounds_coded low high h = let p = bounds_parts low high h in coded low high p.0 p.1 p.2

-- what the bounds of a setting say
pub record Bounds (low high : ℤ) : Type 0 where
  pub ordered : low ≤ℤ high
  pub low_max : down low ≤ 4095
  pub code_max : code (offset_of low) high ≤ 4095

pub bounds_known : (low high : ℤ) → bounds_hold low high ≡ true → Bounds low high
bounds_known low high h =
    let p = bounds_parts low high h in
    record {
      ordered = (order_read low high).1 (lez_read low high p.2);
      low_max = omega (arith, lez_read (negsuc 4094) low (both_l (lez (negsuc 4094) low) (lez low (pos 4095)) p.0), apart_read low);
      code_max = leb-true (code (offset_of low) high) 4095 p.3;
    }
