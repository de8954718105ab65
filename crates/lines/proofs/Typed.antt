-- What `number_at` and `number_list` answer at each type that a call takes.
use Rattle.std.proofs.Common.{ℕ, zero, suc, ◌<◌, ◌≡◌, Bool, true, false, cond, List, [], ◌∷◌, map, ℤ, pos, negsuc, length, get_or, leb, ltb, Option, Some, None, Result, Ok, Err, OkIff, refl, sym, ap, ◌∙◌, arith, unsigned_abs, FitsSigned, w32, lt-ltb, le-ltb, le-leb, ltb-true, ltb-false}
use Rattle.std.proofs.lemmas.Bool.{lt-leb}
use Rattle.std.proofs.lemmas.Option.{slice_get-get_or, slice_get_past}
use Rattle.std.specs.Int.{FitsUnsignedBits}
use Rattle.std.specs.Result.{result_ok}
use mathlib.Core.Logic.{⊎_elim}
use Rattle.lines.specs.Fitting.{AllConverted, ListOf, Listed, NumberAt, all_of, is_i32, is_u8, itself, signed_at, signed_of, unsigned_at, unsigned_of}
use Rattle.lines.proofs.Steps.{and_false}

-- What a conversion to each type gives ---------------------------------------------------------------------------------

module _ (E : Type 0) where
  abbrev pub gives_u32 : ℤ → Result ℕ E → Type 0
  gives_u32 z r = OkIff r (FitsUnsignedBits 32 z) (unsigned_abs z)

  abbrev pub gives_u8 : ℤ → Result ℕ E → Type 0
  gives_u8 z r = OkIff r (FitsUnsignedBits 8 z) (unsigned_abs z)

  abbrev pub gives_i32 : ℤ → Result ℤ E → Type 0
  gives_i32 z r = OkIff r (FitsSigned w32 z) z

  u32_given : (z : ℤ) (t : Result ℕ E) → gives_u32 z t → result_ok t ≡ unsigned_of z
  unfolding unsigned_of
  u32_given (pos n) (Ok x) g = rw (lt-ltb n 4294967296 (omega (arith, g.0))) (ap Some g.1)
  u32_given (pos n) (Err e) g = rw (le-ltb n 4294967296 (omega (arith, g)))
  u32_given (negsuc n) (Ok x) g = absurd g.0
  u32_given (negsuc n) (Err e) g = refl

  i32_given : (z : ℤ) (t : Result ℤ E) → gives_i32 z t → result_ok t ≡ signed_of z
  unfolding signed_of
  i32_given (pos n) (Ok x) g = rw (lt-ltb n 2147483648 g.0.sfits) (ap Some g.1)
  i32_given (pos n) (Err e) g = let h : n < 2147483648 → ⊥ = λ l. g (record { sfits = l }) in rw (le-ltb n 2147483648 (omega (arith, h)))
  i32_given (negsuc n) (Ok x) g = rw (lt-ltb n 2147483648 g.0.sfits) (ap Some g.1)
  i32_given (negsuc n) (Err e) g = let h : n < 2147483648 → ⊥ = λ l. g (record { sfits = l }) in rw (le-ltb n 2147483648 (omega (arith, h)))

  i32_fits : (z x : ℤ) → gives_i32 z (Ok x) → (is_i32 z ≡ true) × (itself x ≡ z)
  unfolding is_i32
  i32_fits (pos n) x g = (lt-ltb n 2147483648 g.0.sfits, g.1)
  i32_fits (negsuc n) x g = (lt-ltb n 2147483648 g.0.sfits, g.1)

  i32_not : (z : ℤ) (e : E) → gives_i32 z (Err e) → is_i32 z ≡ false
  unfolding is_i32
  i32_not (pos n) e g = let h : n < 2147483648 → ⊥ = λ l. g (record { sfits = l }) in le-ltb n 2147483648 (omega (arith, h))
  i32_not (negsuc n) e g = let h : n < 2147483648 → ⊥ = λ l. g (record { sfits = l }) in le-ltb n 2147483648 (omega (arith, h))

  u8_fits : (z : ℤ) (x : ℕ) → gives_u8 z (Ok x) → (is_u8 z ≡ true) × (pos x ≡ z)
  unfolding is_u8
  u8_fits (pos n) x g = (lt-ltb n 256 (omega (arith, g.0)), ap pos g.1)
  u8_fits (negsuc n) x g = absurd g.0

  u8_not : (z : ℤ) (e : E) → gives_u8 z (Err e) → is_u8 z ≡ false
  unfolding is_u8
  u8_not (pos n) e g = le-ltb n 256 (omega (arith, g))
  u8_not (negsuc n) e g = refl

-- A number of a line ---------------------------------------------------------------------------------------------------

known : {A E : Type 0} (gives : ℤ → Result A E → Type 0) (of : ℤ → Option A) → ((z : ℤ) (t : Result A E) → gives z t → result_ok t ≡ of z)
    → (nums : List ℤ) (k : ℕ) (r : Option A) → NumberAt gives nums k r → r ≡ cond (ltb k (length nums)) (of (get_or nums k (pos 0))) None
known gives of given nums k r h = by (ltb k (length nums)) refl
  where
    by : (t : Bool) → ltb k (length nums) ≡ t → r ≡ cond t (of (get_or nums k (pos 0))) None
    by true e =
        let p = rw (slice_get-get_or nums k (pos 0) (ltb-true k (length nums) e)) at h in
        p.2 ∙ given (get_or nums k (pos 0)) p.0 p.1
    by false e = rw (slice_get_past nums k (ltb-false k (length nums) e)) at h

-- THE THEOREMS on numbers: the number as a u32, and as an i32
pub unsigned_known : (E : Type 0) (nums : List ℤ) (k : ℕ) (r : Option ℕ) → NumberAt (gives_u32 E) nums k r → r ≡ unsigned_at nums k
unsigned_known E nums k r h = known (gives_u32 E) unsigned_of (u32_given E) nums k r h

pub signed_known : (E : Type 0) (nums : List ℤ) (k : ℕ) (r : Option ℤ) → NumberAt (gives_i32 E) nums k r → r ≡ signed_at nums k
signed_known E nums k r h = known (gives_i32 E) signed_of (i32_given E) nums k r h

-- The list of a line ---------------------------------------------------------------------------------------------------

module _ {A E : Type 0} (gives : ℤ → Result A E → Type 0) (f : ℤ → Bool) (as-integer : A → ℤ)
    (fits : (z : ℤ) (x : A) → gives z (Ok x) → (f z ≡ true) × (as-integer x ≡ z)) (not_fits : (z : ℤ) (e : E) → gives z (Err e) → f z ≡ false) where
  all_fit : (zs : List ℤ) (xs : List A) → AllConverted gives zs xs → (all_of f zs ≡ true) × (map as-integer xs ≡ zs)
  unfolding AllConverted all_of
  all_fit [] [] a = (refl, refl)
  all_fit [] (x ∷ xs) a = absurd a
  all_fit (z ∷ zs) [] a = absurd a
  all_fit (z ∷ zs) (x ∷ xs) a =
      let p = fits z x a.0 in
      let q = all_fit zs xs a.1 in
      (rw (p.0, q.0), rw (p.1, q.1))

  one_not : (zs : List ℤ) (k : ℕ) → k < length zs → f (get_or zs k (pos 0)) ≡ false → all_of f zs ≡ false
  unfolding all_of
  one_not [] k h e = absurd (omega (arith, h))
  one_not (z ∷ zs) zero h e = rw e
  one_not (z ∷ zs) (suc k) h e = rw (one_not zs k (omega (arith, h)) e) (and_false (f z))

  listed : {R : Type 0} (entries : R → List A) (nums : List ℤ) (room : ℕ) (r : Option R) → ListOf gives entries nums room r → Listed f as-integer entries nums room r
  listed entries nums room (Some s) h =
      let q = all_fit nums (entries s) h.1 in
      record { fit = rw (le-leb (length nums) room h.0, q.0); are = q.1 }
  listed entries nums room None h = record {
    fit = ⊎_elim
        (λ l. rw (lt-leb (length nums) room l))
        (λ p. rw (one_not nums p.0 p.2 (not_fits _ p.1 p.3)) (sym (and_false (leb (length nums) room))))
        h;
    are = tt;
  }

-- THE THEOREMS on lists: the numbers as i32, and as u8
pub signed_listed : (E : Type 0) {R : Type 0} (entries : R → List ℤ) (nums : List ℤ) (room : ℕ) (r : Option R) → ListOf (gives_i32 E) entries nums room r
    → Listed is_i32 itself entries nums room r
signed_listed E entries nums room r h = listed (gives_i32 E) is_i32 itself (i32_fits E) (i32_not E) entries nums room r h

pub bytes_listed : (E : Type 0) {R : Type 0} (entries : R → List ℕ) (nums : List ℤ) (room : ℕ) (r : Option R) → ListOf (gives_u8 E) entries nums room r
    → Listed is_u8 pos entries nums room r
bytes_listed E entries nums room r h = listed (gives_u8 E) is_u8 pos (u8_fits E) (u8_not E) entries nums room r h
