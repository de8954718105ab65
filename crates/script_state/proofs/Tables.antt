-- Arrays filled from the front, and the places of a job's numbers.
use Prim.Native.Nat.{ℕ, ◌+◌, ◌-◌, ◌%◌, ◌≤◌, ◌<◌}
use native.Mathlib.Omega.{arith}
use native.Mathlib.Numerals.{add-one}
use mathlib.Core.Path.{◌≡◌, refl, sym, ap, ◌∙◌}
use mathlib.Core.Bool.{Bool, true, false}
use mathlib.Core.List.{List}
use lib.Dec.{leb, ltb}
use lib.IntN.{ℤ}
use lib.ListN.{length, set, take, length-set}
use lib.Seq.{take-length, take-suc-set}
use borrow.Author.Tests.{le-leb, lt-leb, eq-eqb, ne_eqb}
use Rattle.std.proofs.Common.{Option, is_some, unwrap_or, pos, w32, to_z, of_z}
use Rattle.std.proofs.lemmas.Int.{to_z-of_z}
use lib.Signed.{mag}
use Rattle.std.specs.declared.num.TryFromIntError.{TryFromIntError}
use Rattle.lines.specs.Fitting.{NumberAt}
use Rattle.lines.proofs.Typed.{gives_i32, gives_u32, signed_known, unsigned_known}
use Rattle.encoder_env.specs.declared.EncoderEnv.{EncoderEnv}
use Rattle.encoder_env.specs.WellFormed.{all_below}
use Rattle.script_state.specs.Job.{fits, is_job, job_of, lits_from, record_from, records_from, signed_or_0, signed_place, table, unsigned_or_0}
use Rattle.sat.specs.declared.Lit.{Lit}
use Rattle.log_var.specs.declared.LogEncoding.{LogEncoding}

-- n entries of xs, of which the first k are those of the table of f
pub record Filling {A : Type 0} (n : ℕ) (f : ℕ → A) (xs : List A) (k : ℕ) : Type 0 where
  pub long : length xs ≡ n
  pub within : k ≤ n
  pub are : take k xs ≡ table k f

module _ {A : Type 0} (n : ℕ) (f : ℕ → A) where
  pub filling_none : (xs : List A) → length xs ≡ n → Filling n f xs 0
  unfolding table
  filling_none xs e = record { long = e; within = omega arith; are = refl }

  pub filling_more : {xs : List A} {k : ℕ} (a : A) → Filling n f xs k → k < n → a ≡ f k → Filling n f (set xs k a) (k + 1)
  unfolding table
  filling_more {xs} {k} a t h e =
      let l : k < length xs = omega (arith, t.long) in
      record {
        long = length-set xs k a ∙ t.long;
        within = omega arith;
        are = rw (add-one k, take-suc-set xs k a l, t.are, e);
      }

  pub filling_end : {xs : List A} {k : ℕ} → Filling n f xs k → n ≤ k → xs ≡ table n f
  filling_end {xs} {k} t h =
      let e : k ≡ n = omega (arith, t.within) in
      let q : take n xs ≡ table n f = rw e at t.are in
      sym (take-length xs) ∙ (rw t.long q)

-- The numbers as the code reads them ----------------------------------------------------------------------------------

pub unsigned_read : (nums : List ℤ) (k : ℕ) (r : Option ℕ) {x : ℕ} → NumberAt (gives_u32 TryFromIntError) nums k r → x ≡ unwrap_or r 0 → x ≡ unsigned_or_0 nums k
unsigned_read nums k r h e = e ∙ ap (λ (o : Option ℕ). unwrap_or o 0) (unsigned_known TryFromIntError nums k r h)

-- and as it goes into a record
pub signed_read : (nums : List ℤ) (k : ℕ) (r : Option ℤ) {x : ℤ} → NumberAt (gives_i32 TryFromIntError) nums k r → x ≡ unwrap_or r (pos 0) → mag x < 2147483648
    → to_z w32 (of_z w32 x) ≡ signed_or_0 nums k
signed_read nums k r {x} h e small =
    to_z-of_z w32 x (record { sfits = small }) ∙ e ∙ ap (λ (o : Option ℤ). unwrap_or o (pos 0)) (signed_known TryFromIntError nums k r h)

-- The places of a job's numbers ------------------------------------------------------------------------------------------

pub place_count : (k : ℕ) → k < 5 → leb 5 k ≡ signed_place k
unfolding signed_place
place_count k h = rw (lt-leb 5 k h)

pub place_record : (k : ℕ) → 5 ≤ k → ltb 12 ((k - 5) % 16) ≡ signed_place k
unfolding signed_place
place_record k h = rw (le-leb 5 k h)

pub fits_signed : (nums : List ℤ) (k : ℕ) (r : Option ℤ) → signed_place k ≡ true → NumberAt (gives_i32 TryFromIntError) nums k r → is_some r ≡ fits nums k
unfolding fits
fits_signed nums k r e q = rw e (ap is_some (signed_known TryFromIntError nums k r q))

pub fits_unsigned : (nums : List ℤ) (k : ℕ) (r : Option ℕ) → signed_place k ≡ false → NumberAt (gives_u32 TryFromIntError) nums k r → is_some r ≡ fits nums k
unfolding fits
fits_unsigned nums k r e q = rw e (ap is_some (unsigned_known TryFromIntError nums k r q))

pub job_short : (nums : List ℤ) → (length nums ≡ 517 → ⊥) → false ≡ is_job nums
unfolding is_job
job_short nums h = rw (ne_eqb (length nums) 517 h)

pub job_tested : (nums : List ℤ) {t : Bool} → length nums ≡ 517 → all_below 517 (fits nums) ≡ t → t ≡ is_job nums
unfolding is_job
job_tested nums e q = sym (rw (eq-eqb (length nums) 517 e) q)

pub record_made : (nums : List ℤ) (at : ℕ) {lits : List Lit} {len : ℕ} {low high offset : ℤ} → lits ≡ lits_from nums at
    → len ≡ unsigned_or_0 nums (at + 12) → low ≡ signed_or_0 nums (at + 13) → high ≡ signed_or_0 nums (at + 14) → offset ≡ signed_or_0 nums (at + 15)
    → ◌≡◌ {A = LogEncoding} (record { lits = lits; len = len; low = low; high = high; offset = offset }) (record_from nums at)
unfolding record_from
record_made nums at e n l h o = rw (e, n, l, h, o)

pub job_made : (nums : List ℤ) {s v c l n : ℕ} {es : List LogEncoding} → es ≡ records_from nums → s ≡ unsigned_or_0 nums 0
    → v ≡ unsigned_or_0 nums 1 → c ≡ unsigned_or_0 nums 2 → l ≡ unsigned_or_0 nums 3 → n ≡ unsigned_or_0 nums 4
    → ◌≡◌ {A = EncoderEnv} (record { switches = s; variables = v; clauses = c; literals = l; count = n; encodings = es }) (job_of nums)
unfolding job_of
job_made nums e s v c l n = rw (e, s, v, c, l, n)
