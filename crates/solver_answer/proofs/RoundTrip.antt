-- Reading the print of an assignment yields the same bytes.
use Prim.Native.Nat.{◌+◌, ◌<◌, ◌≤◌, suc, zero, ℕ}
use borrow.Author.Tests.{eq-eqb, le-leb, ne_eqb}
use lib.Dec.{eqb, leb}
use lib.ListN.{length}
use mathlib.Core.Bool.{◌||◌, cond, false, not, true}
use mathlib.Core.List.{List, [], ◌++◌, ◌∷◌, append_assoc, append-nil}
use mathlib.Core.Path.{◌∙◌, ◌≡◌, ap, refl, sym}
use native.Mathlib.Omega.{arith}
use Rattle.std.specs.Prelude.{Ok}
use Rattle.text.specs.Decimal.{digits_value}
use Rattle.lines.specs.Reading.{split}
use Rattle.lines.proofs.ReadBack.{and_both}
use Rattle.clause_set.specs.Bytes.{Bits}
use Rattle.solver_answer.specs.Lines.{Kind, Number, all_numbers, by_word, is_number, kind, kinds, kinds_of, number, numbers_in, same, satisfiable_line, values, values_line, verdict}
use Rattle.solver_answer.specs.declared.Solution.TheVariants.{Assignment}
use Rattle.solver_answer.specs.Answer.{assignment, by_verdict, bytes_from, each_given, each_once, ended, is_true, kinds_solution, known, numbers, readable, satisfiable, says_satisfiable, solution, times, values_first, verdicts, whole}
use Rattle.solver_answer.specs.Print.{print, signed, values_from}
use Rattle.solver_answer.proofs.Splits.{Free, free_append, kinds_line, split_none, split_some}
use Rattle.solver_answer.proofs.Numerals.{signed_reads}

-- The lines of a print ------------------------------------------------------------------------------------------------

-- the `v` line behind its `v`
unfoldable tail_from : ℕ → List ℕ → List ℕ
tail_from x [] = 32 ∷ 48 ∷ []
tail_from x (b ∷ bs) = 32 ∷ (signed x b ++ tail_from (suc x) bs)

tail_line : (x : ℕ) (bs : List ℕ) → values_from x bs ≡ tail_from x bs ++ (10 ∷ [])
unfolding values_from tail_from
tail_line x [] = refl
tail_line x (b ∷ bs) =
    ap (λ (l : List ℕ). 32 ∷ l) (ap (λ (l : List ℕ). signed x b ++ l) (tail_line (suc x) bs) ∙ sym (append_assoc (signed x b) (tail_from (suc x) bs) (10 ∷ [])))

tail_free : (x : ℕ) (bs : List ℕ) → 1 ≤ x → Free 10 (tail_from x bs)
unfolding tail_from
tail_free x [] h = (refl, (refl, tt))
tail_free x (b ∷ bs) h = (refl, free_append 10 (signed x b) (tail_from (suc x) bs) (signed_reads x b h).no_feed (tail_free (suc x) bs (omega arith)))

-- its parts, and their numbers
unfoldable tokens : ℕ → List ℕ → List (List ℕ)
tokens x [] = (48 ∷ []) ∷ []
tokens x (b ∷ bs) = signed x b ∷ tokens (suc x) bs

unfoldable numbered : ℕ → List ℕ → List Number
numbered x [] = record { negative = false; size = 0 } ∷ []
numbered x (b ∷ bs) = record { negative = eqb b 0; size = x } ∷ numbered (suc x) bs

split_tail : (p : List ℕ) (x : ℕ) (bs : List ℕ) → 1 ≤ x → Free 32 p → split 32 (p ++ tail_from x bs) ≡ p ∷ tokens x bs
unfolding tail_from tokens
split_tail p x [] h f = split_some 32 p (48 ∷ []) f ∙ ap (λ (l : List (List ℕ)). p ∷ l) (split_none 32 (48 ∷ []) (refl, tt))
split_tail p x (b ∷ bs) h f =
    split_some 32 p (signed x b ++ tail_from (suc x) bs) f
    ∙ ap (λ (l : List (List ℕ)). p ∷ l) (split_tail (signed x b) (suc x) bs (omega arith) (signed_reads x b h).no_space)

tokens_numbers : (x : ℕ) (bs : List ℕ) → 1 ≤ x → (all_numbers (tokens x bs) ≡ true) × (numbers_in (tokens x bs) ≡ numbered x bs)
unfolding tokens numbered all_numbers numbers_in is_number number same digits_value
tokens_numbers x [] h = (refl, refl)
tokens_numbers x (b ∷ bs) h =
    let s = signed_reads x b h in
    let r = tokens_numbers (suc x) bs (omega arith) in
    (and_both (is_number (signed x b)) _ s.is r.0, rw (s.says, r.1))

tokens_line : (x : ℕ) (bs : List ℕ) → 1 ≤ x → values_line (tokens x bs) ≡ values (numbered x bs)
unfolding tokens values_line
tokens_line x bs h = by bs (tokens_numbers x bs h)
  where
    by : (cs : List ℕ) → (all_numbers (tokens x cs) ≡ true) × (numbers_in (tokens x cs) ≡ numbered x cs) → values_line (tokens x cs) ≡ values (numbered x cs)
    by [] r = rw (r.0, r.1)
    by (c ∷ cs) r = rw (r.0, r.1)

values_kind : (bs : List ℕ) → kind (118 ∷ tail_from 1 bs) ≡ values (numbered 1 bs)
unfolding kind same by_word
values_kind bs = rw (split_tail (118 ∷ []) 1 bs (omega arith) (refl, tt)) (tokens_line 1 bs (omega arith))

first : (ks : List Kind) → kind satisfiable_line ∷ ks ≡ verdict true ∷ ks
unfolding kind same
first ks = refl

last : (l : List ℕ) → kinds (l ∷ split 10 []) ≡ kind l ∷ []
unfolding kinds split
last l = kinds_line l []

print_kinds : (bs : List ℕ) → kinds_of (print bs) ≡ verdict true ∷ values (numbered 1 bs) ∷ []
unfolding kinds_of print
print_kinds bs =
    ap kinds (split_some 10 satisfiable_line (118 ∷ values_from 1 bs) (refl, (refl, (refl, (refl, (refl, (refl, (refl, (refl, (refl, (refl, (refl, (refl, (refl, tt))))))))))))))
    ∙ kinds_line satisfiable_line (118 ∷ values_from 1 bs)
    ∙ first (kinds (split 10 (118 ∷ values_from 1 bs)))
    ∙ ap (λ (ks : List Kind). verdict true ∷ ks) (rw (tail_line 1 bs) (ap kinds (split_some 10 (118 ∷ tail_from 1 bs) [] (refl, tail_free 1 bs (omega arith))) ∙ last (118 ∷ tail_from 1 bs) ∙ rw (values_kind bs)))

-- What the numbers say ------------------------------------------------------------------------------------------------

numbered_ended : (x : ℕ) (bs : List ℕ) → 1 ≤ x → ended (numbered x bs) ≡ true
unfolding numbered ended
numbered_ended x [] h = refl
numbered_ended x (b ∷ []) h = let e = ne_eqb x 0 (λ q. omega (arith, q)) in rw e
numbered_ended x (b ∷ c ∷ cs) h =
    let e = ne_eqb x 0 (λ q. omega (arith, q)) in
    rw e (numbered_ended (suc x) (c ∷ cs) (omega arith))

numbered_known : (n x : ℕ) (bs : List ℕ) → x + length bs ≤ suc n → known n (numbered x bs) ≡ true
unfolding numbered known
numbered_known n x [] h = and_both (leb 0 n) true (le-leb 0 n (omega arith)) refl
numbered_known n x (b ∷ bs) h = and_both (leb x n) _ (le-leb x n (omega arith)) (numbered_known n (suc x) bs (omega arith))

-- a number that stands before all that is left
numbered_times : (y x : ℕ) (bs : List ℕ) → 1 ≤ y → y < x → times y (numbered x bs) ≡ 0
unfolding numbered times
numbered_times y x [] h g = let e = ne_eqb 0 y (λ q. omega (arith, q)) in rw e
numbered_times y x (b ∷ bs) h g =
    let e = ne_eqb x y (λ q. omega (arith, q)) in
    rw e (numbered_times y (suc x) bs h (omega arith))

numbered_true : (y x : ℕ) (bs : List ℕ) → 1 ≤ y → y < x → is_true y (numbered x bs) ≡ false
unfolding numbered is_true
numbered_true y x [] h g = let e = ne_eqb 0 y (λ q. omega (arith, q)) in rw e
numbered_true y x (b ∷ bs) h g =
    let e = ne_eqb x y (λ q. omega (arith, q)) in
    rw e (numbered_true y (suc x) bs h (omega arith))

-- a number below those asked for makes no difference
pub once_skip : (m : Number) (x k : ℕ) (ms : List Number) → m.size < x → each_once x k (m ∷ ms) ≡ each_once x k ms
unfolding each_once times
once_skip m x zero ms h = refl
once_skip m x (suc k) ms h =
    let e = ne_eqb m.size x (λ q. omega (arith, q)) in
    rw (e, once_skip m (suc x) k ms (omega arith))

pub bytes_skip : (m : Number) (x k : ℕ) (ms : List Number) → m.size < x → bytes_from x k (m ∷ ms) ≡ bytes_from x k ms
unfolding bytes_from is_true
bytes_skip m x zero ms h = refl
bytes_skip m x (suc k) ms h =
    let e = ne_eqb m.size x (λ q. omega (arith, q)) in
    rw (e, bytes_skip m (suc x) k ms (omega arith))

numbered_once : (x : ℕ) (bs : List ℕ) → 1 ≤ x → each_once x (length bs) (numbered x bs) ≡ true
unfolding numbered each_once times
numbered_once x [] h = refl
numbered_once x (b ∷ bs) h =
    rw (once_skip (record { negative = eqb b 0; size = x }) (suc x) (length bs) (numbered (suc x) bs) (omega arith), eq-eqb x x refl, numbered_times x (suc x) bs h (omega arith)) (numbered_once (suc x) bs (omega arith))

bit : (b : ℕ) → b < 2 → cond (not (eqb b 0) || false) 1 0 ≡ b
bit zero h = refl
bit (suc b) h = let e : b ≡ 0 = omega arith in rw e

numbered_bytes : (x : ℕ) (bs : List ℕ) → 1 ≤ x → Bits bs → bytes_from x (length bs) (numbered x bs) ≡ bs
unfolding numbered bytes_from is_true
numbered_bytes x [] h a = refl
numbered_bytes x (b ∷ bs) h a =
    rw (bytes_skip (record { negative = eqb b 0; size = x }) (suc x) (length bs) (numbered (suc x) bs) (omega arith), eq-eqb x x refl, numbered_true x (suc x) bs h (omega arith), numbered_bytes (suc x) bs (omega arith) a.1, bit b a.0)

-- The round trip ------------------------------------------------------------------------------------------------------

module _ (bs : List ℕ) where
  abbrev Lined : Type 0
  Lined = kinds_of (print bs) ≡ verdict true ∷ values (numbered 1 bs) ∷ []

  solution_is : Lined → solution (length bs) (print bs) (length bs) ≡ Ok Assignment
  unfolding solution kinds_solution whole readable by_verdict verdicts values_first numbers satisfiable says_satisfiable each_given
  solution_is e =
      rw (e, append-nil, numbered_ended 1 bs (omega arith), numbered_known (length bs) 1 bs (omega arith), numbered_once 1 bs (omega arith), eq-eqb (length bs) (length bs) refl)

  bytes_are : Bits bs → Lined → assignment (length bs) (print bs) ≡ bs
  unfolding assignment numbers
  bytes_are a e = rw (e, append-nil) (numbered_bytes 1 bs (omega arith) a)

  -- a print read over as many variables, into a slice as long, is an assignment found
  pub print_found : solution (length bs) (print bs) (length bs) ≡ Ok Assignment
  print_found = solution_is (print_kinds bs)

  -- and the bytes are the same
  pub print_read : Bits bs → assignment (length bs) (print bs) ≡ bs
  print_read a = bytes_are a (print_kinds bs)
