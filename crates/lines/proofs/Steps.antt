-- One byte more: laws for the code's cases.
use Rattle.std.proofs.Common.{Option, Some, None}
use Prim.Native.Nat.{ℕ, suc, ◌+◌, ◌-◌, ◌≤◌, ◌<◌}
use native.Mathlib.Omega.{arith}
use mathlib.Core.Path.{◌≡◌, refl, sym, ap, subst, ◌∙◌}
use mathlib.Core.Bool.{Bool, true, false, not, ◌&&◌, cond, true≢false}
use lib.IntN.{ℤ, pos, neg_ℤ, ◌-ℤ◌}
use lib.ListN.{length, drop, get_or, length-drop, length-set}
use lib.Seq.{take-suc, get_or-drop}
use mathlib.Core.List.{List, [], ◌∷◌, ◌++◌}
use lib.Dec.{leb, ltb, eqb}
use mir.Syntax.{w64}
use mir.Val.{to_z, of_z}
use mir.ValLaws.{to_z-of_z}
use borrow.Author.Tests.{lt-ltb, le-ltb, ltb-true, lt-leb, le-leb, leb-true, eq-eqb, ne_eqb}
use Rattle.lines.specs.Integers.{is_digit}
use Rattle.lines.proofs.Signs.{as_i64, negated, negated_fits}
use Rattle.lines.specs.Numerals.{numeral_more, numeral_integer, with_digit, with_other}
use Rattle.lines.specs.Lines.{Feeding, Lined, Numbered, Within, is_empty, keep, line_from, line_more, line_whole, lined, none_kept, number_more, number_whole, numbered, one_line, between, spoiled, stored, with_numbers, word_more}
use Rattle.lines.specs.declared.Line.{Line}
use Rattle.lines.specs.declared.Numbers.{Numbers}
use Rattle.lines.specs.declared.Word.{Word}
use Rattle.lines.specs.declared.Numeral.{Numeral}
use Rattle.lines.specs.declared.Numeral.TheVariants.{Empty, Minus, Positive, Negative, Other}

pub and_left : (a b : Bool) → (a && b) ≡ true → a ≡ true
and_left true b p = refl
and_left false b p = p

pub and_right : (a b : Bool) → (a && b) ≡ true → b ≡ true
and_right true b p = p
and_right false b p = absurd (true≢false (sym p))

-- a digit lies from 48 to 57
pub digit_from : (b : ℕ) → is_digit b ≡ true → 48 ≤ b
digit_from b d = leb-true 48 b (and_left (leb 48 b) (leb b 57) d)

pub digit_to : (b : ℕ) → is_digit b ≡ true → b ≤ 57
digit_to b d = leb-true b 57 (and_right (leb 48 b) (leb b 57) d)

pub more_digit : (n : Numeral) (b : ℕ) → is_digit b ≡ true → numeral_more n b ≡ with_digit n b
unfolding numeral_more
more_digit n b d = rw d

pub more_other : (n : Numeral) (b : ℕ) → is_digit b ≡ false → numeral_more n b ≡ with_other n b
unfolding numeral_more
more_other n b d = rw d

other_always : (n : Numeral) (b : ℕ) → (b ≡ 45 → ⊥) → with_other n b ≡ Other
other_always Empty b h = rw (ne_eqb b 45 h)
other_always Minus b h = refl
other_always (Positive v) b h = refl
other_always (Negative v) b h = refl
other_always Other b h = refl

pub more_none : (n : Numeral) (b : ℕ) → is_digit b ≡ false → (b ≡ 45 → ⊥) → Other ≡ numeral_more n b
more_none n b d h = sym (more_other n b d ∙ other_always n b h)

pub integer_positive : (v : ℕ) → v ≤ 4294967295 → Some (to_z w64 v) ≡ numeral_integer (Positive v)
unfolding numeral_integer
integer_positive v h = rw (as_i64 v h, le-leb v 4294967295 h)

pub integer_large : (v : ℕ) → 4294967295 < v → None ≡ numeral_integer (Positive v)
unfolding numeral_integer
integer_large v h = rw (lt-leb v 4294967295 h)

pub integer_negative : (v : ℕ) → v ≤ 2147483648 → Some (to_z w64 (of_z w64 (pos 0 -ℤ to_z w64 v))) ≡ numeral_integer (Negative v)
unfolding numeral_integer
integer_negative v h = rw (negated v h, to_z-of_z w64 (neg_ℤ (pos v)) (negated_fits v h), le-leb v 2147483648 h)

pub integer_low : (v : ℕ) → 2147483648 < v → None ≡ numeral_integer (Negative v)
unfolding numeral_integer
integer_low v h = rw (lt-leb v 2147483648 h)

-- a token that is known to be m
pub digit_behind : {n m : Numeral} (b : ℕ) → is_digit b ≡ true → n ≡ m → with_digit m b ≡ numeral_more n b
digit_behind {n} {m} b d e = sym (more_digit n b d ∙ ap (λ (k : Numeral). with_digit k b) e)

pub minus_other : (n : Numeral) → (n ≡ Empty → ⊥) → Other ≡ numeral_more n 45
unfolding numeral_more
minus_other Empty h = absurd (h refl)
minus_other Minus h = refl
minus_other (Positive v) h = refl
minus_other (Negative v) h = refl
minus_other Other h = refl

pub minus_behind : {n m : Numeral} → n ≡ m → with_other m 45 ≡ numeral_more n 45
unfolding numeral_more
minus_behind {n} {m} e = sym (ap (λ (k : Numeral). with_other k 45) e)

-- Numbers --------------------------------------------------------------------------------------------------------------

pub keep_outside : (g : Numbered) → numeral_integer g.numbers.numeral ≡ None → number_whole g ≡ spoiled g
unfolding number_whole
keep_outside g e = rw e

pub keep_full : (g : Numbered) {z : ℤ} → numeral_integer g.numbers.numeral ≡ Some z → length g.nums ≤ g.numbers.count
    → number_whole g ≡ spoiled g
unfolding number_whole
keep_full g e h = rw (e, le-ltb g.numbers.count (length g.nums) h)

pub keep_value : (g : Numbered) {z : ℤ} → numeral_integer g.numbers.numeral ≡ Some z → g.numbers.count < length g.nums
    → number_whole g ≡ stored z g
unfolding number_whole
keep_value g e h = rw (e, lt-ltb g.numbers.count (length g.nums) h)

-- Words ----------------------------------------------------------------------------------------------------------------

pub and_false : (a : Bool) → (a && false) ≡ false
and_false true = refl
and_false false = refl

-- Lines ----------------------------------------------------------------------------------------------------------------

pub number_space : (g : Numbered) {b : ℕ} → b ≡ 32 → number_whole g ≡ number_more g b
unfolding number_more
number_space g {b} e = rw (eq-eqb b 32 e)

pub number_byte : (g : Numbered) (b : ℕ) {m : Numeral} → (b ≡ 32 → ⊥) → m ≡ numeral_more g.numbers.numeral b
    → numbered g.nums (record { count = g.numbers.count; good = g.numbers.good; numeral = m }) ≡ number_more g b
unfolding number_more
number_byte g b h e = rw (ne_eqb b 32 h, e)

pub line_behind : (k : Lined) (b : ℕ) {xs : List ℤ} {n : Numbers} → k.line.behind ≡ true
    → numbered xs n ≡ number_more (numbered k.nums k.line.numbers) b
    → lined xs (record { word = k.line.word; behind = k.line.behind; numbers = n }) ≡ line_more k b
unfolding line_more
line_behind k b e q = rw e (ap (with_numbers k.line.word) q)

pub line_space : (k : Lined) (b : ℕ) → k.line.behind ≡ false → b ≡ 32
    → lined k.nums (record { word = k.line.word; behind = true; numbers = k.line.numbers }) ≡ line_more k b
unfolding line_more
line_space k b e q = rw (e, eq-eqb b 32 q)

pub line_letter : (k : Lined) (b : ℕ) {w : Word} → k.line.behind ≡ false → (b ≡ 32 → ⊥) → w ≡ word_more k.line.word b
    → lined k.nums (record { word = w; behind = k.line.behind; numbers = k.line.numbers }) ≡ line_more k b
unfolding line_more
line_letter k b e h q = rw (e, ne_eqb b 32 h, q)

pub whole_behind : (k : Lined) {xs : List ℤ} {n : Numbers} → k.line.behind ≡ true
    → numbered xs n ≡ number_whole (numbered k.nums k.line.numbers)
    → lined xs (record { word = k.line.word; behind = k.line.behind; numbers = n }) ≡ line_whole k
unfolding line_whole
whole_behind k e q = rw e (ap (with_numbers k.line.word) q)

pub whole_word : (k : Lined) {xs : List ℤ} {n : Numbers} → k.line.behind ≡ false → xs ≡ k.nums → n ≡ none_kept k.line.numbers
    → lined xs (record { word = k.line.word; behind = k.line.behind; numbers = n }) ≡ line_whole k
unfolding line_whole
whole_word k e p q = rw (e, p, q)

kept_within : (i : Option ℤ) (g : Numbered) → (keep i g).numbers.good ≡ true → (keep i g).numbers.count ≤ length (keep i g).nums
kept_within (Some z) g e = by (ltb g.numbers.count (length g.nums)) refl e
  where
    by : (t : Bool) → ltb g.numbers.count (length g.nums) ≡ t → (cond t (stored z g) (spoiled g)).numbers.good ≡ true
        → (cond t (stored z g) (spoiled g)).numbers.count ≤ length (cond t (stored z g) (spoiled g)).nums
    by true h q = let l = ltb-true g.numbers.count (length g.nums) h in rw (length-set g.nums g.numbers.count z) (omega arith)
    by false h q = absurd (true≢false (sym q))
kept_within None g e = absurd (true≢false (sym e))

whole_within : (k : Lined) → Within (line_whole k)
unfolding line_whole number_whole
whole_within k = by k.line.behind
  where
    by : (t : Bool) → Within (cond t
        (with_numbers k.line.word (number_whole (numbered k.nums k.line.numbers)))
        (lined k.nums (record { word = k.line.word; behind = false; numbers = none_kept k.line.numbers })))
    by true = kept_within (numeral_integer k.line.numbers.numeral) (numbered k.nums k.line.numbers)
    by false = λ e. omega arith

pub whole_ends : (k : Lined) {m : Lined} → m ≡ line_whole k → (m ≡ line_whole k) × Within m
whole_ends k e = (e, subst Within (sym e) (whole_within k))

pub empty_not : (l : Line) → l.behind ≡ true → false ≡ is_empty l
empty_not l e = rw e

pub empty_word : (l : Line) → l.behind ≡ false → eqb l.word.len 0 ≡ is_empty l
empty_word l e = rw e

-- Bytes of a line ------------------------------------------------------------------------------------------------------

between_none : (s : List ℕ) (a : ℕ) → between s a a ≡ []
between_none s a = let e : a - a ≡ 0 = omega arith in rw e

between_last : (s : List ℕ) (a i : ℕ) → a ≤ i → i < length s → between s a (i + 1) ≡ between s a i ++ (get_or s i 0 ∷ [])
between_last s a i h k =
    let e : i + 1 - a ≡ suc (i - a) = omega arith in
    let f : a + (i - a) ≡ i = omega arith in
    let l : i - a < length (drop a s) = rw length-drop (omega arith) in
    rw (e, take-suc (drop a s) (i - a) 0 l, get_or-drop, f)

from_last : (k : Lined) (bs : List ℕ) (b : ℕ) → line_from k (bs ++ (b ∷ [])) ≡ line_more (line_from k bs) b
unfolding line_from
from_last k [] b = refl
from_last k (a ∷ bs) b = from_last (line_more k a) bs b

one_last : (bs : List ℕ) (b : ℕ) → one_line bs ≡ true → (b ≡ 10 → ⊥) → one_line (bs ++ (b ∷ [])) ≡ true
unfolding one_line
one_last [] b p h = rw (ne_eqb b 10 h)
one_last (a ∷ bs) b p h =
    rw (and_left (not (eqb a 10)) (one_line bs) p) (one_last bs b (and_right (not (eqb a 10)) (one_line bs) p) h)

pub feeding_none : (s : List ℕ) (a : ℕ) (k : Lined) → a ≤ length s → Feeding s a a k k
unfolding line_from one_line
feeding_none s a k h = record { from = omega arith; within = h; one = rw (between_none s a); is = rw (between_none s a) }

pub feeding_more : {s : List ℕ} {a i : ℕ} {k m m' : Lined} → Feeding s a i k m → i < length s → (get_or s i 0 ≡ 10 → ⊥)
    → m' ≡ line_more m (get_or s i 0) → Feeding s a (i + 1) k m'
feeding_more {s} {a} {i} {k} f h d e =
    let p = between_last s a i f.from h in
    record {
      from = omega (arith, f.from);
      within = omega arith;
      one = rw p (one_last (between s a i) (get_or s i 0) f.one d);
      is = rw (p, from_last k (between s a i) (get_or s i 0), ← f.is) e;
    }
