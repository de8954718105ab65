-- A line read byte after byte says what it says as a whole: its integers, its word, and whether it is empty.
use Rattle.std.proofs.Common.{Option, Some, None}
use Prim.Native.Nat.{ℕ, zero, suc, ◌+◌, ◌-◌, ◌≤◌, ◌<◌}
use native.Mathlib.Omega.{arith}
use native.Mathlib.Numerals.{add-one}
use mathlib.Core.Path.{◌≡◌, refl, sym, ap, ◌∙◌}
use mathlib.Core.Bool.{Bool, true, false, cond}
use mathlib.Core.List.{List, [], ◌∷◌, ◌++◌, append_assoc, append-nil}
use lib.Dec.{ltb, eqb}
use lib.IntN.{ℤ}
use lib.ListN.{length, take, length-set}
use lib.Seq.{take-suc-set}
use borrow.Author.Tests.{ltb-true, ltb-false}
use Rattle.lines.specs.declared.Numeral.{Numeral}
use Rattle.lines.specs.declared.Numeral.TheVariants.{Empty}
use Rattle.lines.specs.declared.Word.{Word}
use Rattle.lines.specs.Numerals.{numeral_from, numeral_integer, numeral_more, token_integer}
use Rattle.lines.specs.Lines.{Lined, Numbered, keep, line_from, line_more, line_start, line_whole, lined, number_more, number_whole, numbered, spoiled, stored, with_numbers, word_more}
use Rattle.lines.specs.Reading.{Read, ahead, integers, later_pieces, numbers_of, pieces, read_of, split, tokens_of, unread, with_first}
use Rattle.lines.proofs.Steps.{keep_full, keep_outside, keep_value}
use Rattle.lines.proofs.Tokens.{token_reads}

-- Numbers --------------------------------------------------------------------------------------------------------------

-- all bytes behind the word
unfoldable pub number_from : Numbered → List ℕ → Numbered
number_from g [] = g
number_from g (b ∷ bs) = number_from (number_more g b) bs

-- p before the first piece
abbrev join : List ℕ → List (List ℕ) → List (List ℕ)
join p [] = p ∷ []
join p (q ∷ qs) = (p ++ q) ∷ qs

abbrev behind : List ℤ → Read → Read
behind zs (integers ys) = integers (zs ++ ys)
behind zs unread = unread

join_ahead : (p : List ℕ) (b : ℕ) (ps : List (List ℕ)) → join p (ahead b ps) ≡ join (p ++ (b ∷ [])) ps
join_ahead p b [] = refl
join_ahead p b (q ∷ qs) = rw (append_assoc p (b ∷ []) q)

join_none : (bs : List ℕ) → join [] (pieces bs) ≡ pieces bs
unfolding split
join_none [] = refl
join_none (b ∷ bs) = by (eqb b 32) (pieces bs)
  where
    by : (t : Bool) (ps : List (List ℕ)) → join [] (cond t ([] ∷ ps) (ahead b ps)) ≡ cond t ([] ∷ ps) (ahead b ps)
    by true ps = refl
    by false [] = refl
    by false (p ∷ ps) = refl

numeral_last : (n : Numeral) (bs : List ℕ) (b : ℕ) → numeral_from n (bs ++ (b ∷ [])) ≡ numeral_more (numeral_from n bs) b
unfolding numeral_from
numeral_last n [] b = refl
numeral_last n (a ∷ bs) b = numeral_last (numeral_more n a) bs b

-- what cannot be read stays so
unread_keep : (i : Option ℤ) (g : Numbered) → g.numbers.good ≡ false → (keep i g).numbers.good ≡ false
unread_keep (Some z) g e = by (ltb g.numbers.count (length g.nums))
  where
    by : (t : Bool) → (cond t (stored z g) (spoiled g)).numbers.good ≡ false
    by true = e
    by false = refl
unread_keep None g e = refl

unread_more : (g : Numbered) (b : ℕ) → g.numbers.good ≡ false → (number_more g b).numbers.good ≡ false
unfolding number_more number_whole
unread_more g b e = by (eqb b 32)
  where
    by : (t : Bool)
        → (cond t (keep (numeral_integer g.numbers.numeral) g)
        (numbered g.nums (record { count = g.numbers.count; good = g.numbers.good; numeral = numeral_more g.numbers.numeral b }))
        ).numbers.good ≡ false
    by true = unread_keep (numeral_integer g.numbers.numeral) g e
    by false = e

unread_from : (g : Numbered) (bs : List ℕ) → g.numbers.good ≡ false → read_of (number_whole (number_from g bs)) ≡ unread
unfolding number_from read_of number_whole
unread_from g [] e = rw (unread_keep (numeral_integer g.numbers.numeral) g e)
unread_from g (b ∷ bs) e = unread_from (number_more g b) bs (unread_more g b e)

-- the numbers so far are good, and the token so far is p
record Going (g : Numbered) (p : List ℕ) : Type 0 where
  good : g.numbers.good ≡ true
  within : g.numbers.count ≤ length g.nums
  numeral : g.numbers.numeral ≡ numeral_from Empty p

-- what the tokens ts still to come make of the numbers so far
abbrev rest_of : Numbered → List (List ℕ) → Read
rest_of g ts = behind (take g.numbers.count g.nums) (numbers_of (length g.nums - g.numbers.count) ts)

behind_none : (zs : List ℤ) → behind zs (integers []) ≡ integers zs
behind_none zs = ap integers (append-nil zs)

behind_first : (zs : List ℤ) (z : ℤ) (r : Read) → behind zs (with_first (Some z) r) ≡ behind (zs ++ (z ∷ [])) r
behind_first zs z (integers ys) = ap integers (sym (append_assoc zs (z ∷ []) ys))
behind_first zs z unread = refl

read_none : (g : Numbered) → g.numbers.good ≡ true → read_of g ≡ rest_of g []
unfolding read_of numbers_of
read_none g e = rw e (sym (behind_none (take g.numbers.count g.nums)))

module _ (g : Numbered) (p : List ℕ) (k : Going g p) where
  token_is : numeral_integer g.numbers.numeral ≡ token_integer p
  token_is = ap numeral_integer k.numeral ∙ token_reads p

  -- the token is an integer, and there is room for it
  kept_going : (z : ℤ) → g.numbers.count < length g.nums → Going (stored z g) []
  unfolding numeral_from
  kept_going z h = record { good = k.good; within = rw (length-set g.nums g.numbers.count z) (omega arith); numeral = refl }

  kept_rest : (z : ℤ) (ts : List (List ℕ)) → token_integer p ≡ Some z → g.numbers.count < length g.nums
      → rest_of g (p ∷ ts) ≡ rest_of (stored z g) ts
  unfolding numbers_of
  kept_rest z ts e h =
      let n = g.numbers.count in
      let m : length g.nums - n ≡ suc (length g.nums - (n + 1)) = omega arith in
      rw (m, e, length-set g.nums n z, add-one n, take-suc-set g.nums n z h, ← add-one n)
      (behind_first (take n g.nums) z (numbers_of (length g.nums - (n + 1)) ts))

  -- it is none
  outside_rest : (ts : List (List ℕ)) → token_integer p ≡ None → rest_of g (p ∷ ts) ≡ unread
  unfolding numbers_of
  outside_rest ts e = by (length g.nums - g.numbers.count)
    where
      by : (n : ℕ) → behind (take g.numbers.count g.nums) (numbers_of n (p ∷ ts)) ≡ unread
      by zero = refl
      by (suc n) = rw e

  -- there is no room
  full_rest : (ts : List (List ℕ)) → length g.nums ≤ g.numbers.count → rest_of g (p ∷ ts) ≡ unread
  unfolding numbers_of
  full_rest ts h = let m : length g.nums - g.numbers.count ≡ 0 = omega arith in rw m

-- the numbers when the token p ends: kept, or what cannot be read any more
data Ended (g : Numbered) (p : List ℕ) : Type 0 where
  kept : (z : ℤ) → number_whole g ≡ stored z g → Going (stored z g) []
      → ((ts : List (List ℕ)) → rest_of g (p ∷ ts) ≡ rest_of (stored z g) ts) → Ended g p
  lost : number_whole g ≡ spoiled g → ((ts : List (List ℕ)) → rest_of g (p ∷ ts) ≡ unread) → Ended g p

ended : (g : Numbered) (p : List ℕ) → Going g p → Ended g p
ended g p k = by (token_integer p) refl (ltb g.numbers.count (length g.nums)) refl
  where
    by : (i : Option ℤ) → token_integer p ≡ i → (t : Bool) → ltb g.numbers.count (length g.nums) ≡ t → Ended g p
    by (Some z) e true h =
        let l = ltb-true g.numbers.count (length g.nums) h in
        kept z (keep_value g (token_is g p k ∙ e) l) (kept_going g p k z l) (λ ts. kept_rest g p k z ts e l)
    by (Some z) e false h =
        let l = ltb-false g.numbers.count (length g.nums) h in
        lost (keep_full g (token_is g p k ∙ e) l) (λ ts. full_rest g p k ts l)
    by None e t h = lost (keep_outside g (token_is g p k ∙ e)) (λ ts. outside_rest g p k ts e)

more_space : (g : Numbered) (b : ℕ) → eqb b 32 ≡ true → number_more g b ≡ number_whole g
unfolding number_more
more_space g b e = rw e

more_going : (g : Numbered) (p : List ℕ) (b : ℕ) → eqb b 32 ≡ false → Going g p → Going (number_more g b) (p ++ (b ∷ []))
unfolding number_more
more_going g p b e k =
    rw e (record { good = k.good; within = k.within; numeral = ap (λ (n : Numeral). numeral_more n b) k.numeral ∙ sym (numeral_last Empty p b) })

more_rest : (g : Numbered) (b : ℕ) (ts : List (List ℕ)) → eqb b 32 ≡ false → rest_of (number_more g b) ts ≡ rest_of g ts
unfolding number_more
more_rest g b ts e = rw e

abbrev Reads_from : Numbered → List ℕ → List ℕ → Type 0
Reads_from g p bs = read_of (number_whole (number_from g bs)) ≡ rest_of g (join p (pieces bs))

reads_end : (g : Numbered) (p : List ℕ) → Ended g p → Reads_from g p []
unfolding number_from split read_of
reads_end g p (kept z e k r) = rw (append-nil p, r [], e) (read_none (stored z g) k.good)
reads_end g p (lost e r) = rw (append-nil p, r [], e)

reads_space : (g : Numbered) (p : List ℕ) (b : ℕ) (bs : List ℕ) → eqb b 32 ≡ true → Ended g p
    → ((h : Numbered) → Going h [] → Reads_from h [] bs) → Reads_from g p (b ∷ bs)
unfolding number_from split
reads_space g p b bs s (kept z e k r) f =
    rw (s, append-nil p, r (pieces bs), more_space g b s, e, f (stored z g) k, join_none bs)
reads_space g p b bs s (lost e r) f =
    rw (s, append-nil p, r (pieces bs), more_space g b s, e) (unread_from (spoiled g) bs refl)

reads_byte : (g : Numbered) (p : List ℕ) (b : ℕ) (bs : List ℕ) → eqb b 32 ≡ false
    → Reads_from (number_more g b) (p ++ (b ∷ [])) bs → Reads_from g p (b ∷ bs)
unfolding number_from split
reads_byte g p b bs s r = rw s (r ∙ (more_rest g b (join (p ++ (b ∷ [])) (pieces bs)) s ∙ ap (rest_of g) (sym (join_ahead p b (pieces bs)))))

reads_from : (g : Numbered) (p bs : List ℕ) → Going g p → Reads_from g p bs
reads_from g p [] k = reads_end g p (ended g p k)
reads_from g p (b ∷ bs) k = by (eqb b 32) refl (λ h q m. reads_from h q bs m)
  where
    by : (t : Bool) → eqb b 32 ≡ t → ((h : Numbered) (q : List ℕ) → Going h q → Reads_from h q bs) → Reads_from g p (b ∷ bs)
    by true e f = reads_space g p b bs e (ended g p k) (λ h m. f h [] m)
    by false e f = reads_byte g p b bs e (f (number_more g b) (p ++ (b ∷ [])) (more_going g p b e k))

-- Lines ----------------------------------------------------------------------------------------------------------------

abbrev numbers_at : Lined → Numbered
numbers_at k = numbered k.nums k.line.numbers

more_behind : (w : Word) (g : Numbered) (b : ℕ) → line_more (with_numbers w g) b ≡ with_numbers w (number_more g b)
unfolding line_more
more_behind w g b = refl

pub from_behind : (w : Word) (g : Numbered) (bs : List ℕ) → line_from (with_numbers w g) bs ≡ with_numbers w (number_from g bs)
unfolding line_from number_from
from_behind w g [] = refl
from_behind w g (b ∷ bs) = rw (more_behind w g b) (from_behind w (number_more g b) bs)

-- a word so far, with no integer
abbrev pub worded : List ℤ → Word → Lined
worded xs w = lined xs (record { word = w; behind = false; numbers = record { count = 0; good = true; numeral = Empty } })

start_going : (xs : List ℤ) → Going (numbered xs (record { count = 0; good = true; numeral = Empty })) []
unfolding numeral_from
start_going xs = record { good = refl; within = omega arith; numeral = refl }

whole_behind : (w : Word) (g : Numbered) → line_whole (with_numbers w g) ≡ with_numbers w (number_whole g)
unfolding line_whole
whole_behind w g = refl

behind_empty : (r : Read) → behind [] r ≡ r
behind_empty (integers zs) = refl
behind_empty unread = refl

pub later_ahead : (b : ℕ) (ps : List (List ℕ)) → later_pieces (ahead b ps) ≡ later_pieces ps
later_ahead b [] = refl
later_ahead b (p ∷ ps) = refl

pub worded_space : (xs : List ℤ) (w : Word) (b : ℕ) → eqb b 32 ≡ true
    → line_more (worded xs w) b ≡ with_numbers w (numbered xs (record { count = 0; good = true; numeral = Empty }))
unfolding line_more
worded_space xs w b e = rw e

pub worded_byte : (xs : List ℤ) (w : Word) (b : ℕ) → eqb b 32 ≡ false → line_more (worded xs w) b ≡ worded xs (word_more w b)
unfolding line_more
worded_byte xs w b e = rw e

abbrev Line_reads : List ℤ → Word → List ℕ → Type 0
Line_reads xs w bs = read_of (numbers_at (line_whole (line_from (worded xs w) bs))) ≡ numbers_of (length xs) (tokens_of bs)

line_space : (xs : List ℤ) (w : Word) (b : ℕ) (bs : List ℕ) → eqb b 32 ≡ true → Line_reads xs w (b ∷ bs)
unfolding line_from split
line_space xs w b bs e =
    let g : Numbered = numbered xs (record { count = 0; good = true; numeral = Empty }) in
    let z : length xs - 0 ≡ length xs = omega arith in
    let r = reads_from g [] bs (start_going xs) in
    rw (e, worded_space xs w b e, from_behind w g bs, whole_behind w (number_from g bs), r, join_none bs, z)
    (behind_empty (numbers_of (length xs) (pieces bs)))

line_byte : (xs : List ℤ) (w : Word) (b : ℕ) (bs : List ℕ) → eqb b 32 ≡ false → Line_reads xs (word_more w b) bs → Line_reads xs w (b ∷ bs)
unfolding line_from split
line_byte xs w b bs e r = rw (e, worded_byte xs w b e, later_ahead b (pieces bs)) r

line_none : (xs : List ℤ) (w : Word) → Line_reads xs w []
unfolding line_from line_whole read_of numbers_of split
line_none xs w = refl

line_reads_from : (xs : List ℤ) (w : Word) (bs : List ℕ) → Line_reads xs w bs
line_reads_from xs w [] = line_none xs w
line_reads_from xs w (b ∷ bs) = by (eqb b 32) refl (line_reads_from xs (word_more w b) bs)
  where
    by : (t : Bool) → eqb b 32 ≡ t → Line_reads xs (word_more w b) bs → Line_reads xs w (b ∷ bs)
    by true e r = line_space xs w b bs e
    by false e r = line_byte xs w b bs e r

-- THE THEOREM on integers: those of a line read byte after byte into xs are those of its tokens, if it can be read
pub line_reads : (xs : List ℤ) (bs : List ℕ)
    → read_of (numbers_at (line_whole (line_from (lined xs line_start) bs))) ≡ numbers_of (length xs) (tokens_of bs)
line_reads xs bs = line_reads_from xs line_start.word bs
