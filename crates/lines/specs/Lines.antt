-- A line read byte after byte: its word, and its integers in a lent slice.
use Rattle.std.specs.Prelude.{Option, Some, None}
use Rattle.std.specs.Prelude.{ℕ, zero, suc, ◌+◌, ◌-◌, ◌≤◌, min, ◌≡◌, Bool, true, false, not, ◌&&◌, cond, ◌⊎◌, List, [], ◌∷◌, leb, ltb, eqb, ℤ, length, set, get_or, replicate, take, drop}
use Rattle.lines.specs.declared.Numeral.TheVariants.{Empty}
use Rattle.lines.specs.declared.Word.{Word}
use Rattle.lines.specs.declared.Numbers.{Numbers}
use Rattle.lines.specs.declared.Line.{Line}
use Rattle.lines.specs.Numerals.{numeral_more, numeral_integer}

-- the word with a byte behind it
abbrev pub word_more : Word → ℕ → Word
word_more w b =
    cond (ltb w.len 8)
    (record { bytes = set w.bytes w.len b; len = w.len + 1 })
    (record { bytes = w.bytes; len = 9 })

-- the first n bytes of two lists are the same
unfoldable pub same_below : ℕ → List ℕ → List ℕ → Bool
same_below zero bs cs = true
same_below (suc n) bs cs = same_below n bs cs && eqb (get_or bs n 0) (get_or cs n 0)

-- the line's word is this one
abbrev pub is_word : Word → List ℕ → Bool
is_word w word = leb w.len 8 && (eqb w.len (length word) && same_below w.len w.bytes word)

-- the integers that a line has so far, and the slice that they are kept in
pub record Numbered : Type 0 where
  pub nums : List ℤ
  pub numbers : Numbers

abbrev pub numbered : List ℤ → Numbers → Numbered
numbered nums n = record { nums = nums; numbers = n }

abbrev pub spoiled : Numbered → Numbered
spoiled g = numbered g.nums (record { count = g.numbers.count; good = false; numeral = g.numbers.numeral })

abbrev pub none_kept : Numbers → Numbers
none_kept n = record { count = 0; good = n.good; numeral = n.numeral }

abbrev pub stored : ℤ → Numbered → Numbered
stored z g =
    numbered (set g.nums g.numbers.count z) (record { count = g.numbers.count + 1; good = g.numbers.good; numeral = Empty })

abbrev pub keep : Option ℤ → Numbered → Numbered
keep (Some z) g = cond (ltb g.numbers.count (length g.nums)) (stored z g) (spoiled g)
keep None g = spoiled g

-- the token ends, and its integer is kept
unfoldable pub number_whole : Numbered → Numbered
number_whole g = keep (numeral_integer g.numbers.numeral) g

-- one byte more behind the word
unfoldable pub number_more : Numbered → ℕ → Numbered
number_more g b =
    cond (eqb b 32) (number_whole g)
    (numbered g.nums (record { count = g.numbers.count; good = g.numbers.good; numeral = numeral_more g.numbers.numeral b }))

-- a line so far, and the slice that its integers are kept in
pub record Lined : Type 0 where
  pub nums : List ℤ
  pub line : Line

abbrev pub lined : List ℤ → Line → Lined
lined nums l = record { nums = nums; line = l }

-- a line with no byte
abbrev pub line_start : Line
line_start =
    record {
      word = record { bytes = replicate 8 0; len = 0 };
      behind = false;
      numbers = record { count = 0; good = true; numeral = Empty };
    }

abbrev pub is_empty : Line → Bool
is_empty l = not l.behind && eqb l.word.len 0

abbrev pub with_numbers : Word → Numbered → Lined
with_numbers w g = lined g.nums (record { word = w; behind = true; numbers = g.numbers })

-- a line with a byte behind it
unfoldable pub line_more : Lined → ℕ → Lined
line_more k b =
    cond k.line.behind
    (with_numbers k.line.word (number_more (numbered k.nums k.line.numbers) b))
    (cond (eqb b 32)
    (with_numbers k.line.word (numbered k.nums k.line.numbers))
    (lined k.nums (record { word = word_more k.line.word b; behind = false; numbers = k.line.numbers })))

-- the line ends; with no space behind its word it has no integer
unfoldable pub line_whole : Lined → Lined
line_whole k =
    cond k.line.behind
    (with_numbers k.line.word (number_whole (numbered k.nums k.line.numbers)))
    (lined k.nums (record { word = k.line.word; behind = false; numbers = none_kept k.line.numbers }))

-- the integers of a line that can be read lie within the slice
abbrev pub Within : Lined → Type 0
Within k = k.line.numbers.good ≡ true → k.line.numbers.count ≤ length k.nums

-- a line with all these bytes behind it
unfoldable pub line_from : Lined → List ℕ → Lined
line_from k [] = k
line_from k (b ∷ bs) = line_from (line_more k b) bs

-- no line feed
unfoldable pub one_line : List ℕ → Bool
one_line [] = true
one_line (b ∷ bs) = not (eqb b 10) && one_line bs

-- the bytes of s from a up to e
abbrev pub between : List ℕ → ℕ → ℕ → List ℕ
between s a e = take (e - a) (drop a s)

-- the bytes of s from a up to e have no line feed, and the line with them behind it is `after`
pub record Feeding (s : List ℕ) (a e : ℕ) (before after : Lined) : Type 0 where
  pub from : a ≤ e
  pub within : e ≤ length s
  pub one : one_line (between s a e) ≡ true
  pub is : after ≡ line_from before (between s a e)

-- and a line feed stands at e, unless s ends there; what follows is from n on
pub record FedBy (s : List ℕ) (a e n : ℕ) (before after : Lined) : Type 0 where
  pub fed : Feeding s a e before after
  pub ends : (e ≡ length s) ⊎ (get_or s e 0 ≡ 10)
  pub next : n ≡ min (e + 1) (length s)
