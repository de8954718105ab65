-- What a line says as a whole. The theorems of proofs/Reading say that a line read byte after byte says the same.
use Rattle.std.specs.Prelude.{Option, Some, None}
use Rattle.std.specs.Prelude.{ℕ, zero, suc, cond, List, [], ◌∷◌, eqb, ℤ, take}
use Rattle.lines.specs.Numerals.{token_integer}
use Rattle.lines.specs.Lines.{Numbered}

-- b before the first piece
abbrev pub ahead : ℕ → List (List ℕ) → List (List ℕ)
ahead b [] = (b ∷ []) ∷ []
ahead b (p ∷ ps) = (b ∷ p) ∷ ps

-- the pieces between the bytes that equal `sep`, and the last one behind them
unfoldable pub split : ℕ → List ℕ → List (List ℕ)
split sep [] = [] ∷ []
split sep (b ∷ bs) = cond (eqb b sep) ([] ∷ split sep bs) (ahead b (split sep bs))

-- the pieces of a line between its spaces
abbrev pub pieces : List ℕ → List (List ℕ)
pieces bs = split 32 bs

-- the first piece is the line's word, the others are its tokens
abbrev pub first_piece : List (List ℕ) → List ℕ
first_piece [] = []
first_piece (p ∷ ps) = p

abbrev pub later_pieces : List (List ℕ) → List (List ℕ)
later_pieces [] = []
later_pieces (p ∷ ps) = ps

abbrev pub word_of : List ℕ → List ℕ
word_of bs = first_piece (pieces bs)

abbrev pub tokens_of : List ℕ → List (List ℕ)
tokens_of bs = later_pieces (pieces bs)

-- the integers of a line, if it can be read
pub data Read : Type 0 where
  integers : List ℤ → Read
  unread : Read

abbrev pub with_first : Option ℤ → Read → Read
with_first (Some z) (integers zs) = integers (z ∷ zs)
with_first (Some z) unread = unread
with_first None r = unread

-- each token is an integer, and there are at most n
unfoldable pub numbers_of : ℕ → List (List ℕ) → Read
numbers_of n [] = integers []
numbers_of zero (t ∷ ts) = unread
numbers_of (suc n) (t ∷ ts) = with_first (token_integer t) (numbers_of n ts)

-- the integers that were kept
unfoldable pub read_of : Numbered → Read
read_of g = cond g.numbers.good (integers (take g.numbers.count g.nums)) unread
