-- The lines of a solver's answer (document 02, #103: the grammar).
use Rattle.std.specs.Prelude.{ℕ, eqb, Bool, ◌&&◌, ◌||◌, cond, false, not, true, List, [], ◌∷◌}
use Rattle.text.specs.Decimal.{digits_value}
use Rattle.lines.specs.Integers.{all_digits}
use Rattle.lines.specs.Reading.{split}

-- the two are the same bytes
unfoldable pub same : List ℕ → List ℕ → Bool
same [] [] = true
same [] (c ∷ cs) = false
same (b ∷ bs) [] = false
same (b ∷ bs) (c ∷ cs) = eqb b c && same bs cs

-- Numbers of any length -----------------------------------------------------------------------------------------------

-- a signed number: whether it has a minus, and its digits' value
pub record Number : Type 0 where
  pub negative : Bool
  pub size : ℕ

-- digits, one at least, the first not 0
unfoldable pub is_positive : List ℕ → Bool
is_positive [] = false
is_positive (b ∷ bs) = not (eqb b 48) && all_digits (b ∷ bs)

-- without plus, leading zero or minus 0
unfoldable pub is_number : List ℕ → Bool
is_number [] = false
is_number (b ∷ bs) = cond (eqb b 45) (is_positive bs) (same (b ∷ bs) (48 ∷ []) || is_positive (b ∷ bs))

unfoldable pub number : List ℕ → Number
number [] = record { negative = false; size = 0 }
number (b ∷ bs) =
    cond (eqb b 45)
    (record { negative = true; size = digits_value 0 bs })
    (record { negative = false; size = digits_value 0 (b ∷ bs) })

unfoldable pub all_numbers : List (List ℕ) → Bool
all_numbers [] = true
all_numbers (t ∷ ts) = is_number t && all_numbers ts

unfoldable pub numbers_in : List (List ℕ) → List Number
numbers_in [] = []
numbers_in (t ∷ ts) = number t ∷ numbers_in ts

-- Lines ---------------------------------------------------------------------------------------------------------------

-- a `c` line; the `s` line, satisfiable or not; a `v` line; any other line
pub data Kind : Type 0 where
  comment : Kind
  verdict : Bool → Kind
  values : List Number → Kind
  broken : Kind

-- `s SATISFIABLE`
abbrev pub satisfiable_line : List ℕ
satisfiable_line = 115 ∷ 32 ∷ 83 ∷ 65 ∷ 84 ∷ 73 ∷ 83 ∷ 70 ∷ 73 ∷ 65 ∷ 66 ∷ 76 ∷ 69 ∷ []

-- `s UNSATISFIABLE`
abbrev pub unsatisfiable_line : List ℕ
unsatisfiable_line = 115 ∷ 32 ∷ 85 ∷ 78 ∷ 83 ∷ 65 ∷ 84 ∷ 73 ∷ 83 ∷ 70 ∷ 73 ∷ 65 ∷ 66 ∷ 76 ∷ 69 ∷ []

-- `v` before one or more numbers
unfoldable pub values_line : List (List ℕ) → Kind
values_line [] = broken
values_line (t ∷ ts) = cond (all_numbers (t ∷ ts)) (values (numbers_in (t ∷ ts))) broken

-- by the pieces between spaces: `c` alone or before a space, `v` before numbers, each after one space
unfoldable pub by_word : List (List ℕ) → Kind
by_word [] = broken
by_word (w ∷ ts) = cond (same w (99 ∷ [])) comment (cond (same w (118 ∷ [])) (values_line ts) broken)

unfoldable pub kind : List ℕ → Kind
kind l =
    cond (same l satisfiable_line) (verdict true)
    (cond (same l unsatisfiable_line) (verdict false)
    (by_word (split 32 l)))

-- every line ends in a line feed: bytes behind the last line feed are a broken line
unfoldable pub kinds : List (List ℕ) → List Kind
kinds [] = []
kinds ([] ∷ []) = []
kinds ((b ∷ bs) ∷ []) = broken ∷ []
kinds (l ∷ m ∷ ls) = kind l ∷ kinds (m ∷ ls)

-- the lines of a text
unfoldable pub kinds_of : List ℕ → List Kind
kinds_of text = kinds (split 10 text)
