-- Decimal integers, and what they say.
use Rattle.std.specs.Prelude.{ℕ, Bool, true, false, ◌&&◌, cond, List, [], ◌∷◌, leb, eqb, ℤ, pos, negsuc, neg_ℤ}
use Rattle.text.specs.Decimal.{digits_value}

-- '0' to '9'
abbrev pub is_digit : ℕ → Bool
is_digit b = leb 48 b && leb b 57

unfoldable pub all_digits : List ℕ → Bool
all_digits [] = true
all_digits (b ∷ bs) = is_digit b && all_digits bs

-- digits, one at least
abbrev pub some_digits : List ℕ → Bool
some_digits [] = false
some_digits (b ∷ bs) = all_digits (b ∷ bs)

-- some digits, behind a minus or not
unfoldable pub is_integer : List ℕ → Bool
is_integer [] = false
is_integer (b ∷ bs) = cond (eqb b 45) (some_digits bs) (all_digits (b ∷ bs))

-- what an integer says
unfoldable pub integer_value : List ℕ → ℤ
integer_value [] = pos 0
integer_value (b ∷ bs) = cond (eqb b 45) (neg_ℤ (pos (digits_value 0 bs))) (pos (digits_value 0 (b ∷ bs)))

-- from -2147483648 to 4294967295
abbrev pub in_range : ℤ → Bool
in_range (pos n) = leb n 4294967295
in_range (negsuc n) = leb n 2147483647
