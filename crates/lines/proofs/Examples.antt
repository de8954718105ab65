-- Worked integers: -12, 007, -0, bytes that are none, and the ends of the range.
use Rattle.std.proofs.Common.{Some, None}
use mathlib.Core.Path.{◌≡◌, refl}
use mathlib.Core.Bool.{false}
use mathlib.Core.List.{[], ◌∷◌}
use lib.IntN.{pos, negsuc}
use Rattle.text.specs.Decimal.{digits_value}
use Rattle.lines.specs.Integers.{all_digits, is_integer, integer_value}
use Rattle.lines.specs.Numerals.{token_integer}

minus_twelve : integer_value (45 ∷ 49 ∷ 50 ∷ []) ≡ negsuc 11
unfolding integer_value digits_value
minus_twelve = refl

seven : integer_value (48 ∷ 48 ∷ 55 ∷ []) ≡ pos 7
unfolding integer_value digits_value
seven = refl

minus_zero : integer_value (45 ∷ 48 ∷ []) ≡ pos 0
unfolding integer_value digits_value
minus_zero = refl

no_digit : is_integer (45 ∷ []) ≡ false
unfolding is_integer
no_digit = refl

plus_five : is_integer (43 ∷ 53 ∷ []) ≡ false
unfolding is_integer all_digits
plus_five = refl

greatest : token_integer (52 ∷ 50 ∷ 57 ∷ 52 ∷ 57 ∷ 54 ∷ 55 ∷ 50 ∷ 57 ∷ 53 ∷ []) ≡ Some (pos 4294967295)
unfolding token_integer is_integer integer_value all_digits digits_value
greatest = refl

above_greatest : token_integer (52 ∷ 50 ∷ 57 ∷ 52 ∷ 57 ∷ 54 ∷ 55 ∷ 50 ∷ 57 ∷ 54 ∷ []) ≡ None
unfolding token_integer is_integer integer_value all_digits digits_value
above_greatest = refl

least : token_integer (45 ∷ 50 ∷ 49 ∷ 52 ∷ 55 ∷ 52 ∷ 56 ∷ 51 ∷ 54 ∷ 52 ∷ 56 ∷ []) ≡ Some (negsuc 2147483647)
unfolding token_integer is_integer integer_value all_digits digits_value
least = refl

below_least : token_integer (45 ∷ 50 ∷ 49 ∷ 52 ∷ 55 ∷ 52 ∷ 56 ∷ 51 ∷ 54 ∷ 52 ∷ 57 ∷ []) ≡ None
unfolding token_integer is_integer integer_value all_digits digits_value
below_least = refl
