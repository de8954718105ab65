-- How long a print is at most.
use Prim.Native.Nat.{◌*◌, ◌+◌, ◌<◌, ◌≤◌, suc, ℕ}
use lib.Dec.{eqb}
use lib.ListN.{length, length-append}
use mathlib.Core.Bool.{Bool, false, true}
use mathlib.Core.List.{List, [], ◌∷◌}
use mathlib.Core.Path.{◌≡◌, refl}
use native.Mathlib.Omega.{arith}
use Rattle.text.specs.Decimal.{decimal}
use Rattle.text.proofs.Numerals.{decimal_length}
use Rattle.solver_answer.specs.Print.{print, signed, values_from}

-- a number of at most five digits, with or without a minus
signed_size : (x b : ℕ) → x < 100000 → length (signed x b) ≤ 6
unfolding signed
signed_size x b h = by (eqb b 0) refl (decimal_length 4 x (omega arith))
  where
    by : (c : Bool) → eqb b 0 ≡ c → length (decimal x) ≤ 5 → length (signed x b) ≤ 6
    by true e d = rw e (omega arith)
    by false e d = rw e (omega arith)

values_size : (x : ℕ) (bytes : List ℕ) → x + length bytes ≤ 100000 → length (values_from x bytes) ≤ 7 * length bytes + 3
unfolding values_from
values_size x [] h = omega arith
values_size x (b ∷ bytes) h =
    omega (arith, length-append (signed x b) (values_from (suc x) bytes), signed_size x b (omega arith), values_size (suc x) bytes (omega arith))

-- 7 bytes a variable, and 18 around them
pub print_size : (bytes : List ℕ) → length bytes < 100000 → length (print bytes) ≤ 7 * length bytes + 18
unfolding print
print_size bytes h = omega (arith, values_size 1 bytes (omega arith))
