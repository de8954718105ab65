-- How long each part of the print is, as the code adds it up.
use Prim.Native.Nat.{◌+◌, ◌<◌, ◌≤◌, ℕ}
use lib.ListN.{drop, get_or, length, length-append}
use mathlib.Core.Bool.{Bool, cond, false, true}
use mathlib.Core.List.{List, ◌∷◌}
use mir.Val.{bool_byte}
use lib.Dec.{eqb}
use mathlib.Core.Path.{◌≡◌}
use native.Mathlib.Omega.{arith}
use Rattle.text.specs.Decimal.{decimal}
use Rattle.solver_answer.specs.Print.{print, signed, values_from}
use Rattle.solver_print.proofs.Printing.{next_value, no_value}

-- a variable's number and its minus
pub signed_long : (x b : ℕ) {d m : ℕ} → (d ≡ length (decimal x)) × (d ≤ 10) → m ≡ bool_byte (eqb b 0) → (d + m ≡ length (signed x b)) × (d + m ≤ 11)
unfolding signed
signed_long x b {d} {m} h e = by (eqb b 0) e
  where
    by : (t : Bool) → m ≡ bool_byte t → (d + m ≡ length (cond t (45 ∷ decimal x) (decimal x))) × (d + m ≤ 11)
    by true q = (omega (arith, h.0, q), omega (arith, h.1, q))
    by false q = (omega (arith, h.0, q), omega (arith, h.1, q))

-- the print, where m bytes are counted and the values from i on are left
module _ (bytes : List ℕ) (i m : ℕ) {g : ℕ} where
  pub values_longer : {d : ℕ} → i < length bytes → d ≡ length (signed (i + 1) (get_or bytes i 0)) → m + length (values_from (i + 1) (drop i bytes)) ≡ g
      → m + (d + 1) + length (values_from (i + 1 + 1) (drop (i + 1) bytes)) ≡ g
  values_longer h e q = omega (arith, e, rw (next_value bytes i h, length-append) at q)

  pub values_long : length bytes ≤ i → m + length (values_from (i + 1) (drop i bytes)) ≡ g + 3 → m ≡ g
  values_long h q = omega (arith, rw (no_value bytes i h) at q)

-- before any number: what is counted is that around the values
pub none_counted : (bytes : List ℕ) → 18 + length (values_from 1 bytes) ≡ length (print bytes) + 3
unfolding print
none_counted bytes = omega arith
