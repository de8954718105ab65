-- Values that rise.
use lib.IntN.{ℤ}
use lib.Signed.{◌≤ℤ◌}
use mathlib.Core.List.{List, [], ◌∷◌}
use native.Mathlib.Omega.{arith}
use Rattle.arithmetic.proofs.Integers.{<ℤ_le, order_read, ≤ℤ_trans}
use Rattle.norm_csp.specs.Domain.{RisingFrom, last_from}

-- the last is not below the first
pub rising_last : (k : ℤ) (ks : List ℤ) → RisingFrom k ks → k ≤ℤ last_from k ks
rising_last k [] r = (order_read k k).1 (omega arith)
rising_last k (m ∷ ms) r = ≤ℤ_trans k m (last_from m ms) (<ℤ_le k m r.0) (rising_last m ms r.1)
