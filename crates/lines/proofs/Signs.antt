-- A number of the range as an i64, and its negative.
use Prim.Native.Nat.{ℕ, zero, suc, ◌≤◌}
use native.Mathlib.Omega.{arith}
use mathlib.Core.Path.{◌≡◌}
use lib.IntN.{pos, neg_ℤ, ◌-ℤ◌, +ℤ_idl}
use mir.Syntax.{w64}
use mir.Val.{SFits, to_z}
use mir.ValLaws.{to_z_pos}

pub as_i64 : (n : ℕ) → n ≤ 4294967295 → to_z w64 n ≡ pos n
as_i64 n h = to_z_pos w64 n (omega arith)

pub negated : (n : ℕ) → n ≤ 2147483648 → pos 0 -ℤ to_z w64 n ≡ neg_ℤ (pos n)
negated n h = rw (as_i64 n (omega arith)) (+ℤ_idl (neg_ℤ (pos n)))

pub negated_fits : (n : ℕ) → n ≤ 2147483648 → SFits w64 (neg_ℤ (pos n))
negated_fits zero h = record { sfits = omega arith }
negated_fits (suc n) h = record { sfits = omega arith }
