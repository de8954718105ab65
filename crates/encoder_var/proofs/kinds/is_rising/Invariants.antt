-- `encoder_var::kinds::is_rising` meets its contract.
use mathlib.Core.Path.{◌≡◌}
use mathlib.Core.Bool.{Bool, true}
use mathlib.Core.List.{List}
use Prim.Native.Nat.{◌+◌, ◌-◌, ◌≤◌, ℕ}
use lib.IntN.{pos, ℤ}
use lib.ListN.{get_or, length}
use lib.Signed.{lt_z}
use Rattle.encoder_env.specs.WellFormed.{all_below}
use Rattle.encoder_var.proofs.kinds.is_rising.Given as goal

abbrev rises : List ℤ → ℕ → Bool
rises ks i = lt_z (get_or ks i (pos 0)) (get_or ks (i + 1) (pos 0))

abbrev pub invariant-loop-i : goal.invariant-loop-i
invariant-loop-i l = (l.i - 1 ≤ length l.values - 1) × (all_below (l.i - 1) (rises l.values) ≡ true)
