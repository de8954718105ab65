-- `encoder_linear::settings_rise` meets its contract.
use mathlib.Core.Path.{◌≡◌}
use mathlib.Core.Bool.{Bool, true}
use mathlib.Core.List.{List}
use Prim.Native.Nat.{◌+◌, ◌-◌, ◌/◌, ◌≤◌, ℕ}
use lib.IntN.{ℤ}
use lib.ListN.{length}
use lib.Signed.{lt_z}
use Rattle.encoder_env.specs.WellFormed.{all_below}
use Rattle.encoder_linear.specs.Sums.{setting_at}
use Rattle.encoder_linear.proofs.settings_rise.Given as goal

abbrev rises : List ℤ → ℕ → Bool
rises terms i = lt_z (setting_at terms i) (setting_at terms (i + 1))

abbrev pub invariant-loop-i : goal.invariant-loop-i
invariant-loop-i l = (l.i - 1 ≤ length l.terms / 2 - 1) × (all_below (l.i - 1) (rises l.terms) ≡ true)
