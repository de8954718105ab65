-- `encoder_linear::settings_known` meets its contract.
use mathlib.Core.Path.{◌≡◌}
use mathlib.Core.Bool.{Bool, true}
use mathlib.Core.List.{List}
use Prim.Native.Nat.{ℕ}
use lib.IntN.{ℤ}
use Rattle.encoder_env.specs.WellFormed.{all_below}
use Rattle.encoder_linear.specs.Sums.{setting_at, setting_known}
use Rattle.encoder_linear.proofs.settings_known.Given as goal

abbrev known : ℕ → List ℤ → ℕ → Bool
known count terms i = setting_known count (setting_at terms i)

abbrev pub invariant-loop-i : goal.invariant-loop-i
invariant-loop-i l = all_below l.i (known l.count l.terms) ≡ true
