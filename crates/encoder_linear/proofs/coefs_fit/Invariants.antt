-- `encoder_linear::coefs_fit` meets its contract.
use mathlib.Core.Path.{◌≡◌}
use mathlib.Core.Bool.{Bool, true}
use mathlib.Core.List.{List}
use Prim.Native.Nat.{ℕ}
use lib.IntN.{ℤ}
use Rattle.encoder_env.specs.WellFormed.{all_below}
use Rattle.encoder_linear.specs.Sums.{coef_at, coef_fits}
use Rattle.encoder_linear.proofs.coefs_fit.Given as goal

abbrev fits : List ℤ → ℕ → Bool
fits terms i = coef_fits (coef_at terms i)

abbrev pub invariant-loop-i : goal.invariant-loop-i
invariant-loop-i l = all_below l.i (fits l.terms) ≡ true
