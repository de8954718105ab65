-- `log_terms::Terms::width_of_sign` meets its contract.
use mathlib.Core.List.{[], ◌∷◌, map}
use Prim.Native.Nat.{◌≤◌}
use Rattle.log_encoding.specs.Linear.{gather_sign}
use Rattle.log_terms.specs.Terms.{weighted_of}
use Rattle.log_terms.proofs.Gathering.{WidthLeft}
use Rattle.log_terms.proofs.Terms.width_of_sign.Given as goal

abbrev pub invariant-loop-t : goal.invariant-loop-t
invariant-loop-t l = WidthLeft (gather_sign l.sign) (map weighted_of l.self.list.now) ([] ∷ []) l.w l.t-index × (l.w ≤ 25)
