-- `log_terms::Terms::gather_sign` meets its contract.
use mathlib.Core.List.{[], ◌∷◌, map}
use Rattle.log_encoding.specs.Linear.{gather_sign}
use Rattle.log_terms.specs.Terms.{weighted_of}
use Rattle.log_terms.proofs.Gathering.{Gathering}
use Rattle.log_terms.proofs.Terms.gather_sign.Given as goal

abbrev pub invariant-loop-t : goal.invariant-loop-t
invariant-loop-t l = Gathering (gather_sign l.sign) (map weighted_of l.self.list.now) ([] ∷ []) l.cols l.t-index
