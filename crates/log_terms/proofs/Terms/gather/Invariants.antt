-- `log_terms::Terms::gather` meets its contract.
use mathlib.Core.List.{[], map}
use Rattle.log_encoding.specs.Linear.{gather}
use Rattle.log_terms.specs.Terms.{weighted_of}
use Rattle.log_terms.proofs.Gathering.{Gathering}
use Rattle.log_terms.proofs.Terms.gather.Given as goal

abbrev pub invariant-loop-t : goal.invariant-loop-t
invariant-loop-t l = Gathering gather (map weighted_of l.self.list.now) [] l.cols l.t-index
