-- `columns_check::read_terms` meets its contract.
use Rattle.columns_check.proofs.Laws.{TermsGoing}
use Rattle.columns_check.proofs.read_terms.Given as goal

abbrev pub invariant-loop-n : goal.invariant-loop-n
invariant-loop-n l = TermsGoing l.terms l.left l.last l.n
