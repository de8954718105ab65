-- `mixed::negate_all` meets its contract.
use Rattle.mixed.proofs.Infos.{Negated}
use Rattle.mixed.proofs.negate_all.Given as goal

abbrev pub invariant-loop-i : goal.invariant-loop-i
invariant-loop-i l = Negated l.ts l.out l.i
