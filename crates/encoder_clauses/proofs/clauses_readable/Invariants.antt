-- `encoder_clauses::clauses_readable` meets its contract. The loop's invariant: the clauses passed can be read.

use Rattle.encoder_clauses.proofs.Walking.{Passed}
use Rattle.encoder_clauses.proofs.clauses_readable.Given as goal

abbrev pub invariant-loop-k : goal.invariant-loop-k
invariant-loop-k l = Passed l.k-end l.literals l.limit l.lits l.ends l.k
