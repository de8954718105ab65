-- The `!` of a literal meets its contract.
use borrow.Author.Rules.{rules}
use borrow.Author.Tests.{eq-eqb, ne_eqb}
use Rattle.sat.specs.Lit.{neg}
use Rattle.sat.proofs.LitNot.not.Goals as goal

pub returns-then-n-eq0 : goal.returns-then-n-eq0
unfolding neg
returns-then-n-eq0 c = search (eq-eqb, ne_eqb, rules)

pub returns-else-n-eq0 : goal.returns-else-n-eq0
unfolding neg
returns-else-n-eq0 c = search (eq-eqb, ne_eqb, rules)
