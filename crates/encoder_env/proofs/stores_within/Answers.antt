-- `encoder_env::stores_within` meets its contract.
use borrow.Author.Rules.{rules}
use Rattle.encoder_env.specs.WellFormed.{stores_within}
use Rattle.encoder_env.proofs.Tests.{tests}
use Rattle.encoder_env.proofs.stores_within.Goals as goal

pub returns-then-lits-gt16777216 : goal.returns-then-lits-gt16777216
unfolding stores_within
returns-then-lits-gt16777216 c = search (tests, rules)

pub returns-then-ends-gt16777216 : goal.returns-then-ends-gt16777216
unfolding stores_within
returns-then-ends-gt16777216 c = search (tests, rules)

pub returns : goal.returns
unfolding stores_within
returns c = search (tests, rules)
