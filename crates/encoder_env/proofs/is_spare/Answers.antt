-- `encoder_env::is_spare` meets its contract.
use Rattle.encoder_env.proofs.Tests.{signed_tests, tests}
use Rattle.encoder_env.specs.WellFormed.{is_spare}
use borrow.Author.Rules.{rules}
use Rattle.encoder_env.proofs.is_spare.Goals as goal

pub returns-then-e-ne0 : goal.returns-then-e-ne0
unfolding is_spare
returns-then-e-ne0 c = search (signed_tests, tests, rules)

pub returns-then-e-ne0-2 : goal.returns-then-e-ne0-2
unfolding is_spare
returns-then-e-ne0-2 c = search (signed_tests, tests, rules)

pub returns-then-e-ne0-3 : goal.returns-then-e-ne0-3
unfolding is_spare
returns-then-e-ne0-3 c = search (signed_tests, tests, rules)

pub returns-then-e-ne0-4 : goal.returns-then-e-ne0-4
unfolding is_spare
returns-then-e-ne0-4 c = search (signed_tests, tests, rules)

pub returns : goal.returns
unfolding is_spare
returns c = search (signed_tests, tests, rules)
