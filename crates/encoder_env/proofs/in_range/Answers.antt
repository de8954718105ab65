-- `encoder_env::in_range` meets its contract.
use borrow.Author.Rules.{rules}
use Rattle.encoder_env.proofs.Tests.{signed_tests}
use Rattle.encoder_env.proofs.in_range.Goals as goal

pub returns-then-z-ltminus4095 : goal.returns-then-z-ltminus4095
returns-then-z-ltminus4095 c = search (signed_tests, rules)

pub returns-then-z-gt4095 : goal.returns-then-z-gt4095
returns-then-z-gt4095 c = search (signed_tests, rules)

pub returns : goal.returns
returns c = search (signed_tests, rules)
