-- `encoder_linear::constant_fits` meets its contract.
use borrow.Author.Rules.{rules}
use Rattle.encoder_env.proofs.Tests.{signed_tests}
use Rattle.encoder_linear.proofs.constant_fits.Goals as goal

pub returns-then-k-ltminus1000000 : goal.returns-then-k-ltminus1000000
returns-then-k-ltminus1000000 c = search (signed_tests, rules)

pub returns-then-k-gt1000000 : goal.returns-then-k-gt1000000
returns-then-k-gt1000000 c = search (signed_tests, rules)

pub returns : goal.returns
returns c = search (signed_tests, rules)
