-- `log_counts::Shapes::sign_counts` meets its contract.
use Rattle.std.proofs.Common.{rules, tests}
use Rattle.log_counts.proofs.Terms.{of_sign}
use Rattle.log_counts.proofs.Shapes.sign_counts.Goals as goal

pub returns : goal.returns
returns c = c.counts_of.ensures (of_sign c.args.sign) (λ t b p. search (rules, tests))
