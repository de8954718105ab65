-- `log_counts::Shapes::eq_counts` meets its contract.
use Rattle.std.proofs.Common.{rules, tests}
use Rattle.log_counts.proofs.Terms.{with_bits}
use Rattle.log_counts.proofs.Shapes.eq_counts.Goals as goal

pub returns : goal.returns
returns c = c.counts_of.ensures with_bits (λ t b p. search (rules, tests))
