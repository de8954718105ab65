-- `lines::with_minus` meets its contract.
use Rattle.lines.proofs.Steps.{minus_behind, minus_other}
use Rattle.lines.proofs.with_minus.Goals as goal

pub returns-in-Empty : goal.returns-in-Empty
returns-in-Empty c = minus_behind c.in-Empty.is

pub returns-in_default : goal.returns-in_default
returns-in_default c = minus_other c.args.n c.in_default.not-Empty
