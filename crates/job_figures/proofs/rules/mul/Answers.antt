-- `job_figures::rules::mul` meets its contract.
use mathlib.Core.Path.{◌∙◌}
use Rattle.job_figures.proofs.Called.{mul_called}
use Rattle.job_figures.proofs.rules.mul.Goals as goal

pub returns : goal.returns
returns c =
    let a = c.args in
    c.mul_figures.ensures ∙ mul_called a.env a.s.now c.from-x.ensures c.from-y.ensures c.from-m.ensures
