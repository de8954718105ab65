-- `log_terms::width_with_eq_term` meets its contract.
use mathlib.Core.Path.{◌∙◌}
use Rattle.log_terms.proofs.Gathering.{enough_width, some_wide, width_most}
use Rattle.log_terms.proofs.width_with_eq_term.Goals as goal

pub returns : goal.returns
returns c =
    let t = c.args.t.now in
    let e = c.width_after.ensures.0 ∙ enough_width t c.requires.2 c.requires.0 t.bits.len c.args.width in
    (e ∙ some_wide t.coef t.bits.len c.args.width c.if-t-eq0.false, rw e (width_most t c.requires.2 c.requires.0 c.args.width c.requires.1))
