-- `log_terms::width_with_term` meets its contract.
use mathlib.Core.Path.{◌∙◌}
use Rattle.log_terms.proofs.Gathering.{enough_width, width_most}
use Rattle.log_terms.proofs.width_with_term.Goals as goal

pub returns-then-sign-t : goal.returns-then-sign-t
returns-then-sign-t c =
    let t = c.args.t.now in
    let e = c.width_after.ensures.0 ∙ enough_width t c.requires.2 c.requires.0 t.bits.len c.args.width in
    (rw c.if-sign-t.true e, rw e (width_most t c.requires.2 c.requires.0 c.args.width c.requires.1))
