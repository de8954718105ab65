-- `dimacs::put_literal` meets its contract.
use mathlib.Core.Path.{◌∙◌, sym}
use Rattle.dimacs.proofs.Printing.{wrote_negated, wrote_positive}
use Rattle.dimacs.proofs.put_literal.Goals as goal
use Rattle.dimacs.proofs.put_literal.Goals.{then-is_negated, else-is_negated}

pub returns : goal.returns
returns c =
    let n = c.number.ensures in
    let d = c.put_decimal.ensures in
    let e = sym c.is_negated.ensures in
    elim c.if-is_negated.branch [
      | then-is_negated w ↦ wrote_negated _ n d (e ∙ w.if-is_negated.true) w.w-is w.put.ensures
      | else-is_negated w ↦ wrote_positive _ n d (e ∙ w.if-is_negated.false) w.w-is
    ]
