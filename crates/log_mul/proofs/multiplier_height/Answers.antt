-- `log_mul::multiplier_height` meets its contract.
use mathlib.Core.Path.{ap, ◌∙◌}
use Rattle.log_encoding.specs.AdderSize.{greatest_height}
use Rattle.log_mul.proofs.RowColumns.{slice_reaches}
use Rattle.log_mul.proofs.multiplier_height.Goals as goal

pub returns : goal.returns
returns c =
    let w = c.multiplier_width-width in
    c.greatest_height.ensures ∙ ap greatest_height (slice_reaches c.gather_rows-cols.ensures c.args.given w.result w.ensures.0 w.ensures.1 _ c.first_counts.ensures)
