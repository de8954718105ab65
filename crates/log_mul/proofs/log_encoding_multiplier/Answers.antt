-- `log_mul::log_encoding_multiplier` meets its contract.
use mathlib.Core.Path.{ap, refl, ◌∙◌}
use Rattle.log_encoding.specs.AdderSize.{too_tall}
use Rattle.log_mul.proofs.RowColumns.{multiplier_added, multiplier_reaches}
use Rattle.log_mul.proofs.log_encoding_multiplier.Goals as goal

pub log_encoding_adder-requires-clause-constant_value : goal.log_encoding_adder-requires-clause-constant_value
log_encoding_adder-requires-clause-constant_value c =
    let w = c.multiplier_width-width in
    ap too_tall (multiplier_reaches c.gather_rows-cols.ensures _ w.result w.ensures.0 w.ensures.1) ∙ c.requires.heights

pub returns : goal.returns
returns c =
    let a = c.args in
    let w = c.multiplier_width-width in
    multiplier_added a.x.now a.y.now a.m.now a.set.now.vars c.gather_rows-cols.ensures w.result w.ensures.0 w.ensures.1 c.requires.heights refl c.push_all_rows.ensures c.log_encoding_adder.ensures
