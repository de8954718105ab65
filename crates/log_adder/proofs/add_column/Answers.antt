-- `log_adder::add_column` meets its contract.
use mathlib.Core.Path.{refl}
use Rattle.clause_set.proofs.Writing.{wrote_as, wrote_then}
use Rattle.log_adder.proofs.OneColumn.{column_added}
use Rattle.log_adder.proofs.add_column.Goals as goal

pub returns : goal.returns
returns c =
    let r = c.result_of-result.ensures in
    let w = wrote_as (wrote_then r.wrote c.push_column.ensures) r.wrote.vars_are refl in
    column_added c.requires.in_bounds c.requires.column_ready _ r.lit
    record { same_lits = w.same_lits; same_ends = w.same_ends; same_base = w.same_base; vars_are = w.vars_are; stores_are = w.stores_are }
