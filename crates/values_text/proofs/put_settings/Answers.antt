-- `values_text::put_settings` meets its contract.
use mathlib.Core.Path.{◌∙◌}
use mir.Syntax.{w32}
use mir.ValLaws.{to_z-of_z}
use native.Mathlib.Numerals.{unary_clauses}
use Rattle.text.proofs.Laws.{writing_none}
use Rattle.values_text.specs.Values.{setting_at, settings_from}
use Rattle.values_text.proofs.Printing.{lines_end, lines_turn, read_value, setting_read}
use Rattle.values_text.proofs.put_settings.Goals as goal

pub loop-i-init : goal.loop-i-init
loop-i-init c = simp unary_clauses (writing_none c.args.w.now _)

pub loop-i-preserved : goal.loop-i-preserved
unfolding settings_from
loop-i-preserved c =
    let a = c.args in
    let v = c.read_tested-value in
    let u = c.unwrap_or in
    let e = to_z-of_z w32 u.result (record { sfits = u.type_inv }) ∙ u.ensures ∙ read_value a.env v.result ∙ v.ensures.value in
    lines_turn (setting_at a.env a.lits.now a.ends.now a.assignment.now) c.loop-i.i a.env.count c.loop-i-test.true c.loop-i.invariant
    (setting_read c.loop-i.i e c.put_setting_line.ensures)

pub returns : goal.returns
unfolding settings_from
returns c =
    let a = c.args in
    lines_end (setting_at a.env a.lits.now a.ends.now a.assignment.now) c.loop-i.i a.env.count c.loop-i-test.false c.loop-i.invariant
