-- `values_text::put_values` meets its contract.
use Rattle.std.proofs.Common.{rules}
use Rattle.text.proofs.Laws.{written_by, wrote_both}
use Rattle.values_text.specs.Values.{settings_from, switches_from, values_text}
use Rattle.values_text.proofs.put_values.Goals as goal

pub returns : goal.returns
unfolding values_text
returns c =
    let a = c.args in
    let settings = settings_from a.env a.lits.now a.ends.now a.assignment.now 0 a.env.count in
    let switches = switches_from a.assignment.now 0 a.env.switches in
    written_by _ _ c.new-w.ensures.text (wrote_both settings switches c.put_settings.ensures c.put_switches.ensures) (search rules)
