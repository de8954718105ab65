-- `mixed::add_last` meets its contract.
use mathlib.Core.Path.{ap, refl}
use Rattle.mixed_table.specs.declared.Table.{Table}
use Rattle.mixed.proofs.Filling.{ends_none, ends_turn}
use Rattle.mixed.proofs.add_last.Goals as goal

pub loop-slack-init : goal.loop-slack-init
loop-slack-init c = rw (ends_none c.args.tab.now.ends c.args.t) refl

pub loop-slack-preserved : goal.loop-slack-preserved
loop-slack-preserved c =
    let l = c.loop-slack in
    let i = l.invariant in
    let more = ends_turn c.args.tab.now.ends l.tab.ends c.args.t l.slack c.lit_at.result (ap (λ (x : Table). x.ends) i) c.lit_at.ensures in
    rw (more, ap (λ (x : Table). x.rows) i, ap (λ (x : Table). x.tops) i) refl
