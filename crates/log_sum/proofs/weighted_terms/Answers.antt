-- `log_sum::weighted_terms` meets its contract.
use mathlib.Core.Path.{◌∙◌}
use mir.Syntax.{w32}
use mir.ValLaws.{to_z-of_z}
use Rattle.log_encoding.specs.EncodeLinearLog.{weighted}
use Rattle.log_var.specs.Record.{int_map_of}
use Rattle.log_sum.proofs.Settings.{weighing_end, weighing_turn}
use Rattle.log_sum.proofs.weighted_terms.Goals as goal

pub loop-i-preserved : goal.loop-i-preserved
loop-i-preserved c =
    let l = c.loop-i in
    let im = int_map_of c.args.encodings.now in
    let w = c.weighted_setting.ensures in
    let e = to_z-of_z w32 c.coef_at.result (record { sfits = c.coef_at.type_inv }) ∙ c.coef_at.ensures in
    let x = c.setting_at.ensures.0 in
    weighing_turn im l.invariant c.requires.few c.weighted_setting.result c.loop-i-test.true (w.0 ∙ (λ i. weighted (e i) (im (x i)).lits)) w.1

pub returns : goal.returns
returns c = let l = c.loop-i in weighing_end (int_map_of c.args.encodings.now) l.invariant c.requires.few c.loop-i-test.false
