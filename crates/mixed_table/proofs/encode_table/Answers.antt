-- `mixed_table::encode_table` meets its contract.
use mathlib.Core.List.{[]}
use mathlib.Core.Path.{refl, sym}
use Prim.Native.Nat.{◌≤◌}
use native.Mathlib.Omega.{arith}
use Rattle.clause_set.proofs.Writing.{wrote_as, wrote_nothing}
use Rattle.mixed_table.specs.Table.{loss_of, top_of}
use Rattle.mixed_table.proofs.Walk.{walk_covered}
use Rattle.mixed_table.proofs.encode_table.Goals as goal

pub returns-else-slack-from : goal.returns-else-slack-from
returns-else-slack-from c =
    let a = c.args in
    let h : loss_of a.tab.now (top_of a.tab.now a.left) ≤ a.slack = omega (arith, c.from.ensures, c.if-slack-from.false) in
    wrote_as (wrote_nothing a.set.now) refl (sym (walk_covered a.tab.now c.requires.sound_table a.slack [] (top_of a.tab.now a.left) h))
