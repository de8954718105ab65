-- `log_mul::push_row` meets its contract.
use mathlib.Core.Path.{refl}
use Rattle.clause_set.proofs.Writing.{wrote_as, wrote_then}
use native.Mathlib.Omega.{arith}
use Rattle.log_mul.proofs.Rows.{row_end, row_start, row_turn}
use Rattle.log_mul.proofs.push_row.Goals as goal

pub loop-y-init : goal.loop-y-init
loop-y-init c = row_start c.args.x.0 c.args.ys.now c.args.set.now c.requires.0 c.requires.2

pub loop-y-preserved : goal.loop-y-preserved
loop-y-preserved c =
    let n = c.new_lit-m.ensures in
    let w = c.and_gate.ensures in
    row_turn c.args.x.0 c.args.ys.now c.loop-y.invariant _ _ c.loop-y-test.true n.new_lit refl (wrote_as (wrote_then n.wrote w) n.wrote.vars_are refl)

pub returns : goal.returns
returns c = row_end c.args.x.0 c.args.ys.now c.loop-y.invariant c.loop-y-test.false (omega arith)
