-- `log_mul::push_all_rows` meets its contract.
use mathlib.Core.Path.{refl}
use native.Mathlib.Omega.{arith}
use Rattle.log_mul.proofs.Rows.{rows_end, rows_start, rows_turn}
use Rattle.log_mul.proofs.push_all_rows.Goals as goal

pub loop-x-init : goal.loop-x-init
loop-x-init c = rows_start c.args.xs.now c.args.ys.now c.args.set.now c.requires.0 c.requires.1 c.requires.3

pub loop-x-preserved : goal.loop-x-preserved
loop-x-preserved c = rows_turn c.args.xs.now c.args.ys.now c.loop-x.invariant _ c.loop-x-test.true refl c.push_row.ensures

pub returns : goal.returns
returns c = rows_end c.args.xs.now c.args.ys.now c.loop-x.invariant c.loop-x-test.false (omega arith) c.requires.0 c.requires.1
