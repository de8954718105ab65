-- `log_adder::log_encoding_adder` meets its contract.
use mathlib.Core.Path.{◌≡◌, ◌∙◌}
use native.Mathlib.Omega.{arith}
use Rattle.std.specs.List.{slice_get}
use Rattle.log_adder.proofs.AdderLoops.{adder_added, extending_turn, going_high, going_ready, going_turn, got}
use Rattle.log_adder.proofs.log_encoding_adder.Goals as goal
use Rattle.log_adder.proofs.log_encoding_adder.Goals.{After-copied}

given-is : (c : After-copied) → c.copied.result ≡ slice_get c.args.given.now c.loop-i.i
given-is c = let g = c.get.ensures.lookup in c.copied.ensures ∙ got c.args.given.now c.loop-i.i c.get.result g.3 g.1

pub own-requires : goal.own-requires
own-requires c = (omega (arith, c.loop-i-test.true, c.requires.adder_fits.few), omega (arith, going_high _ _ _ c.loop-i.invariant c.loop-i-test.true))

pub add_column-requires-clause-column_ready : goal.add_column-requires-clause-column_ready
add_column-requires-clause-column_ready c =
    rw (given-is c) (going_ready _ _ _ c.loop-i.invariant c.requires.adder_fits c.loop-i-test.true _ c.own.ensures)

pub loop-i-preserved : goal.loop-i-preserved
loop-i-preserved c =
    let a = c.add_column.ensures in
    going_turn _ _ _ c.loop-i.invariant c.loop-i-test.true _ c.own.ensures (rw (given-is (goal.at.loop-i-preserved c).After-copied) at a)

pub loop-s-preserved : goal.loop-s-preserved
loop-s-preserved c = extending_turn c.loop-s.invariant c.loop-s-test.true c.add_column-in-loop-s.ensures

pub returns : goal.returns
returns c = adder_added _ _ _ c.loop-i.invariant c.loop-i-test.false c.loop-s.invariant c.loop-s-test.false
