-- `values_text::put_switches` meets its contract.
use Rattle.std.proofs.Common.{◌≡◌, get_or, rules}
use native.Mathlib.Numerals.{unary_clauses}
use Rattle.text.proofs.Laws.{writing_none}
use Rattle.values_text.specs.Values.{switch_at, switches_from}
use Rattle.values_text.proofs.Printing.{lines_end, lines_turn}
use Rattle.values_text.proofs.put_switches.Goals as goal

pub loop-s-init : goal.loop-s-init
loop-s-init c = simp unary_clauses (writing_none c.args.w.now _)

pub loop-s-preserved : goal.loop-s-preserved
unfolding switches_from
loop-s-preserved c =
    let byte : c.unwrap_or.result ≡ get_or c.args.assignment.now c.loop-s.s 0 = search rules in
    lines_turn (switch_at c.args.assignment.now) c.loop-s.s c.args.count c.loop-s-test.true c.loop-s.invariant (rw byte at c.put_switch_line.ensures)

pub returns : goal.returns
unfolding switches_from
returns c = lines_end (switch_at c.args.assignment.now) c.loop-s.s c.args.count c.loop-s-test.false c.loop-s.invariant
