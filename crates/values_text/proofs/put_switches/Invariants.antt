-- `values_text::put_switches` meets its contract.
use Rattle.std.proofs.Common.{◌-◌}
use Rattle.text.proofs.Laws.{Writing}
use Rattle.values_text.specs.Values.{switches_from}
use Rattle.values_text.proofs.put_switches.Given as goal

abbrev pub invariant-loop-s : goal.invariant-loop-s
invariant-loop-s l = Writing l.initial.w (switches_from l.assignment 0 l.count) l.w (switches_from l.assignment l.s (l.count - l.s))
