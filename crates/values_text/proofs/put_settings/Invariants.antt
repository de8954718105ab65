-- `values_text::put_settings` meets its contract.
use Rattle.std.proofs.Common.{◌-◌}
use Rattle.text.proofs.Laws.{Writing}
use Rattle.values_text.specs.Values.{settings_from}
use Rattle.values_text.proofs.put_settings.Given as goal

abbrev pub invariant-loop-i : goal.invariant-loop-i
invariant-loop-i l =
    let from = settings_from l.env l.lits l.ends l.assignment in
    Writing l.initial.w (from 0 l.env.count) l.w (from l.i (l.env.count - l.i))
