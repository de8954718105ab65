-- The loop of `replay::run` keeps the lengths of the slices, and what is lent within them.
use Rattle.std.proofs.Common.{length, ◌≡◌}
use Rattle.script.specs.Run.{Lent}
use Rattle.replay.proofs.run.Given as goal

abbrev pub invariant-loop : goal.invariant-loop
invariant-loop g l =
    (length l.lits ≡ length l.initial.lits)
    × (length l.ends ≡ length l.initial.ends)
    × (length l.nums ≡ length l.initial.nums)
    × (length l.input ≡ length l.initial.input)
    × Lent l.part.run l.lits l.ends
