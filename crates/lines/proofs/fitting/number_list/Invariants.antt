-- `lines::fitting::number_list` meets its contract.
use Rattle.std.proofs.Common.{◌≤◌, length, take}
use Rattle.lines.specs.Fitting.{AllConverted}
use Rattle.lines.proofs.fitting.number_list.Given as goal

abbrev pub invariant-loop-i : goal.invariant-loop-i
invariant-loop-i g l = (length l.nums ≤ length l.out) × AllConverted g.T.TryFrom.try_from_gives (take l.i l.nums) (take l.i l.out)
