-- `mixed::fill_table` meets its contract. The loop's invariant, `Filling`: the table has the terms from i on.
use mathlib.Core.Path.{◌≡◌}
use Prim.Native.Nat.{◌+◌}
use lib.ListN.{drop, length}
use Rattle.mixed.proofs.TableTells.{Filling}
use Rattle.mixed.proofs.fill_table.Given as goal

abbrev pub invariant-loop-i : goal.invariant-loop-i
invariant-loop-i l = (l.terms + l.i ≡ length l.before) × Filling l.tab (drop l.i l.ts) l.terms l.left l.lost
