-- `dimacs::lengths::clause_length` meets its contract.
use mathlib.Core.Path.{◌≡◌}
use Prim.Native.Nat.{◌*◌, ◌+◌, ◌≤◌}
use lib.ListN.{drop, length}
use Rattle.dimacs.specs.Dimacs.{clause}
use Rattle.dimacs.proofs.lengths.clause_length.Given as goal

abbrev pub invariant-loop-l : goal.invariant-loop-l
invariant-loop-l l = (l.size ≤ 12 * l.l-index + 2) × (l.size + length (clause (drop l.l-index l.part)) ≡ length (clause l.part) + 2)
