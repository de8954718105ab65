-- `ClauseSet::push` meets its contract. The loop's invariant: the first i of the literals that lie inside the store are stored.
use Rattle.std.proofs.Common.{◌≡◌, map, take}
use Rattle.std.proofs.lemmas.List.Edits.{sets}
use Rattle.sat.specs.LitArray.{num}
use Rattle.clause_set.proofs.ClauseSet.push.Given as goal

abbrev pub invariant-loop-i : goal.invariant-loop-i
invariant-loop-i l = l.lits ≡ sets l.initial.lits l.from (map num (take l.i l.l-items))
