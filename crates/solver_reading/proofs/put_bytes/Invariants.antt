-- `solver_reading::put_bytes` meets its contract.
use lib.ListN.{take}
use mathlib.Core.List.{map}
use mathlib.Core.Path.{◌≡◌}
use Rattle.solver_reading.specs.Reading.{byte}
use Rattle.solver_reading.proofs.put_bytes.Given as goal

abbrev pub invariant-loop-i : goal.invariant-loop-i
invariant-loop-i l = take l.i l.out ≡ map byte (take l.i l.given)
