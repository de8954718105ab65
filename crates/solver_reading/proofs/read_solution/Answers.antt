-- `solver_reading::read_solution` meets its contract.
use mathlib.Core.Path.{sym}
use native.Mathlib.Omega.{arith}
use Rattle.solver_reading.proofs.Answers.{room_long, room_open, room_read}
use Rattle.solver_reading.proofs.read_solution.Goals as goal

pub slice_bounds-read_over-end : goal.slice_bounds-read_over-end
slice_bounds-read_over-end c = sym (room_long c.args.n c.requires)

pub read_over-requires-clause-few : goal.read_over-requires-clause-few
read_over-requires-clause-few c = let e = room_long c.args.n c.requires in omega (arith, e, c.requires)

pub read_over-requires-clause-open : goal.read_over-requires-clause-open
read_over-requires-clause-open c = room_open c.args.n c.requires

pub returns : goal.returns
returns c = room_read c.args.n c.requires c.read_over.ensures
