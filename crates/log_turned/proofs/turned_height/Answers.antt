-- `log_turned::turned_height` meets its contract.
use mathlib.Core.Path.{◌≡◌}
use mir.Syntax.{w32}
use mir.Val.{of_z, to_z}
use mir.ValLaws.{to_z-of_z}
use Rattle.norm_csp.specs.Operations.{compared}
use Rattle.log_turned.specs.Turning.{Turns}
use Rattle.log_turned.proofs.turned_height.Goals as goal
use Rattle.log_turned.proofs.turned_height.Goals.{After-turned-t, Start}

constant-is : (s : Start) → to_z w32 (of_z w32 s.args.constant) ≡ s.args.constant
constant-is s = to_z-of_z w32 s.args.constant s.ranges.constant

turns : (c : After-turned-t) → let a = c.args in Turns (compared a.op) a.constant a.terms.now c.turned-t.result
turns c = rw (constant-is c.before) at c.turned-t.ensures

pub linear_height-requires-clause-terms_ready : goal.linear_height-requires-clause-terms_ready
linear_height-requires-clause-terms_ready c =
    let t = turns (goal.at.linear_height-requires-clause-terms_ready c).After-turned-t in t.ready c.args.encodings.now c.requires.terms_ready
