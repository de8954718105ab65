-- `log_counts::Shapes::counts_of` meets its contract.
use Prim.Native.Nat.{◌*◌}
use mathlib.Core.Bool.{Bool}
use mathlib.Core.Path.{◌≡◌}
use Rattle.log_counts.specs.Counted.{term_shape}
use Rattle.log_counts.specs.Growth.{Counted}
use Rattle.log_counts.specs.Rules.{Rule}
use Rattle.log_counts.specs.declared.TermShape.{TermShape}
use Rattle.log_counts.proofs.Terms.{TermsCounted}
use Rattle.log_counts.proofs.Shapes.counts_of.Given as goal

-- whatever rule the test tells
abbrev pub invariant-loop-t : goal.invariant-loop-t
invariant-loop-t g l =
    Counted (300 * l.t-index) l.c
    × ((rule : Rule) → ((t : TermShape) (b : Bool) → goal.F-post g l.chosen t b → b ≡ rule.test (term_shape t)) → TermsCounted rule l.self.list.now l.initial.c l.c l.t-index)
