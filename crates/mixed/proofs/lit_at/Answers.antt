-- `mixed::lit_at` meets its contract, by the branch on `falling`.
use mathlib.Core.Path.{◌∙◌}
use Rattle.mixed.specs.Infos.{info_lit}
use Rattle.mixed.proofs.lit_at.Goals as goal

pub returns-then-t : goal.returns-then-t
unfolding info_lit
returns-then-t c = c.not.ensures ∙ rw c.if-t.true

pub returns-else-t : goal.returns-else-t
unfolding info_lit
returns-else-t c = rw c.if-t.false
