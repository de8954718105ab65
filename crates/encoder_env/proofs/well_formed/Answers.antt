-- `encoder_env::well_formed` meets its contract.
use borrow.Author.Rules.{rules}
use mathlib.Core.Path.{◌≡◌, ◌∙◌, sym}
use mathlib.Core.Bool.{true}
use Rattle.encoder_env.specs.WellFormed.{stores_within, well_formed}
use Rattle.encoder_env.proofs.Tests.{tests}
use Rattle.encoder_env.proofs.well_formed.Goals as goal
use Rattle.encoder_env.proofs.well_formed.Goals.{Else-not-stores_within}

within : (c : Else-not-stores_within) → let a = c.args in stores_within a.lits a.ends ≡ true
within c = sym c.stores_within.ensures ∙ c.if-not-stores_within.false

pub returns-then-not-stores_within : goal.returns-then-not-stores_within
unfolding well_formed
returns-then-not-stores_within c = let s = c.stores_within in rw (← s.ensures, c.if-not-stores_within.true)

pub returns-then-env-gt64 : goal.returns-then-env-gt64
unfolding well_formed
returns-then-env-gt64 c = rw (within (goal.at.returns-then-env-gt64 c).Else-not-stores_within) (search (tests, rules))

pub returns-then-env-gt65535 : goal.returns-then-env-gt65535
unfolding well_formed
returns-then-env-gt65535 c = rw (within (goal.at.returns-then-env-gt65535 c).Else-not-stores_within) (search (tests, rules))

pub returns-then-env : goal.returns-then-env
unfolding well_formed
returns-then-env c = rw (within (goal.at.returns-then-env c).Else-not-stores_within) (search (tests, rules))

pub returns-then-env-gt32 : goal.returns-then-env-gt32
unfolding well_formed
returns-then-env-gt32 c = rw (within (goal.at.returns-then-env-gt32 c).Else-not-stores_within) (search (tests, rules))

pub returns-then-lits-literals : goal.returns-then-lits-literals
unfolding well_formed
returns-then-lits-literals c = rw (within (goal.at.returns-then-lits-literals c).Else-not-stores_within) (search (tests, rules))

pub returns-then-ends-clauses : goal.returns-then-ends-clauses
unfolding well_formed
returns-then-ends-clauses c = rw (within (goal.at.returns-then-ends-clauses c).Else-not-stores_within) (search (tests, rules))

pub returns : goal.returns
unfolding well_formed
returns c = rw (within (goal.at.returns c).Else-not-stores_within) (search (tests, rules))
