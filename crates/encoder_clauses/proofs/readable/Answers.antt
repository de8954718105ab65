-- `encoder_clauses::readable` meets its contract.
use lib.ListN.{length}
use mathlib.Core.Bool.{true}
use mathlib.Core.Path.{◌≡◌, ◌∙◌, sym}
use Rattle.encoder_env.specs.WellFormed.{well_formed}
use Rattle.encoder_clauses.specs.Readable.{readable}
use Rattle.encoder_clauses.proofs.readable.Goals as goal
use Rattle.encoder_clauses.proofs.readable.Goals.{Else-not-well_formed}

-- the job is well formed
formed : (c : Else-not-well_formed) → let a = c.args in well_formed a.env (length a.lits.now) (length a.ends.now) ≡ true
formed c = sym c.well_formed-2.ensures ∙ c.if-not-well_formed.false

pub returns-then-not-well_formed : goal.returns-then-not-well_formed
unfolding readable
returns-then-not-well_formed c = let w = c.well_formed-2 in rw (← w.ensures, c.if-not-well_formed.true)

pub returns : goal.returns
unfolding readable
returns c = rw (formed (goal.at.returns c).Else-not-well_formed) c.clauses_readable.ensures
