-- `encoder_solution::read_answer` meets its contract.
use mathlib.Core.Path.{◌∙◌, ◌≡◌, sym}
use mathlib.Core.Bool.{true}
use lib.ListN.{length}
use Rattle.encoder_env.specs.WellFormed.{well_formed}
use Rattle.encoder_env.proofs.Kept.{kept}
use Rattle.encoder_solution.proofs.Reading.{read_formed, read_unformed}
use Rattle.encoder_solution.proofs.read_answer.Goals as goal
use Rattle.encoder_solution.proofs.read_answer.Goals.{Else-not-well_formed}

-- the job is well formed
held : (c : Else-not-well_formed) → let a = c.args in well_formed a.env (length a.lits.now) (length a.ends.now) ≡ true
held c = let w = c.well_formed-2 in sym w.ensures ∙ c.if-not-well_formed.false

pub returns-then-not-well_formed : goal.returns-then-not-well_formed
returns-then-not-well_formed c =
    let a = c.args in
    let w = c.well_formed-2 in
    read_unformed a.env a.lits.now a.ends.now a.text.now a.assignment.now (sym w.ensures ∙ c.if-not-well_formed.true)

pub read_solution-requires : goal.read_solution-requires
read_solution-requires c = let a = c.args in (kept a.env (length a.lits.now) (length a.ends.now) (held (goal.at.read_solution-requires c).Else-not-well_formed)).variables_max

pub returns : goal.returns
returns c =
    let a = c.args in
    read_formed a.env a.lits.now a.ends.now a.text.now a.assignment.now (held (goal.at.returns c).Else-not-well_formed) c.read_solution.ensures
