-- `job_fields::fields::right_place` meets its contract.
use Rattle.job_fields.proofs.Places.{first_place, later_place}
use Rattle.job_fields.proofs.fields.right_place.Goals as goal

pub returns-then-index-eq0 : goal.returns-then-index-eq0
returns-then-index-eq0 c = first_place _ _ c.if-index-eq0.true

pub returns : goal.returns
returns c = later_place _ _ c.if-index-eq0.false
