-- `job_file::one_field` meets its contract.
use mathlib.Core.Path.{◌∙◌, sym}
use Rattle.job_file.proofs.Called.{field_called, field_wrong_length, field_wrong_place}
use Rattle.job_file.proofs.one_field.Goals as goal

pub returns-then-not-right_place : goal.returns-then-not-right_place
returns-then-not-right_place c =
    let a = c.args in
    field_wrong_place a.env a.lits.now a.ends.now a.f.contents.now a.index a.f.tag (sym c.right_place.ensures ∙ c.if-not-right_place.true)

pub returns-then-not-right_length : goal.returns-then-not-right_length
returns-then-not-right_length c =
    let a = c.args in
    field_wrong_length a.env a.lits.now a.ends.now a.f.contents.now a.index a.f.tag (sym c.right_place.ensures ∙ c.if-not-right_place.false) (sym c.right_length.ensures ∙ c.if-not-right_length.true)

pub returns : goal.returns
returns c =
    let a = c.args in
    field_called a.env a.lits.now a.ends.now a.f.contents.now a.index a.f.tag (sym c.right_place.ensures ∙ c.if-not-right_place.false) (sym c.right_length.ensures ∙ c.if-not-right_length.false) c.call.ensures
