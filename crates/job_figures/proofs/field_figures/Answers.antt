-- `job_figures::field_figures` meets its contract.
use borrow.Author.Rules.{rules}
use mathlib.Core.Path.{◌≡◌, ◌∙◌}
use Rattle.std.specs.Prelude.{Err}
use Rattle.refusal.specs.declared.Refusal.TheVariants.{BadField}
use Rattle.job_file.proofs.Running.{none_there}
use Rattle.job_figures.proofs.Single.{broken_field, more_behind, no_field, only_field}
use Rattle.job_figures.proofs.field_figures.Goals as goal

pub returns-in_err-f : goal.returns-in_err-f
returns-in_err-f c =
    let a = c.args in
    let is : c.from_residual.result ≡ Err BadField = search rules in
    rw is (broken_field a.env a.bytes.now c.in_err-f.ensures.place)

pub returns-in_default : goal.returns-in_default
returns-in_default c =
    let a = c.args in
    no_field a.env a.bytes.now (rw (none_there _ c.in_default.not-Some) at c.in_ok-f.ensures.place)

pub returns-then-f-bytes : goal.returns-then-f-bytes
returns-then-f-bytes c =
    let a = c.args in
    let f = c.in-Some.f in
    more_behind a.env a.bytes.now f.tag f.contents.now f.end (rw c.in-Some.is at c.in_ok-f.ensures.place) c.if-f-bytes.true

pub returns : goal.returns
returns c =
    let a = c.args in
    let f = c.in-Some.f in
    c.one_field.ensures ∙ only_field a.env a.bytes.now f.tag f.contents.now f.end (rw c.in-Some.is at c.in_ok-f.ensures.place) c.if-f-bytes.false
