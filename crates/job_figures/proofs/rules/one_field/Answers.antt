-- `job_figures::rules::one_field` meets its contract.
use mathlib.Core.Path.{◌∙◌, refl, sym}
use native.Mathlib.Omega.{arith}
use Rattle.job_figures.proofs.Called.{other_tag, product_long, sum_long, tag_called, wrong_length}
use Rattle.job_figures.proofs.rules.one_field.Goals as goal

pub returns-then-not-right_length : goal.returns-then-not-right_length
returns-then-not-right_length c =
    let a = c.args in
    wrong_length a.env a.f.contents.now a.f.tag (sym c.right_length.ensures ∙ c.if-not-right_length.true)

pub linear-requires : goal.linear-requires
linear-requires c = sum_long _ _ c.in-5.is (sym c.right_length.ensures ∙ c.if-not-right_length.false)

pub mul-requires : goal.mul-requires
mul-requires c = product_long _ _ c.in-6.is (sym c.right_length.ensures ∙ c.if-not-right_length.false)

pub returns-in-5 : goal.returns-in-5
returns-in-5 c =
    let a = c.args in
    c.linear.ensures ∙ tag_called a.env a.f.contents.now a.f.tag 5 c.in-5.is (sym c.right_length.ensures ∙ c.if-not-right_length.false) refl

pub returns-in-6 : goal.returns-in-6
returns-in-6 c =
    let a = c.args in
    c.mul.ensures ∙ tag_called a.env a.f.contents.now a.f.tag 6 c.in-6.is (sym c.right_length.ensures ∙ c.if-not-right_length.false) refl

pub returns-in_default : goal.returns-in_default
returns-in_default c =
    let a = c.args in
    other_tag a.env a.f.contents.now a.f.tag (omega arith) (omega arith)
