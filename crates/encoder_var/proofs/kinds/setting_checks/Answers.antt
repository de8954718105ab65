-- `encoder_var::kinds::setting_checks` meets its contract.
use borrow.Author.Rules.{rules}
use mathlib.Core.Path.{◌≡◌, ◌∙◌, sym}
use Rattle.std.specs.Prelude.{Err}
use Rattle.encoder_env.proofs.Kept.{kept}
use Rattle.encoder_var.proofs.Settings.{arguments_refused}
use Rattle.encoder_var.proofs.kinds.setting_checks.Goals as goal

pub arguments-requires : goal.arguments-requires
arguments-requires g c = let a = c.args in (kept a.env a.lits a.ends (sym c.well_formed-2.ensures ∙ c.if-not-well_formed.false)).switches_max

pub returns-in_err-arguments : goal.returns-in_err-arguments
returns-in_err-arguments g c =
    let a = c.args in
    let is : c.from_residual.result ≡ Err c.in_err-arguments.field-0.0 = search rules in
    rw is
    (arguments_refused a.env a.lits a.ends (g.S.Setting.repr a.s.now) (sym c.well_formed-2.ensures ∙ c.if-not-well_formed.false) _ c.in_err-arguments.ensures)
