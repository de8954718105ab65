-- `encoder_answer::add` meets its contract.
use mathlib.Core.Path.{◌≡◌}
use borrow.Author.Rules.{rules}
use Rattle.std.specs.Prelude.{Err}
use Rattle.encoder_answer.proofs.Answering.{answered, fits, no_space, refused_before}
use Rattle.encoder_answer.proofs.add.Goals as goal

pub returns-in_err-check : goal.returns-in_err-check
returns-in_err-check g c =
    let a = c.args in
    let is : c.from_residual.result ≡ Err c.in_err-check.field-0.0 = search rules in
    refused_before (g.A.AddingCall.asks a.call.now) (g.A.AddingCall.gives a.call.now) a.env a.lits.now a.ends.now c.check.ensures.settles _ c.in_err-check.ensures.number is

pub returns-in_err-space_checks : goal.returns-in_err-space_checks
returns-in_err-space_checks g c =
    let a = c.args in
    let is : c.from_residual-in_err-space_checks.result ≡ Err c.in_err-space_checks.field-0.0 = search rules in
    no_space (g.A.AddingCall.asks a.call.now) (g.A.AddingCall.gives a.call.now) a.env a.lits.now a.ends.now c.check.ensures.settles c.in_ok-check.ensures.number _ c.write_into-size.ensures _ c.in_err-space_checks.ensures is

pub job_after-requires : goal.job_after-requires
job_after-requires g c =
    let a = c.args in
    fits (g.A.AddingCall.asks a.call.now) (g.A.AddingCall.gives a.call.now) a.env a.lits.now a.ends.now c.check.ensures.settles c.in_ok-check.ensures.number _ c.write_into-size.ensures c.in_ok-space_checks.ensures _ c.write_into-new.ensures

pub returns : goal.returns
returns g c =
    let a = c.args in
    answered (g.A.AddingCall.asks a.call.now) (g.A.AddingCall.gives a.call.now) a.env a.lits.now a.ends.now c.check.ensures.settles c.in_ok-check.ensures.number _ c.write_into-size.ensures c.in_ok-space_checks.ensures _ c.write_into-new.ensures _ c.job_after.ensures
