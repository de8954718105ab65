-- `encoder_var::kinds::Binary::arguments` meets its contract.
use borrow.Author.Rules.{rules}
use mathlib.Core.Bool.{cond, true}
use mathlib.Core.Path.{◌≡◌, ◌∙◌, ap, sym}
use lib.Signed.{lt_z}
use mir.Syntax.{w32}
use mir.Val.{SFits}
use mir.ValLaws.{to_z-of_z}
use Rattle.norm_csp.specs.Domain.{binary}
use Rattle.encoder_answer.specs.Outcome.{status_of}
use Rattle.encoder_env.specs.WellFormed.{in_range}
use Rattle.encoder_env.proofs.Tests.{below_yes}
use Rattle.encoder_var.specs.Settings.{var_checks}
use Rattle.encoder_var.proofs.Settings.{binary_decides}
use Rattle.encoder_var.proofs.kinds.BinarySetting.arguments.Goals as goal
use Rattle.encoder_var.proofs.kinds.BinarySetting.arguments.Goals.{After-bounds_hold}

-- the last test decides
decided : (c : After-bounds_hold) → let s = c.args.self.now in status_of (var_checks c.args.switches (binary s.cond.0 s.f s.t)) ≡ cond c.bounds_hold.result 0 3
decided c =
    let s = c.args.self.now in
    let f : SFits w32 s.f = search rules in
    let t : SFits w32 s.t = search rules in
    let f-in : in_range s.f ≡ true = rw (to_z-of_z w32 s.f f) at (sym c.in_range.ensures) ∙ c.if-not-in_range.false in
    let t-in : in_range s.t ≡ true = rw (to_z-of_z w32 s.t t) at (sym c.in_range-2.ensures) ∙ c.if-not-in_range-2.false in
    let below : lt_z s.f s.t ≡ true = below_yes f t c.if-self.false in
    binary_decides c.args.switches s.cond.0 s.f s.t c.if-self-switches.false f-in t-in below
    ∙ ap (λ b. cond b 0 3) (rw (to_z-of_z w32 s.f f, to_z-of_z w32 s.t t) at (sym c.bounds_hold.ensures))

pub returns-then-not-bounds_hold : goal.returns-then-not-bounds_hold
returns-then-not-bounds_hold c = sym (rw c.if-not-bounds_hold.true at (decided (goal.at.returns-then-not-bounds_hold c).After-bounds_hold))

pub returns : goal.returns
returns c = sym (rw c.if-not-bounds_hold.false at (decided (goal.at.returns c).After-bounds_hold))
