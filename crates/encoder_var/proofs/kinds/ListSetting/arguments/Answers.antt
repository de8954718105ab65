-- `encoder_var::kinds::List::arguments` meets its contract.
use borrow.Author.Rules.{rules}
use mathlib.Core.Bool.{cond}
use mathlib.Core.List.{List}
use mathlib.Core.Path.{◌≡◌, ◌∙◌, ap, sym}
use Prim.Native.Nat.{◌-◌}
use lib.IntN.{pos, ℤ}
use lib.ListN.{get_or, length}
use mir.Syntax.{w32}
use mir.Val.{SFits}
use mir.ValLaws.{to_z-of_z}
use Rattle.norm_csp.specs.Domain.{list}
use Rattle.encoder_answer.specs.Outcome.{status_of}
use Rattle.encoder_var.specs.Settings.{var_checks}
use Rattle.encoder_var.proofs.Settings.{list_decides}
use Rattle.encoder_var.proofs.kinds.ListSetting.arguments.Goals as goal
use Rattle.encoder_var.proofs.kinds.ListSetting.arguments.Goals.{After-bounds_hold}

-- the last test decides
decided : (c : After-bounds_hold) → status_of (var_checks c.args._switches (list c.args.self.now.values.now)) ≡ cond c.bounds_hold.result 0 3
decided c =
    let ks : List ℤ = c.args.self.now.values.now in
    let low : SFits w32 (get_or ks 0 (pos 0)) = search rules in
    let high : SFits w32 (get_or ks (length ks - 1) (pos 0)) = search rules in
    list_decides c.args._switches ks c.if-n-lt1.false c.if-n-gt64.false (sym c.all_in_range.ensures ∙ c.if-not-all_in_range.false) (sym c.is_rising.ensures ∙ c.if-not-is_rising.false)
    ∙ ap (λ b. cond b 0 3) (rw (to_z-of_z w32 _ low, to_z-of_z w32 _ high) at (sym c.bounds_hold.ensures))

pub returns-then-not-bounds_hold : goal.returns-then-not-bounds_hold
returns-then-not-bounds_hold c = sym (rw c.if-not-bounds_hold.true at (decided (goal.at.returns-then-not-bounds_hold c).After-bounds_hold))

pub returns : goal.returns
returns c = sym (rw c.if-not-bounds_hold.false at (decided (goal.at.returns c).After-bounds_hold))
