-- `encoder_var::kinds::all_in_range` meets its contract.
use borrow.Author.Rules.{rules}
use mathlib.Core.Path.{◌≡◌, ◌∙◌, ap, refl, sym}
use mathlib.Core.Bool.{Bool, false, true}
use mathlib.Core.List.{List}
use Prim.Native.Nat.{ℕ}
use native.Mathlib.Omega.{arith}
use lib.IntN.{pos, ℤ}
use lib.ListN.{get_or, length}
use mir.Syntax.{w32}
use mir.ValLaws.{to_z-of_z}
use Rattle.encoder_env.specs.WellFormed.{all_below, in_range}
use Rattle.encoder_env.proofs.Tests.{all_fail, all_more}
use Rattle.encoder_var.proofs.kinds.all_in_range.Goals as goal

abbrev inside : List ℤ → ℕ → Bool
inside ks i = in_range (get_or ks i (pos 0))

pub loop-z-init : goal.loop-z-init
unfolding all_below
loop-z-init c = refl

pub returns-then-not-in_range : goal.returns-then-not-in_range
returns-then-not-in_range c =
    let ks : List ℤ = c.args.values.now in
    let i = c.loop-z.z-index in
    let e : inside ks i ≡ false = ap in_range (sym (to_z-of_z w32 (get_or ks i (pos 0)) (search rules))) ∙ sym c.in_range.ensures ∙ c.if-not-in_range.true in
    sym (all_fail (inside ks) (length ks) i (omega arith) e)

pub loop-z-preserved : goal.loop-z-preserved
loop-z-preserved c =
    let ks : List ℤ = c.args.values.now in
    let i = c.loop-z.z-index in
    let e : inside ks i ≡ true = ap in_range (sym (to_z-of_z w32 (get_or ks i (pos 0)) (search rules))) ∙ sym c.in_range.ensures ∙ c.if-not-in_range.false in
    all_more (inside ks) i c.loop-z.invariant e
