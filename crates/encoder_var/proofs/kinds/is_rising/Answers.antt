-- `encoder_var::kinds::is_rising` meets its contract.
use borrow.Author.Rules.{rules}
use mathlib.Core.Path.{◌≡◌, refl, sym}
use mathlib.Core.Bool.{Bool}
use mathlib.Core.List.{List}
use Prim.Native.Nat.{◌+◌, ◌-◌, ℕ}
use native.Mathlib.Omega.{arith}
use lib.IntN.{pos, ℤ}
use lib.ListN.{get_or, length}
use lib.Signed.{lt_z}
use mir.Syntax.{w32}
use mir.Val.{SFits}
use Rattle.encoder_env.specs.WellFormed.{all_below}
use Rattle.encoder_env.proofs.Tests.{all_fail, all_more, below_no, below_yes}
use Rattle.encoder_var.proofs.kinds.is_rising.Goals as goal

abbrev rises : List ℤ → ℕ → Bool
rises ks i = lt_z (get_or ks i (pos 0)) (get_or ks (i + 1) (pos 0))

pub loop-i-init : goal.loop-i-init
unfolding all_below
loop-i-init c = (omega arith, refl)

pub returns-then-b-a : goal.returns-then-b-a
returns-then-b-a c =
    let ks : List ℤ = c.args.values.now in
    let i = c.loop-i.i - 1 in
    let next : i + 1 ≡ c.loop-i.i = omega arith in
    let f : SFits w32 (get_or ks i (pos 0)) = search rules in
    let g : SFits w32 (get_or ks (i + 1) (pos 0)) = rw next (search rules) in
    sym (all_fail (rises ks) (length ks - 1) i (omega arith) (below_no f g (rw next c.if-b-a.true)))

pub loop-i-preserved : goal.loop-i-preserved
loop-i-preserved c =
    let ks : List ℤ = c.args.values.now in
    let l = c.loop-i in
    let i = l.i - 1 in
    let next : i + 1 ≡ l.i = omega arith in
    let last : l.i + 1 - 1 ≡ i + 1 = omega arith in
    let f : SFits w32 (get_or ks i (pos 0)) = search rules in
    let g : SFits w32 (get_or ks (i + 1) (pos 0)) = rw next (search rules) in
    (omega arith, rw last (all_more (rises ks) i l.invariant.1 (below_yes f g (rw next c.if-b-a.false))))

pub returns : goal.returns
returns c =
    let ks : List ℤ = c.args.values.now in
    let l = c.loop-i in
    let e : length ks - 1 ≡ l.i - 1 = omega arith in
    rw e (sym l.invariant.1)
