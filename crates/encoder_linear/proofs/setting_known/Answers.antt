-- `encoder_linear::setting_known` meets its contract.
use borrow.Author.Rules.{rules}
use borrow.Author.Tests.{lt-ltb}
use mathlib.Core.Path.{◌≡◌, ◌∙◌, ap, refl, sym}
use mathlib.Core.Bool.{true}
use Prim.Native.Nat.{ℕ}
use native.Mathlib.Omega.{arith}
use lib.Dec.{ltb}
use lib.IntN.{nat_abs, negsuc, pos, ℤ}
use lib.Signed.{lt_z}
use mir.Syntax.{w32}
use mir.Val.{of_z, to_z}
use mir.ValLaws.{to_z-of_z}
use Rattle.arithmetic.specs.Integers.{down, up}
use Rattle.arithmetic.proofs.Integers.{apart_read}
use Rattle.arithmetic.proofs.Offset.{plain}
use Rattle.encoder_env.specs.WellFormed.{lez}
use Rattle.encoder_env.proofs.Tests.{lez_read, signed_tests}
use Rattle.encoder_linear.proofs.setting_known.Goals as goal
use Rattle.encoder_linear.proofs.setting_known.Goals.{Else-x-lt0}

-- past the first test, x is not negative
natural : (c : Else-x-lt0) → lez (pos 0) c.args.x ≡ true
natural c = search (signed_tests, rules)

no_sign : (c : Else-x-lt0) → down c.args.x ≡ 0
no_sign c = let x = c.args.x in omega (arith, lez_read (pos 0) x (natural c), apart_read x)

-- what the machine reads of it
read : (c : Else-x-lt0) → nat_abs (to_z w32 (of_z w32 c.args.x)) ≡ up c.args.x
read c = let x = c.args.x in ap nat_abs (to_z-of_z w32 x c.ranges.x) ∙ (plain x (no_sign c)).1

below : (x : ℤ) (n : ℕ) → down x ≡ 0 → lt_z x (pos n) ≡ ltb (up x) n
below (pos k) n e = refl
below (negsuc k) n e = absurd (omega arith)

pub returns-then-x-lt0 : goal.returns-then-x-lt0
returns-then-x-lt0 c = search (signed_tests, rules)

pub returns : goal.returns
returns c =
    let a = c.args in
    sym (rw (natural (goal.at.returns c).Else-x-lt0, below a.x a.count (no_sign (goal.at.returns c).Else-x-lt0), lt-ltb (up a.x) a.count (omega (arith, read (goal.at.returns c).Else-x-lt0, c.if-x-count.false))))
