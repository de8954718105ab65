-- `log_turned::turned` meets its contract.
use Prim.Native.Nat.{◌≤◌}
use mathlib.Core.Path.{◌≡◌, ◌∙◌, ap, refl}
use native.Mathlib.Omega.{arith}
use lib.IntN.{◌+ℤ◌, neg_ℤ, pos, ℤ}
use mir.Syntax.{w32}
use mir.Val.{SFits, of_z, to_z}
use mir.ValLaws.{to_z-of_z}
use Rattle.arithmetic.specs.Integers.{down, up}
use Rattle.arithmetic.proofs.Integers.{add_read, apart_read}
use Rattle.log_sum.proofs.Offsets.{small_fits}
use Rattle.log_turned.proofs.Turning.{minus_is, negated_turns}
use Rattle.log_turned.proofs.turned.Goals as goal
use Rattle.log_turned.proofs.turned.Goals.{Start}

abbrev given : Start → ℤ
given s = to_z w32 (of_z w32 s.args.constant)

constant-is : (s : Start) → given s ≡ s.args.constant
constant-is s = to_z-of_z w32 s.args.constant s.ranges.constant

small : (s : Start) → (up (given s) ≤ 1000000) × (down (given s) ≤ 1000000)
small s = rw (constant-is s) s.requires.constant_bound

-- 1 more, and 1 less
more-small : (s : Start) → let z = given s +ℤ pos 1 in (up z ≤ 1000001) × (down z ≤ 1000001)
more-small s = let b = small s in omega (arith, add_read (given s) (pos 1), apart_read (given s +ℤ pos 1))

more-fits : (s : Start) → SFits w32 (given s +ℤ pos 1)
more-fits s = let b = more-small s in small_fits (given s +ℤ pos 1) (omega arith) (omega arith)

more-is : (s : Start) → to_z w32 (of_z w32 (given s +ℤ pos 1)) ≡ given s +ℤ pos 1
more-is s = to_z-of_z w32 (given s +ℤ pos 1) (more-fits s)

pub returns-in-Le : goal.returns-in-Le
returns-in-Le c =
    let s = (goal.at.returns-in-Le c).Start in
    let e = minus_is (given s) (omega (arith, small s)) (omega (arith, small s)) ∙ ap neg_ℤ (constant-is s) in
    rw c.in-Le.is (negated_turns c.sum-in-Le.ensures refl e refl)

pub returns-in-Lt : goal.returns-in-Lt
returns-in-Lt c =
    let s = (goal.at.returns-in-Lt c).Start in
    let y = to_z w32 (of_z w32 (given s +ℤ pos 1)) in
    let b : (up y ≤ 1000001) × (down y ≤ 1000001) = rw (more-is s) (more-small s) in
    let e = minus_is y b.0 b.1 ∙ ap neg_ℤ (more-is s) ∙ ap (λ (k : ℤ). neg_ℤ (k +ℤ pos 1)) (constant-is s) in
    rw c.in-Lt.is (negated_turns c.sum-in-Lt.ensures refl e refl)
