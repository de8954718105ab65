-- `log_sum::add_offset` meets its contract.
use mathlib.Core.Path.{◌≡◌, ◌∙◌, ap, ap₂, refl}
use Prim.Native.Nat.{◌+◌, ◌≤◌}
use native.Mathlib.Omega.{arith}
use lib.IntN.{◌*ℤ◌, ◌+ℤ◌, ℤ}
use mir.Syntax.{w32}
use mir.Val.{SFits, of_z, to_z}
use mir.ValLaws.{to_z-of_z}
use Rattle.arithmetic.specs.Integers.{down, up}
use Rattle.log_sum.proofs.Offsets.{added_small, product_small, small_fits}
use Rattle.log_sum.proofs.add_offset.Goals as goal
use Rattle.log_sum.proofs.add_offset.Goals.{Start}

abbrev product : Start → ℤ
product c = c.args.coef *ℤ c.args.offset

product-low : (c : Start) → (up (product c) ≤ 1044225) × (down (product c) ≤ 1044225)
product-low c = let p = c.requires.coef_bound in product_small c.args.coef c.args.offset p.0 p.1 p.2 p.3

product-fits : (c : Start) → SFits w32 (product c)
product-fits c = let r = product-low c in small_fits (product c) (omega arith) (omega arith)

sum_low : (c : Start) → (up (product c +ℤ c.args.sum) ≤ up c.args.sum + 1044225) × (down (product c +ℤ c.args.sum) ≤ down c.args.sum + 1044225)
sum_low c = let r = product-low c in let z = added_small (product c) c.args.sum in (omega arith, omega arith)

sum_fits : (c : Start) → SFits w32 (product c +ℤ c.args.sum)
sum_fits c = let r = sum_low c in small_fits (product c +ℤ c.args.sum) (omega (arith, c.requires.sum_bound)) (omega (arith, c.requires.sum_bound))

-- what the machine reads of the factors and of the product
factors : (c : Start) → to_z w32 (of_z w32 c.args.coef) *ℤ to_z w32 (of_z w32 c.args.offset) ≡ product c
factors c = ap₂ ◌*ℤ◌ (to_z-of_z w32 c.args.coef c.ranges.coef) (to_z-of_z w32 c.args.offset c.ranges.offset)

summands : (c : Start) → to_z w32 (of_z w32 (to_z w32 (of_z w32 c.args.coef) *ℤ to_z w32 (of_z w32 c.args.offset))) +ℤ to_z w32 (of_z w32 c.args.sum) ≡ product c +ℤ c.args.sum
summands c = ap₂ ◌+ℤ◌ (ap (λ (w : ℤ). to_z w32 (of_z w32 w)) (factors c) ∙ to_z-of_z w32 (product c) (product-fits c)) (to_z-of_z w32 c.args.sum c.ranges.sum)

pub returns : goal.returns
returns c = let r = sum_low (goal.at.returns c).Start in rw (summands (goal.at.returns c).Start, to_z-of_z w32 (product (goal.at.returns c).Start +ℤ c.args.sum) (sum_fits (goal.at.returns c).Start)) (refl, r.0, r.1)
