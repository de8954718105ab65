-- `log_product::mul_constant` meets its contract.
use mathlib.Core.Path.{◌≡◌, ◌∙◌, ap, ap₂, refl}
use Prim.Native.Nat.{◌≤◌}
use native.Mathlib.Omega.{arith}
use lib.IntN.{◌*ℤ◌, ◌-ℤ◌, ℤ}
use mir.Syntax.{w32}
use mir.Val.{SFits, of_z, to_z}
use mir.ValLaws.{to_z-of_z}
use Rattle.arithmetic.specs.Integers.{down, up}
use Rattle.log_sum.proofs.Offsets.{small_fits}
use Rattle.log_product.proofs.OffsetTerms.{constant_small, offsets_small}
use Rattle.log_product.proofs.mul_constant.Goals as goal
use Rattle.log_product.proofs.mul_constant.Goals.{Start}

abbrev product : Start → ℤ
product c = c.args.x *ℤ c.args.y

product-low : (c : Start) → (up (product c) ≤ 16769025) × (down (product c) ≤ 16769025)
product-low c = let p = c.requires in offsets_small c.args.x c.args.y p.0 p.1 p.2 p.3

product-fits : (c : Start) → SFits w32 (product c)
product-fits c = let r = product-low c in small_fits (product c) (omega arith) (omega arith)

rest-low : (c : Start) → (up (product c -ℤ c.args.m) ≤ 16773120) × (down (product c -ℤ c.args.m) ≤ 16773120)
rest-low c = let r = product-low c in let p = c.requires in constant_small (product c) c.args.m r.0 r.1 p.4 p.5

rest-fits : (c : Start) → SFits w32 (product c -ℤ c.args.m)
rest-fits c = let r = rest-low c in small_fits (product c -ℤ c.args.m) (omega arith) (omega arith)

-- what the machine reads of the factors and of the product
factors : (c : Start) → to_z w32 (of_z w32 c.args.x) *ℤ to_z w32 (of_z w32 c.args.y) ≡ product c
factors c = ap₂ ◌*ℤ◌ (to_z-of_z w32 c.args.x c.ranges.x) (to_z-of_z w32 c.args.y c.ranges.y)

parts : (c : Start) → to_z w32 (of_z w32 (to_z w32 (of_z w32 c.args.x) *ℤ to_z w32 (of_z w32 c.args.y))) -ℤ to_z w32 (of_z w32 c.args.m) ≡ product c -ℤ c.args.m
parts c = ap₂ ◌-ℤ◌ (ap (λ (w : ℤ). to_z w32 (of_z w32 w)) (factors c) ∙ to_z-of_z w32 (product c) (product-fits c)) (to_z-of_z w32 c.args.m c.ranges.m)

pub returns : goal.returns
returns c = let r = rest-low (goal.at.returns c).Start in rw (parts (goal.at.returns c).Start, to_z-of_z w32 (product (goal.at.returns c).Start -ℤ c.args.m) (rest-fits (goal.at.returns c).Start)) (refl, omega arith, omega arith)
