-- `Bits::rest` meets its contract.
use mathlib.Core.Path.{◌≡◌, ap, refl, ◌∙◌}
use mathlib.Core.List.{map}
use Prim.Native.Nat.{min}
use native.Mathlib.Omega.{arith}
use lib.ListN.{drop, length, length-drop, length-map, length-take}
use Rattle.sat.specs.LitArray.{num}
use Rattle.log_linear.proofs.Comparing.{nums_from}
use Rattle.log_linear.proofs.Literals.{drop_min}
use Rattle.log_linear.proofs.Bits.rest.Goals as goal

pub returns : goal.returns
returns c =
    let xs = c.as_slice.result.now in
    let m = c.min.result in
    let n : m ≡ min c.args.k (length (map num xs)) = omega (arith, c.min.ensures, c.as_slice.ensures.1, length-map xs num) in (
      nums_from xs m m refl ∙ ap (λ j. drop j (map num xs)) n ∙ drop_min c.args.k (map num xs) ∙ ap (drop c.args.k) c.as_slice.ensures.0,
      rw (length-take, length-drop) (omega (arith, c.as_slice.ensures.1, c.requires)),
    )
