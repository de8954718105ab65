-- The turned sum, as it is handed on to the leaf functions.
use Prim.Native.Nat.{◌≤◌}
use lib.IntN.{ℤ}
use lib.ListN.{length, take}
use mathlib.Core.List.{List}
use mathlib.Core.Path.{◌∙◌, ◌≡◌}
use native.Mathlib.Omega.{arith}
use mir.Syntax.{w32}
use mir.Val.{of_z, to_z}
use mir.ValLaws.{to_z-of_z}
use Rattle.arithmetic.specs.Integers.{down, up}
use Rattle.arithmetic.proofs.Integers.{apart_read}
use Rattle.norm_csp.specs.NormOp.{NormOp}
use Rattle.norm_csp.specs.Operations.{normalized}
use Rattle.norm_csp.specs.Rules.{CmpOp, LinearTerm, terms_of}
use Rattle.norm_csp.specs.Turned.{turned}
use Rattle.log_encoding.proofs.Turned.{turned_constant}
use Rattle.log_sum.proofs.Offsets.{small_fits}
use Rattle.log_turned.specs.Turning.{Turns}
use Rattle.log_turned.specs.declared.LinearLit.{LinearLit}

module _ {op : CmpOp} {k : ℤ} {zs : List ℤ} {r : LinearLit} (t : Turns op k zs r) (u : up k ≤ 1000000) (d : down k ≤ 1000000) where
  within : (up r.constant ≤ 1000001) × (down r.constant ≤ 1000001)
  within =
      let b = turned_constant op k (terms_of zs) in
      let one_side = apart_read k in
      rw t.constant_is (omega arith, omega arith)

  -- the constant, as the machine reads it
  machine : to_z w32 (of_z w32 r.constant) ≡ r.constant
  machine = to_z-of_z w32 r.constant (small_fits r.constant (omega (arith, within.0)) (omega (arith, within.1)))

  pub constant_within : (up (to_z w32 (of_z w32 r.constant)) ≤ 1000001) × (down (to_z w32 (of_z w32 r.constant)) ≤ 1000001)
  constant_within = rw machine within

  -- what is made of operation, constant and terms is made of the turned sum's
  pub handed : {A : Type 0} (f : NormOp → ℤ → List LinearTerm → A)
      → f (normalized r.op) (to_z w32 (of_z w32 r.constant)) (terms_of (take (length zs) r.terms))
      ≡ (let s = turned op k (terms_of zs) in f s.op s.constant s.terms)
  handed f = λ i. f (t.op_is i) ((machine ∙ t.constant_is) i) (t.terms_are i)
