-- `log_counts::Shapes::negated_bits` meets its contract.
use mathlib.Core.Path.{◌≡◌, ap}
use mathlib.Core.Bool.{cond}
use Prim.Native.Nat.{ℕ, ◌+◌, ◌-◌, ◌*◌, ◌≤◌}
use native.Mathlib.Omega.{arith}
use lib.ListN.{get_or}
use Rattle.arithmetic.specs.Bits.{shl}
use Rattle.log_encoding.specs.LinearSize.{negated_bits}
use Rattle.log_counts.specs.Counted.{no_shape}
use Rattle.log_counts.proofs.Terms.{shapes_next}
use Rattle.log_counts.proofs.Shapes.negated_bits.Goals as goal
use Rattle.log_counts.proofs.Shapes.negated_bits.Goals.{then-t, else-t}

pub loop-t-preserved : goal.loop-t-preserved
loop-t-preserved c =
    let l = c.loop-t in
    let h = c.loop-t-test.true in
    let t = get_or c.args.self.now.list.now l.t-index no_shape in
    let more : ℕ = cond t.negative (t.coef * (shl t.bits 1 - 1)) 0 in
    let e = ap negated_bits (shapes_next c.args.self.now.list.now l.t-index h) in
    let a : (c.if-t.sum ≡ l.sum + more) × (more ≤ 33554432) =
    elim c.if-t.branch [
      | then-t v ↦ rw (v.sum-is, v.if-t.true) (omega (arith, v.all_bits-sum.ensures.0), omega (arith, v.all_bits-sum.ensures))
      | else-t v ↦ rw (v.sum-is, v.if-t.false) (omega arith, omega arith)
    ] in
    (omega (arith, l.invariant.0, e, a.0), omega (arith, l.invariant.1, a))
