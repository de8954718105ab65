-- `log_gather::width_after` meets its contract.
use mathlib.Core.Path.{◌≡◌, sym, ◌∙◌}
use Prim.Native.Nat.{◌-◌, ◌+◌, ◌/◌, ◌^◌}
use Rattle.log_gather.proofs.Steps.{shl_next}
use native.Mathlib.Omega.{arith}
use Rattle.log_gather.specs.Arrays.{widths}
use Rattle.log_gather.proofs.Widths.{widths_step}
use Rattle.log_gather.proofs.width_after.Goals as goal

pub loop-o-preserved : goal.loop-o-preserved
loop-o-preserved c =
    let l = c.loop-o in
    let f = c.args.steps in
    let j : f - l.o - 1 ≡ f - (l.o + 1) = omega arith in (
      c.width_bit-w.ensures.1,
      l.invariant.1 ∙ widths_step (f - l.o) l.k l.o c.args.n l.w (omega (arith, c.loop-o-test.true))
          ∙ (λ i. widths (j i) (l.k / 2) (l.o + 1) c.args.n (sym c.width_bit-w.ensures.0 i)),
      shl_next (2 ^ 32) l.o c.args.n l.k l.invariant.2,
    )
