-- `log_counts::ColumnCounts::push_scaled` meets its contract.
use mathlib.Core.Path.{refl}
use mathlib.Core.Bool.{cond}
use mathlib.Core.List.{List}
use lib.Dec.{eqb}
use borrow.Author.Tests.{eq-eqb, ne_eqb}
use Prim.Native.Nat.{ℕ, ◌+◌, ◌%◌}
use native.Mathlib.Nat.{zero-add}
use native.Mathlib.Omega.{arith}
use Rattle.log_encoding.specs.AdderSize.{push_counts}
use Rattle.log_counts.specs.Growth.{Grown}
use Rattle.log_gather.proofs.Steps.{shl_next, shl_reach}
use Rattle.log_counts.proofs.Growing.{grown_else, grown_where, growing_counted, growing_end, growing_start, growing_turn}
use Rattle.log_counts.proofs.Steps.{scaled_end, scaled_step}
use Rattle.log_counts.proofs.ColumnCounts.push_scaled.Goals as goal
use Rattle.log_counts.proofs.ColumnCounts.push_scaled.Goals.{then-k-eq1, else-k-eq1}

pub loop-s-init : goal.loop-s-init
loop-s-init c = (rw (zero-add c.args.n) c.requires.0, growing_start _ _ _ (λ hs. refl))

pub push-out-requires : goal.push-out-requires
push-out-requires c =
    let l = c.loop-s in
    let r = shl_reach 25 (l.s + c.args.n) l.k l.invariant.0 (omega (arith, c.if-k-eq1.true)) in
    (omega arith, growing_counted l.invariant.1 c.requires.1 (omega arith))

pub loop-s-preserved : goal.loop-s-preserved
loop-s-preserved c =
    let l = c.loop-s in
    let n = c.args.n in
    let step : List ℕ → List ℕ = λ hs. cond (eqb (l.k % 2) 1) (push_counts l.s n hs) hs in
    let pushed : Grown 25 step l.out c.if-k-eq1.out =
    elim c.if-k-eq1.branch [
      | then-k-eq1 v ↦ rw v.out-is (grown_where (push_counts l.s n) (eq-eqb (l.k % 2) 1 v.if-k-eq1.true) v.push-out.ensures)
      | else-k-eq1 v ↦ rw v.out-is (grown_else 25 (push_counts l.s n) (ne_eqb (l.k % 2) 1 v.if-k-eq1.false))
    ] in (
      shl_next 33554432 l.s n l.k l.invariant.0,
      growing_turn l.invariant.1 step _ _ (λ hs. scaled_step 12 l.k l.s n hs c.loop-s-test.true) (omega arith) pushed,
    )

pub returns : goal.returns
returns c =
    let l = c.loop-s in
    growing_end l.invariant.1 (λ hs. scaled_end 12 l.k l.s c.args.n hs c.loop-s-test.false) (omega arith)
