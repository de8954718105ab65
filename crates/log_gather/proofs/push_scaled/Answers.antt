-- `log_gather::push_scaled` meets its contract.
use Prim.Native.Nat.{◌%◌, ◌+◌, ◌/◌, ◌^◌, ◌<◌, ◌≤◌, ℕ}
use mathlib.Core.Path.{◌≡◌}
use mathlib.Core.List.{map}
use native.Mathlib.Nat.{add-zero, mul-le-mul_left}
use Rattle.std.proofs.Common.{arith, rules}
use lib.ListN.{length}
use Rattle.arithmetic.specs.Bits.{shl}
use Rattle.sat.specs.LitArray.{num}
use Rattle.log_encoding.specs.Gather.{push_value}
use Rattle.log_gather.proofs.Pushing.{Scaling, pushed_bit, pushed_no_bit, scaling_end, scaling_start, scaling_turn}
use Rattle.log_gather.proofs.Steps.{shl_next, shl_reach}
use Rattle.log_gather.proofs.push_scaled.Goals as goal
use Rattle.log_gather.proofs.push_scaled.Goals.{then-k-eq1, else-k-eq1}

pub loop-s-init : goal.loop-s-init
loop-s-init c =
    let lits = c.args.lits.now in
    (scaling_start (length lits) c.args.steps c.args.from (map num lits) c.args.coef c.args.cols.now c.requires.arrays.0, rw (add-zero c.args.from) c.requires.steps_bound.1)

-- where the bit is 1, the last column is one of the 32
reach : (o n k : ℕ) → shl (o + n) k < 2 ^ 32 → k % 2 ≡ 1 → o + n < 32
reach o n k h e = shl_reach 32 (o + n) k h (omega arith)

pub overflow_add-from : goal.overflow_add-from
overflow_add-from c =
    let l = c.loop-s in
    let r = reach (c.args.from + l.s) (length c.args.lits.now) l.k l.invariant.1 c.if-k-eq1.true in search rules

pub push_value-requires-clause-lits : goal.push_value-requires-clause-lits
push_value-requires-clause-lits c =
    let l = c.loop-s in
    let r = reach (c.args.from + l.s) (length c.args.lits.now) l.k l.invariant.1 c.if-k-eq1.true in
    (omega arith, c.requires.steps_bound.2)

pub push_value-requires-clause-arrays : goal.push_value-requires-clause-arrays
push_value-requires-clause-arrays c =
    let l = c.loop-s in
    let n = length c.args.lits.now in
    let r = reach (c.args.from + l.s) n l.k l.invariant.1 c.if-k-eq1.true in
    let few : l.s ≤ 12 = omega (arith, c.requires.steps_bound.0, c.loop-s-test.true) in
    let most = mul-le-mul_left n few in
    (l.invariant.0.pushed.arrays, λ i. let k = l.invariant.0.pushed.few 2147480000 c.requires.arrays.1 i in omega arith)

pub loop-s-preserved : goal.loop-s-preserved
loop-s-preserved c =
    let l = c.loop-s in
    let lits = c.args.lits.now in
    let n = length lits in
    let f = push_value (c.args.from + l.s) (map num lits) in
    let next : c.args.from + l.s + 1 + n ≡ c.args.from + (l.s + 1) + n = omega arith in
    let turned : Scaling n c.args.steps c.args.from (map num lits) c.args.coef c.args.cols.now c.if-k-eq1.cols (l.k / 2) (l.s + 1) =
    elim c.if-k-eq1.branch [
      | then-k-eq1 v ↦ rw v.cols-is (scaling_turn l.invariant.0 c.loop-s-test.true _ (pushed_bit l.k f v.if-k-eq1.true v.push_value.ensures))
      | else-k-eq1 v ↦ rw v.cols-is (scaling_turn l.invariant.0 c.loop-s-test.true _ (pushed_no_bit l.cols l.k f v.if-k-eq1.false l.invariant.0.pushed.arrays))
    ] in
    (turned, rw (← next) (shl_next (2 ^ 32) (c.args.from + l.s) n l.k l.invariant.1))

pub returns : goal.returns
returns c = let l = c.loop-s in scaling_end l.invariant.0 (omega (arith, c.loop-s-test.false, l.auto.s-end))
