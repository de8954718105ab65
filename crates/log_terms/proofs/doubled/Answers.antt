-- `log_terms::doubled` meets its contract.
use borrow.Author.Rules.{rules}
use Prim.Native.Nat.{suc, ◌*◌, ◌≤◌}
use native.Mathlib.Omega.{arith}
use Rattle.arithmetic.specs.Bits.{shl}
use Rattle.log_gather.proofs.Steps.{shl_more}
use Rattle.log_terms.proofs.doubled.Goals as goal
use Rattle.log_terms.proofs.doubled.Goals.{In-loop-i}

next_low : (c : In-loop-i) → 2 * c.loop-i.x ≤ shl c.args.times c.args.k
next_low c =
    let l = c.loop-i in
    let r = shl_more (suc l._i) c.args.times c.args.k (omega (arith, c.loop-i-test.true)) in
    omega (arith, l.invariant)

pub overflow_mul-x : goal.overflow_mul-x
overflow_mul-x c = let n = next_low (goal.at.overflow_mul-x c).In-loop-i in let p = c.requires in search rules
