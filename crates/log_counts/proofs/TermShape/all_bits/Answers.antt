-- `log_counts::TermShape::all_bits` meets its contract.
use borrow.Author.Rules.{rules}
use mathlib.Core.Path.{◌≡◌}
use Prim.Native.Nat.{suc, ◌+◌, ◌*◌, ◌<◌}
use native.Mathlib.Omega.{arith}
use Rattle.arithmetic.specs.Bits.{shl}
use Rattle.log_gather.proofs.Steps.{shl_more}
use Rattle.log_counts.proofs.Steps.{all_set}
use Rattle.log_counts.proofs.TermShape.all_bits.Goals as goal
use Rattle.log_counts.proofs.TermShape.all_bits.Goals.{In-loop-i}

next_low : (c : In-loop-i) → 2 * (c.loop-i.x + c.args.self.coef) < 33554432
next_low c =
    let l = c.loop-i in
    let r = shl_more (suc l._i) c.args.self.bits c.args.self.coef (omega (arith, c.loop-i-test.true)) in
    omega (arith, l.invariant, c.requires)

pub overflow_mul-x : goal.overflow_mul-x
overflow_mul-x c = let n = next_low (goal.at.overflow_mul-x c).In-loop-i in search rules

pub overflow_add-x : goal.overflow_add-x
overflow_add-x c = let n = next_low (goal.at.overflow_add-x c).In-loop-i in search rules

pub returns : goal.returns
returns c =
    let l = c.loop-i in
    let e : l._i ≡ c.args.self.bits = search rules in
    let a : l.x + c.args.self.coef ≡ shl c.args.self.bits c.args.self.coef = rw e at l.invariant in
    (all_set c.args.self.coef c.args.self.bits l.x a, omega (arith, a, c.requires))
