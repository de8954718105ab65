-- `log_gather::width_bit` meets its contract.
-- where the bit is 1, the last column is one of the 32
use mathlib.Core.Path.{◌≡◌}
use Prim.Native.Nat.{◌+◌, ◌%◌, ◌<◌}
use native.Mathlib.Omega.{arith}
use Rattle.log_gather.proofs.Steps.{shl_reach}
use borrow.Author.Tests.{eq-eqb}
use borrow.Author.Rules.{rules}
use Rattle.log_gather.proofs.width_bit.Goals as goal
use Rattle.log_gather.proofs.width_bit.Goals.{Start}

reach : (c : Start) → c.args.k % 2 ≡ 1 → c.args.o + c.args.n < 32
reach c e = shl_reach 32 (c.args.o + c.args.n) c.args.k c.requires.1 (omega arith)

pub overflow_add-o : goal.overflow_add-o
overflow_add-o c = let r = reach (goal.at.overflow_add-o c).Start c.if-k-eq1.true in search rules

pub returns-then-k-eq1 : goal.returns-then-k-eq1
returns-then-k-eq1 c = let r = reach (goal.at.returns-then-k-eq1 c).Start c.if-k-eq1.true in (rw (eq-eqb _ 1 c.if-k-eq1.true) c.max.ensures, omega arith)
