-- `solver_reading::State::take_number` meets its contract.
use mathlib.Core.Bool.{◌||◌}
use mathlib.Core.Path.{◌≡◌}
use Rattle.std.proofs.Common.{arith, length, rules}
use Rattle.solver_reading.proofs.Taking.{take_doubled, take_open, take_unknown, take_zero}
use Rattle.solver_reading.proofs.State.take_number.Goals as goal
use Rattle.solver_reading.proofs.State.take_number.Goals.{then-given-v-via-then-given-v, then-given-v-via-else-given-v+then-is_some}

pub returns-then-m-eq0 : goal.returns-then-m-eq0
returns-then-m-eq0 c =
    let a = c.args in
    let l : c.if-self.late ≡ (a.self.late || a.self.seen) = search rules in
    take_zero (length a.given.now) a.self a.given.now a.m.negative a.m.size l c.if-m-eq0.true

pub returns-then-given-v : goal.returns-then-given-v
returns-then-given-v c =
    let a = c.args in
    let l : c.if-self.late ≡ (a.self.late || a.self.seen) = search rules in
    elim c.then-given-v.branch [
      | then-given-v-via-then-given-v w ↦ take_unknown (length a.given.now) a.self a.given.now a.m.negative a.m.size l c.if-m-eq0.false (omega arith)
      | then-given-v-via-else-given-v+then-is_some w ↦ take_doubled (length a.given.now) a.self a.given.now a.m.negative a.m.size l c.if-m-eq0.false (omega arith) (search rules)
    ]

pub returns : goal.returns
returns c =
    let a = c.args in
    let l : c.if-self.late ≡ (a.self.late || a.self.seen) = search rules in
    take_open (length a.given.now) a.self a.given.now a.m.negative a.m.size l c.if-m-eq0.false (omega arith) (search rules)
