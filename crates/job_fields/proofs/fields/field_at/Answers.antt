-- `job_fields::fields::field_at` meets its contract.
use Prim.Native.Nat.{◌+◌, ◌-◌}
use mathlib.Core.Path.{◌≡◌}
use native.Mathlib.Omega.{arith}
use Rattle.job_fields.proofs.Places.{at_end, contents_broken, field_whole, head_broken}
use Rattle.job_fields.proofs.fields.field_at.Goals as goal

pub returns-then-s-at-clause-place : goal.returns-then-s-at-clause-place
returns-then-s-at-clause-place c = let a = c.args in at_end a.s.now a.at c.if-s-at.true

pub returns-then-s-at-lt3-clause-place : goal.returns-then-s-at-lt3-clause-place
returns-then-s-at-lt3-clause-place c = let a = c.args in head_broken a.s.now a.at c.if-s-at.false c.if-s-at-lt3.true

pub returns-then-s-at-2-clause-place : goal.returns-then-s-at-2-clause-place
returns-then-s-at-2-clause-place c = let a = c.args in contents_broken a.s.now a.at c.if-s-at.false c.if-s-at-lt3.false c.word-len.ensures.0 c.if-s-at-2.true

pub returns-clause-place : goal.returns-clause-place
returns-clause-place c =
    let a = c.args in
    let long : a.at + 3 + c.word-len.result - (a.at + 3) ≡ c.word-len.result = omega arith in
    rw long (field_whole a.s.now a.at c.if-s-at.false c.if-s-at-lt3.false c.word-len.ensures.0 c.if-s-at-2.false)
