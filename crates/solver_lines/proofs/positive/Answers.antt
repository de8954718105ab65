-- `solver_lines::positive` meets its contract.
use mathlib.Core.Path.{◌∙◌, sym}
use Rattle.std.proofs.Common.{arith, rules, tests}
use Rattle.solver_lines.proofs.Numbers.{left_all, left_more, left_none, positive_empty, positive_zero}
use Rattle.solver_lines.proofs.positive.Goals as goal
use Rattle.solver_lines.proofs.positive.Goals.{then-is_empty-via-then-is_empty, then-is_empty-via-else-is_empty+then-digits-eq48}

pub returns-then-is_empty : goal.returns-then-is_empty
returns-then-is_empty c =
    elim c.then-is_empty.branch [
      | then-is_empty-via-then-is_empty w ↦ positive_empty c.args.digits.now (search (tests, rules))
      | then-is_empty-via-else-is_empty+then-digits-eq48 w ↦ positive_zero c.args.digits.now (search (tests, rules)) w.if-digits-eq48.true
    ]

pub returns-then-not-is_ascii_digit : goal.returns-then-not-is_ascii_digit
returns-then-not-is_ascii_digit c =
    let l = c.loop-b in
    left_none c.args.digits.now l.b-index l.size l.invariant c.loop-b-test.true (sym c.is_ascii_digit.ensures.value ∙ c.if-not-is_ascii_digit.true) c.if-digits-eq48.false

pub loop-b-preserved : goal.loop-b-preserved
loop-b-preserved c =
    let l = c.loop-b in
    left_more c.args.digits.now l.b-index l.size l.invariant c.loop-b-test.true (sym c.is_ascii_digit.ensures.value ∙ c.if-not-is_ascii_digit.false) (omega (arith, c.min-size.ensures, c.from.ensures))

pub returns : goal.returns
returns c =
    let l = c.loop-b in
    left_all c.args.digits.now l.b-index l.size l.invariant c.loop-b-test.false (search (tests, rules)) c.if-digits-eq48.false
