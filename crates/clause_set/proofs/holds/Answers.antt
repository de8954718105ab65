-- `clause_set::holds` meets its contract.
use native.Mathlib.Omega.{arith}
use mathlib.Core.Bool.{false, true}
use mathlib.Core.Path.{sym, ◌∙◌}
use Rattle.clause_set.proofs.Bytes.{holds_in, holds_out}
use Rattle.clause_set.proofs.holds.Goals as goal

pub returns-then-v-assignment : goal.returns-then-v-assignment
returns-then-v-assignment c =
    holds_out c.args.assignment.now c.args.l.0 c.var-x.result.0 c.var-x.ensures (omega arith)

pub returns-then-is_negated : goal.returns-then-is_negated
returns-then-is_negated c =
    let v = c.var-x in
    holds_in c.args.assignment.now c.args.l.0 v.result.0 true v.ensures (sym c.is_negated.ensures ∙ c.if-is_negated.true) (omega arith)

pub returns-else-is_negated : goal.returns-else-is_negated
returns-else-is_negated c =
    let v = c.var-x in
    holds_in c.args.assignment.now c.args.l.0 v.result.0 false v.ensures (sym c.is_negated.ensures ∙ c.if-is_negated.false) (omega arith)
