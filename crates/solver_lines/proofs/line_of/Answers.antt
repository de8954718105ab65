-- `solver_lines::line_of` meets its contract.
use mathlib.Core.List.{[], ◌∷◌}
use mathlib.Core.Path.{◌∙◌}
use Rattle.solver_lines.proofs.Words.{bytes_are, bytes_differ, starts, starts_not, stripped, not_stripped, line_satisfiable, line_unsatisfiable, line_values, line_comment, line_remark, line_other}
use Rattle.solver_lines.proofs.line_of.Goals as goal
use Rattle.solver_lines.proofs.line_of.Goals.{then-eq-3-via-then-eq-3, then-eq-3-via-else-eq-3+then-starts_with}

pub returns-then-eq : goal.returns-then-eq
returns-then-eq c = line_satisfiable c.args.l.now (bytes_are c.eq.ensures c.if-eq.true ∙ c.as_slice.ensures)

pub returns-then-eq-2 : goal.returns-then-eq-2
returns-then-eq-2 c = line_unsatisfiable c.args.l.now (bytes_are c.eq-2.ensures c.if-eq-2.true ∙ c.as_slice-2.ensures)

pub returns-in-Some : goal.returns-in-Some
returns-in-Some c = line_values c.args.l.now _ (stripped c.args.l.now (118 ∷ 32 ∷ []) c.strip_prefix.ensures.cases c.in-Some.is)

pub returns-then-eq-3 : goal.returns-then-eq-3
returns-then-eq-3 c =
    elim c.then-eq-3.branch [
      | then-eq-3-via-then-eq-3 w ↦ line_comment c.args.l.now (bytes_are c.eq-3.ensures w.if-eq-3.true ∙ c.as_slice-3.ensures)
      | then-eq-3-via-else-eq-3+then-starts_with w ↦ line_remark c.args.l.now _ (starts c.args.l.now (99 ∷ 32 ∷ []) w.starts_with.ensures.value w.if-starts_with.true)
    ]

pub returns : goal.returns
returns c =
    line_other c.args.l.now
    (bytes_differ c.eq.ensures c.if-eq.false c.as_slice.ensures)
    (bytes_differ c.eq-2.ensures c.if-eq-2.false c.as_slice-2.ensures)
    (not_stripped c.args.l.now (118 ∷ 32 ∷ []) c.strip_prefix.ensures.cases c.in_default.is)
    (bytes_differ c.eq-3.ensures c.if-eq-3.false c.as_slice-3.ensures)
    (starts_not c.args.l.now (99 ∷ 32 ∷ []) c.starts_with.ensures.value c.if-starts_with.false)
