-- `solver_lines::number_of` meets its contract.
use mathlib.Core.Bool.{false, true}
use mathlib.Core.List.{[], ◌∷◌}
use mathlib.Core.Path.{◌∙◌, ap, sym}
use Rattle.solver_lines.proofs.Words.{bytes_are, bytes_differ, not_stripped, stripped}
use Rattle.solver_lines.proofs.Numbers.{number_minus, number_plain, number_zero, with_sign}
use Rattle.solver_lines.proofs.number_of.Goals as goal

pub returns-then-eq : goal.returns-then-eq
returns-then-eq c = number_zero c.args.piece.now (bytes_are c.eq.ensures c.if-eq.true ∙ c.as_slice.ensures)

pub returns-in_err-size : goal.returns-in_err-size
returns-in_err-size c =
    c.from_residual.ensures ∙ ap (with_sign true) (sym c.in_err-size.was ∙ c.positive.ensures)
    ∙ number_minus c.args.piece.now _ (stripped c.args.piece.now (45 ∷ []) c.strip_prefix.ensures.cases c.in-Some.is)

pub returns-in-Some : goal.returns-in-Some
returns-in-Some c =
    ap (with_sign true) (sym c.in_ok-size.was ∙ c.positive.ensures)
    ∙ number_minus c.args.piece.now _ (stripped c.args.piece.now (45 ∷ []) c.strip_prefix.ensures.cases c.in-Some.is)

pub returns-in_err-size-2 : goal.returns-in_err-size-2
returns-in_err-size-2 c =
    c.from_residual-in_err-size-2.ensures ∙ ap (with_sign false) (sym c.in_err-size-2.was ∙ c.positive-2.ensures)
    ∙ number_plain c.args.piece.now (bytes_differ c.eq.ensures c.if-eq.false c.as_slice.ensures) (not_stripped c.args.piece.now (45 ∷ []) c.strip_prefix.ensures.cases c.in_default.is)

pub returns : goal.returns
returns c =
    ap (with_sign false) (sym c.in_ok-size-2.was ∙ c.positive-2.ensures)
    ∙ number_plain c.args.piece.now (bytes_differ c.eq.ensures c.if-eq.false c.as_slice.ensures) (not_stripped c.args.piece.now (45 ∷ []) c.strip_prefix.ensures.cases c.in_default.is)
