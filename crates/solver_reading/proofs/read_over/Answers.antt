-- `solver_reading::read_over` meets its contract.
use lib.ListN.{length}
use mathlib.Core.List.{map}
use mathlib.Core.Path.{◌∙◌, ◌≡◌, ap, sym}
use Rattle.std.proofs.Common.{rules}
use Rattle.std.specs.Prelude.{Err, Ok}
use Rattle.solver_answer.specs.declared.Solution.TheVariants.{Assignment, Unsatisfiable}
use Rattle.solver_reading.specs.Reading.{byte}
use Rattle.solver_reading.proofs.Answers.{all_given, no_both, no_ok, ok_same, read_found, read_kept, solved}
use Rattle.solver_reading.proofs.read_over.Goals as goal

pub returns-in_err-solution : goal.returns-in_err-solution
returns-in_err-solution c =
    let a = c.args in
    let l : length c.after_lines-st.new.given ≡ length a.given.now = search rules in
    let s = solved (length a.given.now) (length c.after_lines-st.new.given) a.answer.now (length a.out.now) c.after_lines-st.ensures c.begun.ensures c.requires.open l c.solution.ensures in
    let is : c.from_residual.result ≡ Err c.in_err-solution.field-0.0 = search rules in
    read_kept (length a.given.now) a.answer.now a.out.now (is ∙ sym c.in_err-solution.was ∙ s) (λ q. no_ok (sym is ∙ q))

pub returns-then-eq : goal.returns-then-eq
returns-then-eq c =
    let a = c.args in
    let l : length c.after_lines-st.new.given ≡ length a.given.now = search rules in
    let s = solved (length a.given.now) (length c.after_lines-st.new.given) a.answer.now (length a.out.now) c.after_lines-st.ensures c.begun.ensures c.requires.open l c.solution.ensures in
    let e : c.in_ok-solution.solution ≡ Assignment = search rules in
    let g = all_given (length a.given.now) (length c.after_lines-st.new.given) a.answer.now (length a.out.now) c.after_lines-st.ensures c.begun.ensures c.requires.open in
    read_found (length a.given.now) a.answer.now a.out.now (sym c.in_ok-solution.was ∙ s) (ap Ok e) (c.put_bytes.ensures ∙ ap (map byte) g)

pub returns-else-eq : goal.returns-else-eq
returns-else-eq c =
    let a = c.args in
    let l : length c.after_lines-st.new.given ≡ length a.given.now = search rules in
    let s = solved (length a.given.now) (length c.after_lines-st.new.given) a.answer.now (length a.out.now) c.after_lines-st.ensures c.begun.ensures c.requires.open l c.solution.ensures in
    let e : c.in_ok-solution.solution ≡ Unsatisfiable = search rules in
    read_kept (length a.given.now) a.answer.now a.out.now (sym c.in_ok-solution.was ∙ s) (λ q. no_both (sym e ∙ ok_same q))
