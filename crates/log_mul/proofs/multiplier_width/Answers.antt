-- `log_mul::multiplier_width` meets its contract.
use Prim.Native.Nat.{ℕ}
use mathlib.Core.Path.{◌≡◌, ap, sym, ◌∙◌}
use native.Mathlib.Omega.{arith}
use lib.ListN.{length}
use mathlib.Core.List.{[]}
use Rattle.log_encoding.specs.AdderSize.{pad_shapes}
use Rattle.log_encoding.specs.MulSize.{rows_counts}
use Rattle.log_mul.proofs.RowColumns.{width_none, width_some}
use Rattle.log_mul.proofs.multiplier_width.Goals as goal

pub returns-then-x-eq0 : goal.returns-then-x-eq0
returns-then-x-eq0 c =
    let a = c.args in
    let e : a.x ≡ 0 = c.if-x-eq0.true in
    (width_none a.y a.given ∙ ap (λ (n : ℕ). length (pad_shapes a.given (rows_counts n a.y 0 []))) (sym e), omega (arith, c.requires), omega arith)

pub returns : goal.returns
returns c =
    let a = c.args in
    (c.max.ensures ∙ width_some a.x a.y a.given (omega (arith, c.if-x-eq0.false)), omega (arith, c.max.ensures, c.requires, c.if-x-eq0.false), omega (arith, c.max.ensures))
