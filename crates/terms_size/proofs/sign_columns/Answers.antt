-- `terms_size::sign_columns` meets its contract.
use mathlib.Core.List.{List}
use mathlib.Core.Path.{◌∙◌, ap}
use Prim.Native.Nat.{ℕ}
use native.Mathlib.Omega.{arith}
use Rattle.log_adder.proofs.Taken.{shapes_taken}
use Rattle.log_encoding.specs.AdderSize.{ColumnShape, greatest_height, reached}
use Rattle.log_counts.proofs.Reached.{constant_reached}
use Rattle.terms_size.specs.Measured.{reached_by}
use Rattle.terms_size.proofs.sign_columns.Goals as goal

pub returns : goal.returns
returns c =
    let w = c.adder_width in
    let h = c.sign_counts-counts.ensures in
    let r = constant_reached h c.args.constant w.result c.requires w.ensures.0 in
    let t = shapes_taken c.sign_counts-counts.result.counts w.result c.args.constant (omega (arith, w.ensures.1, h.long)) in
    let reach = ap (λ (cs : List ColumnShape). reached cs 0) t ∙ r in
    record {
      reach = reach;
      narrow = w.ensures.1;
      long = h.long;
      height_is = c.greatest_height-height.ensures ∙ ap (λ (hs : List ℕ). greatest_height (reached_by hs c.args.constant)) c.columns.ensures ∙ ap greatest_height reach;
    }
