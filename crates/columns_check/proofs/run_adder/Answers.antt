-- `columns_check::run_adder` meets its contract.
use mathlib.Core.Path.{ap, ◌∙◌}
use native.Mathlib.Omega.{arith}
use borrow.Author.Tests.{le-ltb}
use lib.ListN.{length}
use Rattle.log_encoding.specs.AdderSize.{greatest_height, input_shapes, reached}
use Rattle.log_adder.proofs.Taken.{shapes_taken}
use Rattle.log_gather.proofs.Slices.{slice_below}
use Rattle.columns_check.proofs.run_adder.Goals as goal

pub log_encoding_adder-bits-requires-clause-adder_fits : goal.log_encoding_adder-bits-requires-clause-adder_fits
log_encoding_adder-bits-requires-clause-adder_fits g c =
    let first = c.lits_from-first in
    record {
      few = c.if-width-gt26.false;
      fewer = omega (arith, c.as_slice.ensures.1, first.ensures.0, c.if-given-width.false);
      own = c.in-Some.ensures.arrays.low;
      results = slice_below first.result c.as_slice.result.now c.as_slice.ensures.0 first.ensures.1;
    }

pub log_encoding_adder-bits-requires-clause-constant_value : goal.log_encoding_adder-bits-requires-clause-constant_value
log_encoding_adder-bits-requires-clause-constant_value g c =
    let cols = c.in-Some.cols in
    let w = c.number-width.result in
    let k = c.number-constant.result in
    let same = ap (λ hs. greatest_height (reached (input_shapes (length hs) 0 hs k) 0)) c.first_counts.ensures.0
    ∙ ap (λ cs. greatest_height (reached cs 0)) (shapes_taken cols.counts w k (omega (arith, c.in-Some.ensures.arrays.places, c.if-width-gt26.false))) in
    le-ltb 12 _ (omega (arith, c.greatest_height.ensures, same, c.if-greatest_height-gt12.false))
