-- `log_var::encode_range` meets its contract.
use mathlib.Core.Path.{refl}
use native.Mathlib.Omega.{arith}
use mir.Syntax.{w32}
use mir.ValLaws.{to_z-of_z}
use Rattle.clause_set.proofs.Adding.{fits_first}
use Rattle.clause_set.proofs.Writing.{fits_behind}
use Rattle.log_var.proofs.Calls.{codes_read, range_added, range_fits, range_small}
use Rattle.log_var.proofs.encode_range.Goals as goal

pub add_bound-requires : goal.add_bound-requires
add_bound-requires c =
    let a = c.args in
    let e = codes_read a.low a.high c.ranges.low c.ranges.high c.code_range-codes.ensures in
    let small = range_small a.low a.high a.set.now c.requires c.code_range-codes.result e in
    record { n_bound = (omega arith, small.2); fits = fits_first _ _ (range_fits a.low a.high a.set.now c.requires c.code_range-codes.result e) }

pub add_bound-requires-2 : goal.add_bound-requires-2
add_bound-requires-2 c =
    let a = c.args in
    let e = codes_read a.low a.high c.ranges.low c.ranges.high c.code_range-codes.ensures in
    let small = range_small a.low a.high a.set.now c.requires c.code_range-codes.result e in
    record { n_bound = (omega arith, small.3); fits = fits_behind c.add_bound.ensures (range_fits a.low a.high a.set.now c.requires c.code_range-codes.result e) }

pub new_lits-lits-requires : goal.new_lits-lits-requires
new_lits-lits-requires c =
    let a = c.args in
    let e = codes_read a.low a.high c.ranges.low c.ranges.high c.code_range-codes.ensures in
    let small = range_small a.low a.high a.set.now c.requires c.code_range-codes.result e in
    (omega (arith, c.add_bound.ensures.vars_are, c.add_bound-2.ensures.vars_are), small.1)

pub returns : goal.returns
returns c =
    let a = c.args in
    let e = codes_read a.low a.high c.ranges.low c.ranges.high c.code_range-codes.ensures in
    let new = c.new_lits-lits.ensures in
    range_added a.low a.high a.set.now c.requires c.code_range-codes.result e c.add_bound.ensures c.add_bound-2.ensures new.wrote new.lits
    refl (to_z-of_z w32 a.low c.ranges.low) (to_z-of_z w32 a.high c.ranges.high) refl
