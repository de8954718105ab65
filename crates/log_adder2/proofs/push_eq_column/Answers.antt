-- `log_adder2::push_eq_column` meets its contract.
use native.Mathlib.Omega.{arith}
use lib.ListN.{length, length-take}
use Prim.Native.Nat.{◌+◌}
use Rattle.log_adder.proofs.ColumnStored.{equated_added, equated_fits}
use Rattle.log_adder.proofs.ColumnTerms.{eq_column_equated, eq_column_size, eq_in_table}
use Rattle.log_adder2.proofs.EqColumnStored.{two_terms}
use Rattle.log_adder2.proofs.push_eq_column.Goals as goal

pub push_equation-requires-clause-in_table : goal.push_equation-requires-clause-in_table
push_equation-requires-clause-in_table c =
    let z = c.requires.column_sized in
    (omega (arith, z, length-take (length c.args.c.own.now + 2) c.infos.result), omega (arith, z), rw (two_terms c.args.c _ c.infos.ensures.0) (eq_in_table c.args.c z))

pub push_equation-requires-clause-fits : goal.push_equation-requires-clause-fits
push_equation-requires-clause-fits c =
    let a = c.args in
    let z = c.requires.column_sized in
    equated_fits _ _ _ (two_terms a.c _ c.infos.ensures.0) (eq_column_equated a.c z a.x a.y) (eq_column_size a.c z a.x a.y) a.set.now c.requires.below

pub returns : goal.returns
returns c =
    let a = c.args in
    equated_added _ _ _ (two_terms a.c _ c.infos.ensures.0) (eq_column_equated a.c c.requires.column_sized a.x a.y) c.push_equation.ensures
