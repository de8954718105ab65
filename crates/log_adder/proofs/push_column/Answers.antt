-- `log_adder::push_column` meets its contract.
use native.Mathlib.Omega.{arith}
use lib.ListN.{length, length-take}
use Prim.Native.Nat.{◌+◌}
use Rattle.log_adder.proofs.ColumnStored.{equated_added, equated_fits}
use Rattle.log_adder.proofs.ColumnTerms.{column_equated, column_in_table, column_size}
use Rattle.log_adder.proofs.push_column.Goals as goal

pub push_equation-requires-clause-in_table : goal.push_equation-requires-clause-in_table
push_equation-requires-clause-in_table c =
    let z = c.requires.column_sized in
    (omega (arith, z, length-take (length c.args.c.own.now + 3) c.infos.result), omega (arith, z), rw c.infos.ensures.0 (column_in_table c.args.c z))

pub push_equation-requires-clause-fits : goal.push_equation-requires-clause-fits
push_equation-requires-clause-fits c =
    let z = c.requires.column_sized in
    equated_fits _ _ _ c.infos.ensures.0 (column_equated c.args.c z) (column_size c.args.c z) c.args.set.now c.requires.below

pub returns : goal.returns
returns c = equated_added _ _ _ c.infos.ensures.0 (column_equated c.args.c c.requires.column_sized) c.push_equation.ensures
