-- `column_walk::walk_column` meets its contract.
use Prim.Native.Nat.{◌+◌, ◌/◌}
use mathlib.Core.Path.{refl}
use native.Mathlib.Omega.{arith}
use Rattle.column_walk.proofs.Columns.{column_walked, sized}
use Rattle.column_walk.proofs.walk_column.Goals as goal

pub push_column-requires-clause-column_sized : goal.push_column-requires-clause-column_sized
push_column-requires-clause-column_sized c =
    let a = c.args in
    sized a.own a.carries a.bit ((a.bit + a.own + a.carries) / 2) c.requires.0 (omega (arith, c.requires)) _ c.any_column-c.ensures c.requires.1

pub returns : goal.returns
returns c =
    let a = c.args in
    column_walked a.own a.carries a.bit ((a.bit + a.own + a.carries) / 2) c.requires.0 (omega (arith, c.requires)) _ c.any_column-c.ensures refl c.push_column.ensures refl
