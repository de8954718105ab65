-- `column_walk::walk_eq_column` meets its contract.
use mathlib.Core.Path.{refl}
use native.Mathlib.Omega.{arith}
use Rattle.column_walk.proofs.Columns.{eq_column_walked, sized}
use Rattle.column_walk.proofs.walk_eq_column.Goals as goal

pub push_eq_column-requires-clause-column_sized : goal.push_eq_column-requires-clause-column_sized
push_eq_column-requires-clause-column_sized c =
    let a = c.args in
    sized a.own a.carries 0 a.next c.requires.0 c.requires.1 _ c.any_column-c.ensures (omega arith)

pub returns : goal.returns
returns c =
    let a = c.args in
    eq_column_walked a.own a.carries 0 a.next c.requires.0 c.requires.1 _ c.any_column-c.ensures a.x a.y c.push_eq_column.ensures refl
