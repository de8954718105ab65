-- `column_bench::write_column` meets its contract.
use lib.Dec.{lit<}
use native.Mathlib.Omega.{arith}
use Rattle.column_bench.proofs.Sized.{own_sized}
use Rattle.column_bench.proofs.write_column.Goals as goal

pub push_column-requires-clause-column_sized : goal.push_column-requires-clause-column_sized
push_column-requires-clause-column_sized c =
    let o = own_sized c.args.height _ c.own_lits-own.ensures (omega (arith, c.requires.0)) in
    record {
      high = omega (arith, c.requires.0, o.0);
      next = omega (arith, c.requires.0, c.requires.1);
      bit = c.requires.1;
      first = lit< tt;
      second = lit< tt;
      result = lit< tt;
      own = o.1;
    }
