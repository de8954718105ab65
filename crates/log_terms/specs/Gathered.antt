-- What gathering a sum's terms into columns leaves.
use Rattle.log_adder.specs.declared.Columns.{Columns}
use Rattle.log_encoding.specs.Gather.{Grid}
use Rattle.log_gather.specs.Arrays.{Arrays, Few, Holds}

-- they hold these, and no count is above 10,000
pub record Gathered (grid : Grid) (c : Columns) : Type 0 where
  pub arrays : Arrays c
  pub few : Few 10000 c
  pub holds : Holds c grid
