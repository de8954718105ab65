-- The clauses of a bound and of the gaps of a list, as the code goes through them.
use Rattle.std.specs.Prelude.{◌+◌, ◌<◌, ℕ, pos, ℤ, drop, get_or, length, ◌≤ℤ◌, Bool, cond, List, map}
use Rattle.arithmetic.specs.Integers.{down, up}
use Rattle.arithmetic.specs.Offset.{code}
use Rattle.sat.specs.Clause.{Clauses}
use Rattle.norm_csp.specs.Domain.{RisingFrom, last_from}
use Rattle.log_encoding.specs.Domain.{at_least, at_most, gaps}

-- the clauses that bound a code by k, from below or from above
abbrev pub bound : Bool → List ℕ → ℕ → Clauses
bound lower ls k = cond lower (at_least ls k) (at_most ls k)

-- from place i on, values rise strictly from the offset or above, up to 4,095 at most
pub record RisingAt (offset : ℤ) (values : List ℤ) (i : ℕ) : Type 0 where
  pub offset_down : down offset < 4096
  pub here : i < length values
  pub above : offset ≤ℤ get_or values i (pos 0)
  pub rising : RisingFrom (get_or values i (pos 0)) (drop (i + 1) values)
  pub last_up : up (last_from (get_or values i (pos 0)) (drop (i + 1) values)) < 4096

-- the clauses against the missing codes after the value at i
abbrev pub gaps_from : List ℕ → ℤ → List ℤ → ℕ → Clauses
gaps_from ls offset values i = gaps ls (code offset (get_or values i (pos 0))) (map (code offset) (drop (i + 1) values))
