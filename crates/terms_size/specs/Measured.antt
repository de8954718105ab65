-- The size of a rule as the code holds it: where no column reached is too tall.
use Rattle.std.specs.Prelude.{◌*◌, ◌≤◌, ℕ, length, take, Bool, false, true, List, ◌≡◌, Option, Some, None}
use Rattle.sat.specs.Size.{Size, size_by}
use Rattle.norm_csp.specs.NormOp.{NormOp, ge, ne}
use Rattle.log_encoding.specs.AdderSize.{Reached, greatest_height, input_shapes, reached, too_tall}
use Rattle.log_encoding.specs.LinearSize.{WeightedShape, linear_count, linear_vars}
use Rattle.eq_size.specs.Sized.{Sized}
use Rattle.log_linear.specs.declared.RuleCounts.{RuleCounts}
use Rattle.terms_size.specs.declared.Columns.{Columns}

-- a size no greater than that of n adders
pub record SizedBy (n : ℕ) (size : Size) (r : RuleCounts) : Type 0 where
  pub sized : Sized size r
  pub few_vars : r.vars ≤ 1000 * n
  pub few_clauses : r.used.clauses ≤ 34000000 * n
  pub few_lits : r.used.lits ≤ 504000000 * n

-- none where a column reached is too tall, else the size; it is no greater than that of n adders
abbrev pub Measured : ℕ → List Reached → Size → Option RuleCounts → Type 0
Measured n rs size None = too_tall rs ≡ true
Measured n rs size (Some r) = (too_tall rs ≡ false) × SizedBy n size r

-- Ne or Ge
abbrev pub compared_op : Bool → NormOp
compared_op true = ne
compared_op false = ge

-- the size of terms with the constant a - b
abbrev pub terms_size : NormOp → List WeightedShape → ℕ → ℕ → Size
terms_size op ps a b = size_by (linear_vars op ps a b) (λ weigh. linear_count weigh op ps a b)

-- what columns of so many literals reach with the bits of k
abbrev pub reached_by : List ℕ → ℕ → List Reached
reached_by hs k = reached (input_shapes (length hs) 0 hs k) 0

-- the columns in use with the bits of k are those reached
pub record ColumnsReach (rs : List Reached) (k : ℕ) (c : Columns) : Type 0 where
  pub reach : reached_by (take c.counts.width c.counts.counts) k ≡ rs
  pub narrow : c.counts.width ≤ 25
  pub long : length c.counts.counts ≡ 32
  pub height_is : c.height ≡ greatest_height rs
