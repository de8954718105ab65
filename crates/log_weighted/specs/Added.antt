-- What the functions that add a sum's clauses leave.
use Rattle.std.specs.Prelude.{ℕ, ◌+◌, ◌^◌, ◌≤◌, ◌++◌, ◌≡◌}
use Rattle.sat.specs.Encoded.{EncodedBits}
use Rattle.clause_set.specs.Stores.{Below, Wrote}
use Rattle.clause_set.specs.declared.ClauseSet.{ClauseSet}
use Rattle.log_linear.specs.Added.{bits_of}
use Rattle.log_linear.specs.declared.Bits.{Bits}
use Rattle.log_weighted.specs.declared.Sums.{Sums}

-- the clauses, bits and variables of a sum, and no more than 32 columns add
pub record SumAdded (s : ClauseSet) (sum : EncodedBits) (t : ClauseSet) (r : Bits) : Type 0 where
  pub wrote : Wrote s sum.vars sum.clauses t
  pub bits : bits_of r ≡ sum.bits
  pub len : r.len ≤ 32
  pub vars : t.vars ≤ s.vars + 224
  pub lits : t.used.lits ≤ s.used.lits + 503316480
  pub clauses : t.used.clauses ≤ s.used.clauses + 33554432

-- the clauses of both parts of a sum, the bits of each and the variables after them; the counts are small
pub record SumsAdded (s : ClauseSet) (pos : EncodedBits) (neg-from : ℕ → EncodedBits) (t : ClauseSet) (r : Sums) : Type 0 where
  pub wrote : Wrote s (neg-from pos.vars).vars (pos.clauses ++ (neg-from pos.vars).clauses) t
  pub positive : bits_of r.positive ≡ pos.bits
  pub negative : bits_of r.negative ≡ (neg-from pos.vars).bits
  pub positive_len : r.positive.len ≤ 32
  pub negative_len : r.negative.len ≤ 32
  pub few_vars : t.vars ≤ 1048576
  pub below : Below (2 ^ 30 + 1) t
