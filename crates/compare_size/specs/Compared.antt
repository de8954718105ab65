-- What the comparison of two sums takes, as the code holds it.
use Rattle.std.specs.Prelude.{◌+◌, ◌≤◌, min, ℕ, Bool, cond, ◌≡◌}
use Rattle.clause_set.specs.declared.Counts.{Counts}
use Rattle.log_encoding.specs.LinearSize.{ge_count, ne_count}
use Rattle.adder_size.specs.declared.AdderSize.{AdderSize}
use Rattle.adder_size.specs.Counted.{InBounds}
use Rattle.log_linear.specs.declared.RuleCounts.{RuleCounts}

-- the last clauses of Ne or Ge of sums of p and n bits; a clause of d literals counts `weigh d`
abbrev pub last_count : Bool → (ℕ → ℕ) → ℕ → ℕ → ℕ
last_count is_ne weigh p n = cond is_ne (ne_count weigh p n) (ge_count weigh p n)

-- both counts of them
abbrev pub last_counts : Bool → ℕ → ℕ → Counts
last_counts is_ne p n = record { clauses = last_count is_ne (λ d. 1) p n; lits = last_count is_ne (λ d. d) p n }

-- a sum within bounds
pub record SumReady (s : AdderSize) : Type 0 where
  pub steady : InBounds s
  pub few : s.bits ≤ 32

-- both sums and the last clauses
pub record Compared (is_ne : Bool) (p n : AdderSize) (r : RuleCounts) : Type 0 where
  pub vars : r.vars ≡ (p.carries + p.bits) + (n.carries + n.bits) + min p.bits n.bits
  pub clauses : r.used.clauses ≡ p.used.clauses + n.used.clauses + last_count is_ne (λ d. 1) p.bits n.bits
  pub lits : r.used.lits ≡ p.used.lits + n.used.lits + last_count is_ne (λ d. d) p.bits n.bits
