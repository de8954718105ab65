-- A sum's bits as the code has them, and what the functions that add a rule leave in the stores.
use Rattle.std.specs.Prelude.{ℕ, List}
use Rattle.sat.specs.Encoded.{EncodedRule}
use Rattle.sat.specs.LitArray.{first_lits}
use Rattle.clause_set.specs.Stores.{Stores, add_clauses, after}
use Rattle.log_linear.specs.declared.Bits.{Bits}
use Rattle.log_linear.specs.declared.RuleCounts.{RuleCounts}

-- the literals of a sum's bits, the lowest first
abbrev pub bits_of : Bits → List ℕ
bits_of b = first_lits b.lits b.len

-- the stores and the variables counted
pub record RuleOutcome : Type 0 where
  pub stores : Stores
  pub vars : ℕ

-- as the code has them
abbrev pub rule_outcome : List ℕ → List ℕ → RuleCounts → RuleOutcome
rule_outcome d e r = record { stores = after d e r.used; vars = r.vars }

-- the rule's clauses added to stores
abbrev pub add_rule : EncodedRule → Stores → RuleOutcome
add_rule rule s = record { stores = add_clauses 0 rule.clauses s; vars = rule.vars }
