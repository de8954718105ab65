-- The table by which the code goes down through the terms of an inequality, and the clauses that a table tells. Rows are numbered by k, how
-- many thresholds are left before the last term (1 to 23, and 0 for the last term alone).
use Rattle.std.specs.Prelude.{◌-◌, ◌<◌, ◌≤◌, suc, zero, ℕ, leb, get_or, replicate, cond, List, [], ◌++◌, ◌∷◌}
use Rattle.sat.specs.Clause.{Clauses}
use Rattle.sat.specs.LitArray.{lit}
use Rattle.log_encoding.specs.Enumerate.{missed}
use Rattle.mixed_table.specs.declared.Row.{Row}
use Rattle.mixed_table.specs.declared.Table.{Table}

-- Reading a table ----------------------------------------------------------------------------------------------------

abbrev pub no_row : Row
no_row = record { lit = lit 0; cost = 0; terms = 0; loss = 0 }

abbrev pub row_of : Table → ℕ → Row
row_of tab k = get_or tab.rows k no_row

-- its literal
abbrev pub lit_of : Table → ℕ → ℕ
lit_of tab k = (row_of tab k).lit.0

-- what missing it costs
abbrev pub cost_of : Table → ℕ → ℕ
cost_of tab k = (row_of tab k).cost

-- how many terms are left, its own the first
abbrev pub terms_of : Table → ℕ → ℕ
terms_of tab k = (row_of tab k).terms

-- what all of them and the last term can lose
abbrev pub loss_of : Table → ℕ → ℕ
loss_of tab k = (row_of tab k).loss

-- the literal of the last term at slack s
abbrev pub end_of : Table → ℕ → ℕ
end_of tab s = (get_or tab.ends s (lit 0)).0

-- how many thresholds are left where j terms are, before the last
abbrev pub top_of : Table → ℕ → ℕ
top_of tab j = get_or tab.tops j 0

-- of no term
abbrev pub empty_table : Table
empty_table = record { rows = replicate 24 no_row; ends = replicate 24 (lit 0); tops = replicate 24 0 }

-- the thresholds left after the term of threshold k
abbrev pub after_of : Table → ℕ → ℕ
after_of tab k = top_of tab (terms_of tab k - 1)

-- A table that the recursion can follow. Where j terms are left, at each of their thresholds one to j are left, and the threshold
-- belongs to the first of them. The thresholds and the last term's literals lie in the table.
pub record SoundTable (tab : Table) : Type 0 where
  pub some : (j k : ℕ) → 0 < k → k ≤ top_of tab j → (0 < terms_of tab k) × (terms_of tab k ≤ j)
  pub own : (j k : ℕ) → 0 < k → k ≤ top_of tab j → (after_of tab k < k) × (k ≤ top_of tab (terms_of tab k))
  pub small : (j : ℕ) → top_of tab j < 24
  pub last : loss_of tab 0 ≤ 24

-- the clauses of k thresholds left, after the clause begun, where k is below the first number; none where the slack covers every loss
unfoldable pub walk_within : ℕ → Table → ℕ → ℕ → List ℕ → Clauses
walk_within zero tab k slack prefix = []
walk_within (suc f) tab zero slack prefix = cond (leb (loss_of tab 0) slack) [] ((prefix ++ (end_of tab slack ∷ [])) ∷ [])
walk_within (suc f) tab (suc k) slack prefix =
    cond (leb (loss_of tab (suc k)) slack) []
    (missed (walk_within f tab (after_of tab (suc k))) (cost_of tab (suc k)) (lit_of tab (suc k)) slack prefix
    ++ walk_within f tab k slack prefix)

abbrev pub walk_rows : Table → ℕ → ℕ → List ℕ → Clauses
walk_rows = walk_within 24

-- the clauses of j terms left before the last, and of the last
abbrev pub walk : Table → ℕ → ℕ → List ℕ → Clauses
walk tab j = walk_rows tab (top_of tab j)
