-- What the parts of a line that was read are known to keep to.
use Rattle.std.specs.Prelude.{ℕ, ◌^◌, ◌≤◌, ◌<◌, ◌≡◌, map, take}
use Rattle.mixed.specs.Infos.{AllSmall, info_term, last_loss, loss}
use Rattle.log_encoding.proofs.Bound.{sizes}
use Rattle.log_adder.specs.ColumnInfo.{AllLow}
use Rattle.log_adder.specs.declared.Columns.{Columns}
use Rattle.log_gather.specs.Arrays.{Arrays, Few}
use Rattle.columns_check.specs.declared.Row.{Row}
use Rattle.columns_check.specs.declared.Terms.{Terms}

-- terms of at most 19 literals in all, whose loss is a number of a u32
pub record TermsRead (r : Terms) : Type 0 where
  pub small : AllSmall r.terms
  pub few : sizes (map info_term (take r.len r.terms)) ≤ 19
  pub all : loss (take r.len r.terms) < 2 ^ 32
  pub last : r.last ≡ last_loss (take r.len r.terms)
  pub len : r.len ≤ 15

-- a row that starts at `at`
pub record RowRead (at : ℕ) (r : Row) : Type 0 where
  pub low : AllLow r.bits.lits
  pub len : r.bits.len ≤ 12
  pub coef : r.coef < 4096
  pub onward : at < r.end
  pub within : r.end ≤ 511

-- columns with counts of at most m
pub record Gathered (m : ℕ) (cols : Columns) : Type 0 where
  pub arrays : Arrays cols
  pub few : Few m cols
