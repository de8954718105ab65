-- How a table (mixed_table, specs/Table) is filled from terms; `Filled` says that the clauses it tells are those of `enumerate`.
use Rattle.std.specs.Prelude.{◌*◌, ◌+◌, ◌-◌, ◌/◌, ◌<◌, suc, zero, ℕ, set, List, map, ◌≡◌}
use Rattle.sat.specs.declared.Lit.{Lit}
use Rattle.sat.specs.LitArray.{lit}
use Rattle.log_encoding.specs.Enumerate.{enumerate}
use Rattle.mixed_table.specs.declared.Row.{Row}
use Rattle.mixed_table.specs.declared.Table.{Table}
use Rattle.mixed_table.specs.Table.{SoundTable, row_of, walk}
use Rattle.mixed.specs.Infos.{info_lit, info_term}
use Rattle.mixed.specs.declared.LinearInfo.{LinearInfo}

-- the row of the threshold of t from which i are left, where v terms are left, t the first, and those after it can lose r
abbrev pub threshold_row : LinearInfo → ℕ → ℕ → ℕ → Row
threshold_row t v r i = record { lit = lit (info_lit t (t.count - i)); cost = t.weight * i; terms = v; loss = t.weight * i + r }

-- the last i thresholds of a term, with n thresholds after it
unfoldable pub put_rows : List Row → LinearInfo → ℕ → ℕ → ℕ → ℕ → List Row
put_rows rows t v n r zero = rows
put_rows rows t v n r (suc i) = set (put_rows rows t v n r i) (suc i + n) (threshold_row t v r (suc i))

-- a whole term before v terms
abbrev pub put_term : Table → LinearInfo → ℕ → ℕ → ℕ → Table
put_term tab t v n r =
    record { rows = put_rows tab.rows t (v + 1) n r t.count; ends = tab.ends; tops = set tab.tops (v + 1) (n + t.count) }

-- the last term's literals at the first s slacks
unfoldable pub put_ends : List Lit → LinearInfo → ℕ → List Lit
put_ends ends t zero = ends
put_ends ends t (suc s) = set (put_ends ends t s) s (lit (info_lit t (t.count - s / t.weight - 1)))

-- what the last term can lose
abbrev pub with_loss : Row → ℕ → Row
with_loss row x = record { lit = row.lit; cost = row.cost; terms = row.terms; loss = x }

abbrev pub put_last : Table → LinearInfo → Table
put_last tab t =
    record {
      rows = set tab.rows 0 (with_loss (row_of tab 0) (t.weight * t.count));
      ends = put_ends tab.ends t (t.weight * t.count);
      tops = tab.tops;
    }

-- r terms stand before the last, and the table tells the clauses of the terms
pub record Filled (tab : Table) (ts : List LinearInfo) (r : ℕ) : Type 0 where
  pub few : r < 24
  pub sound : SoundTable tab
  pub same : (slack : ℕ) (prefix : List ℕ) → walk tab r slack prefix ≡ enumerate (map info_term ts) slack prefix
