-- The arrays that hold gathered literals (log_encoding, Gather): counts are exact, and the literals of each column of at most 12 are there.
use Rattle.std.specs.Prelude.{ℕ, zero, suc, max, ◌+◌, ◌/◌, ◌%◌, ◌≤◌, ◌<◌, ◌≡◌, cond, List, [], ◌∷◌, eqb, length, get_or}
use Rattle.sat.specs.declared.Lit.{Lit}
use Rattle.log_encoding.specs.Adder.{AdderColumn}
use Rattle.log_encoding.specs.Gather.{Grid}
use Rattle.log_adder.specs.AdderState.{own_at}
use Rattle.log_adder.specs.ColumnInfo.{AllLow}
use Rattle.log_adder.specs.declared.Columns.{Columns}
use Rattle.sat.specs.LitArray.{lit}

-- The arrays ---------------------------------------------------------------------------------------------------------

-- the arrays as such: 32 columns of 12 places, small literals
pub record Arrays (c : Columns) : Type 0 where
  pub rows : length c.lits ≡ 32
  pub places : length c.counts ≡ 32
  pub wide : (i : ℕ) → i < 32 → length (get_or c.lits i []) ≡ 12
  pub low : (i : ℕ) → AllLow (get_or c.lits i [])

-- counts of at most m
abbrev pub Few : ℕ → Columns → Type 0
Few m c = (i : ℕ) → get_or c.counts i 0 ≤ m

-- they hold these columns
pub record Holds (c : Columns) (g : Grid) : Type 0 where
  pub count : (i : ℕ) → i < 32 → get_or c.counts i 0 ≡ length (get_or g i [])
  pub own : (i : ℕ) → i < 32 → length (get_or g i []) ≤ 12 → own_at c.lits c.counts i ≡ get_or g i []

-- whatever the arrays held, they hold it now with the literals pushed; no count grew by more than k
pub record Pushed (k : ℕ) (c : Columns) (f : Grid → Grid) (d : Columns) : Type 0 where
  pub arrays : Arrays d
  pub few : (m : ℕ) → Few m c → Few (m + k) d
  pub holds : (g : Grid) → Holds c g → Holds d (f g)

-- The width ----------------------------------------------------------------------------------------------------------

-- the columns that scaling leaves, of w columns and n literals
abbrev pub widths : ℕ → ℕ → ℕ → ℕ → ℕ → ℕ
widths zero k o n w = w
widths (suc f) k o n w = widths f (k / 2) (suc o) n (cond (eqb (k % 2) 1) (max w (o + n)) w)

-- Columns for the adders ---------------------------------------------------------------------------------------------

-- w columns of the grid from the i-th on, with the bits of k
abbrev pub grid_columns : ℕ → ℕ → Grid → ℕ → List AdderColumn
grid_columns zero i g k = []
grid_columns (suc w) i g k = record { own = get_or g i []; constant = k % 2 } ∷ grid_columns w (i + 1) g (k / 2)

-- every literal of the array is a number below 2 ^ 31 - 1, so that its negation is below 2 ^ 31
abbrev pub AllSmall : List Lit → Type 0
AllSmall ls = (k : ℕ) → (get_or ls k (lit 0)).0 < 2147483647
