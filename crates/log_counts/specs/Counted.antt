-- The terms of a sum by their numbers, and the literals counted by columns, as the code holds them.
use Rattle.std.specs.Prelude.{ℕ, ◌≤◌, ◌<◌, ◌≡◌, false, List, map, get_or, length}
use Rattle.arithmetic.specs.Bits.{shl}
use Rattle.log_encoding.specs.LinearSize.{WeightedShape}
use Rattle.log_counts.specs.declared.ColumnCounts.{ColumnCounts}
use Rattle.log_counts.specs.declared.TermShape.{TermShape}

-- Terms --------------------------------------------------------------------------------------------------------------

-- a term without bits
abbrev pub no_shape : TermShape
no_shape = record { negative = false; coef = 0; bits = 0 }

-- one term
abbrev pub term_shape : TermShape → WeightedShape
term_shape t = record { negative = t.negative; coef = t.coef; bits = t.bits }

-- all terms
abbrev pub shapes_of : List TermShape → List WeightedShape
shapes_of ts = map term_shape ts

-- a term within bounds: all its bits come to less than 2 ^ 25
pub record ShapeFits (t : TermShape) : Type 0 where
  pub reach : shl t.bits t.coef < 33554432

-- up to seven terms within bounds
pub record ShapesFit (ts : List TermShape) : Type 0 where
  pub few : length ts ≤ 7
  pub fits : (i : ℕ) → i < length ts → ShapeFits (get_or ts i no_shape)

-- Columns ------------------------------------------------------------------------------------------------------------

-- c has the counts of the list hs, in at most 25 columns, none above m
pub record CountsUpTo (m : ℕ) (hs : List ℕ) (c : ColumnCounts) : Type 0 where
  pub count : (i : ℕ) → i < 32 → get_or c.counts i 0 ≡ get_or hs i 0
  pub width_is : c.width ≡ length hs
  pub narrow : c.width ≤ 25
  pub few : (i : ℕ) → get_or c.counts i 0 ≤ m
  pub long : length c.counts ≡ 32

-- what a sum's terms or a product's rows come to
abbrev pub CountsHold : List ℕ → ColumnCounts → Type 0
CountsHold hs c = CountsUpTo 10000 hs c
