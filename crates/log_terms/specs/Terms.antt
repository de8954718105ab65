-- The terms of a sum as the code holds them: a list of weighted numbers.
use Rattle.std.specs.Prelude.{◌<◌, ◌≤◌, suc, zero, ℕ, get_or, length, false, List, [], map, ◌≡◌}
use Rattle.arithmetic.specs.Bits.{shl}
use Rattle.log_gather.specs.Arrays.{AllSmall, widths}
use Rattle.log_linear.specs.Added.{bits_of}
use Rattle.log_encoding.specs.Linear.{Weighted}
use Rattle.log_encoding.specs.LinearSize.{WeightedShape, shape_of}
use Rattle.log_terms.specs.declared.Weighted.{Weighted as WeightedLits}

-- past the last
abbrev pub no_term : WeightedLits
no_term = record { negative = false; coef = 0; bits = record { lits = []; len = 0 } }

-- one term
abbrev pub weighted_of : WeightedLits → Weighted
weighted_of t = record { negative = t.negative; coef = t.coef; lits = bits_of t.bits }

-- the terms' numbers
abbrev pub shapes_all : List WeightedLits → List WeightedShape
shapes_all ts = map shape_of (map weighted_of ts)

-- Eq: how many columns there are after a term of n bits; no bit makes no column
abbrev pub some_width : ℕ → ℕ → ℕ → ℕ
some_width k zero w = w
some_width k (suc n) w = widths 12 k 0 (suc n) w

-- a term within bounds: a coefficient of that many bits, small literals, and all in all below 2 ^ 25
pub record TermFits (steps : ℕ) (t : WeightedLits) : Type 0 where
  pub len : t.bits.len ≤ 32
  pub long : length t.bits.lits ≡ 32
  pub coef : t.coef < shl steps 1
  pub reach : shl t.bits.len t.coef < 33554432
  pub small : AllSmall t.bits.lits

-- up to seven terms within bounds
pub record TermsFit (steps : ℕ) (ts : List WeightedLits) : Type 0 where
  pub few : length ts ≤ 7
  pub steps_fit : steps ≤ 12
  pub fits : (i : ℕ) → i < length ts → TermFits steps (get_or ts i no_term)
