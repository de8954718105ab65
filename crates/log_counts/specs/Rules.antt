-- Which terms a rule counts.
use Rattle.std.specs.Prelude.{ℕ, Bool, cond, List, [], ◌∷◌, ◌≡◌}
use Rattle.log_encoding.specs.AdderSize.{push_scaled_counts}
use Rattle.log_encoding.specs.LinearSize.{WeightedShape}

-- a term counted where the test holds
abbrev pub counted_if : Bool → WeightedShape → List ℕ → List ℕ
counted_if t p hs = cond t (push_scaled_counts 12 p.coef 0 p.bits hs) hs

-- which terms are counted, and the definition of all that are
pub record Rule : Type 0 where
  pub test : WeightedShape → Bool
  pub all : List WeightedShape → List ℕ → List ℕ
  pub next : (p : WeightedShape) (ps : List WeightedShape) (hs : List ℕ) → all (p ∷ ps) hs ≡ all ps (counted_if (test p) p hs)
  pub end : (hs : List ℕ) → all [] hs ≡ hs
