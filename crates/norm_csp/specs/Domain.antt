-- The settings of the plain book, after `IntVarRepresentation` of norm_csp/mod.rs: a range, a list, or two values on a switch literal.
use Rattle.std.specs.Prelude.{ℕ, ℤ, ◌<ℤ◌, ◌≤ℤ◌, cond, List, [], ◌∷◌, ◌⊎◌, ◌≡◌}
use Rattle.sat.specs.Clause.{Assignment, holds}

-- document 01's range (low, high), list (values), and two values (switch literal c, f, t)
pub data IntVarRepresentation : Type 0 where
  range : ℤ → ℤ → IntVarRepresentation
  list : List ℤ → IntVarRepresentation
  binary : ℕ → ℤ → ℤ → IntVarRepresentation

abbrev pub OneOf : ℤ → List ℤ → Type 0
OneOf z [] = ⊥
OneOf z (k ∷ ks) = (z ≡ k) ⊎ OneOf z ks

-- The values of a setting, where the switches are as given: of a range those from low to high, both included; of a list its values;
-- of two values t where c holds, else f.
abbrev pub IsValue : Assignment → IntVarRepresentation → ℤ → Type 0
IsValue switch (range low high) z = (low ≤ℤ z) × (z ≤ℤ high)
IsValue switch (list ks) z = OneOf z ks
IsValue switch (binary c f t) z = z ≡ cond (holds switch c) t f

-- strictly rising values after k
abbrev pub RisingFrom : ℤ → List ℤ → Type 0
RisingFrom k [] = Unit
RisingFrom k (m ∷ ms) = (k <ℤ m) × RisingFrom m ms

-- the last of the values after k
abbrev pub last_from : ℤ → List ℤ → ℤ
last_from k [] = k
last_from k (m ∷ ms) = last_from m ms
