-- Literals as the code holds them.
use Rattle.std.specs.Prelude.{ℕ, take, List, map}
use Rattle.sat.specs.declared.Lit.{Lit}

-- the number of a literal, and the literal of a number
abbrev pub num : Lit → ℕ
num l = l.0

abbrev pub lit : ℕ → Lit
lit n = record { 0 = n }

-- the first n literals of an array
abbrev pub first_lits : List Lit → ℕ → List ℕ
first_lits ls n = map num (take n ls)
