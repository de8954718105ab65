-- The number that literals spell.
use Rattle.std.specs.Prelude.{◌*◌, ◌+◌, ℕ, List, [], ◌∷◌}
use Rattle.sat.specs.Clause.{Assignment, bit}

-- the number that literals spell, the lowest bit first
abbrev pub code_of : Assignment → List ℕ → ℕ
code_of α [] = 0
code_of α (l ∷ ls) = bit α l + 2 * code_of α ls
