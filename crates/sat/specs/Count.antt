-- How many literals of a list hold.
use Rattle.std.specs.Prelude.{◌+◌, suc, ℕ, cond, List, [], ◌∷◌, ◌≡◌}
use Rattle.sat.specs.Clause.{Assignment, bit, holds}

-- how many literals at the front of the list hold, up to the first that does not
abbrev pub lead : Assignment → List ℕ → ℕ
lead α [] = 0
lead α (l ∷ ls) = cond (holds α l) (suc (lead α ls)) 0

-- how many literals hold
abbrev pub count : Assignment → List ℕ → ℕ
count α [] = 0
count α (l ∷ ls) = bit α l + count α ls

-- after the first literal that does not hold, none does
abbrev pub Monotone : Assignment → List ℕ → Type 0
Monotone α ls = lead α ls ≡ count α ls
