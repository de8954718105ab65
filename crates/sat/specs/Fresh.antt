-- The literals of new variables, after `new_vars_as_lits` of sat.rs.
use Rattle.std.specs.Prelude.{◌*◌, suc, zero, ℕ, List, [], ◌∷◌}

-- the plain literals of n new variables, from v on
abbrev pub fresh : ℕ → ℕ → List ℕ
fresh zero v = []
fresh (suc n) v = 2 * v ∷ fresh n (suc v)
