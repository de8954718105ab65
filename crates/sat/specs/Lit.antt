-- Literals by number, after `Var` and `Lit` of sat.rs. Document 01: variables count from 0; a literal is 2 × variable, plus 1 if
-- negated.
use Rattle.std.specs.Prelude.{◌%◌, ◌*◌, ◌+◌, ◌-◌, ◌/◌, ℕ, eqb, Bool, cond}

-- the literal of a variable
abbrev pub as_lit : ℕ → Bool → ℕ
as_lit v negated = cond negated (2 * v + 1) (2 * v)

-- the variable of a literal
abbrev pub var : ℕ → ℕ
var l = l / 2

abbrev pub is_negated : ℕ → Bool
is_negated l = eqb (l % 2) 1

-- the other literal of the same variable
unfoldable pub neg : ℕ → ℕ
neg l = cond (eqb (l % 2) 0) (l + 1) (l - 1)
