-- The plain book (document 01), after `NormCSP` of norm_csp/mod.rs: what the calls asked for, and which choices meet it.
use Rattle.std.specs.Prelude.{◌<◌, ℕ, pos, ℤ, get_or, length, Bool, false, List, [], ◌++◌, ◌∷◌, ◌≡◌}
use Rattle.sat.specs.Clause.{Assignment}
use Rattle.norm_csp.specs.Domain.{IntVarRepresentation, IsValue, range}
use Rattle.norm_csp.specs.Rules.{CmpOp, LinearHolds, LinearTerm, MulHolds}

-- document 01's rules: a sum, or a product of x and y that is m
pub data Constraint : Type 0 where
  linear : CmpOp → ℤ → List LinearTerm → Constraint
  mul : ℕ → ℕ → ℕ → Constraint

-- the switch count, the settings and the rules, in the order in which they were accepted
pub record NormCsp : Type 0 where
  pub switches : ℕ
  pub vars : List IntVarRepresentation
  pub constraints : List Constraint

-- an accepted opening begins it
abbrev pub begun : ℕ → NormCsp
begun n = record { switches = n; vars = []; constraints = [] }

abbrev pub add_var : IntVarRepresentation → NormCsp → NormCsp
add_var r b = record { switches = b.switches; vars = b.vars ++ (r ∷ []); constraints = b.constraints }

abbrev pub add_constraint : Constraint → NormCsp → NormCsp
add_constraint c b = record { switches = b.switches; vars = b.vars; constraints = b.constraints ++ (c ∷ []) }

-- setting x of the book
abbrev pub var_at : NormCsp → ℕ → IntVarRepresentation
var_at b x = get_or b.vars x (range (pos 0) (pos 0))

-- Choices ------------------------------------------------------------------------------------------------------------

-- document 01's choice: yes or no for each switch, and a number for each setting
pub record Valuation : Type 0 where
  pub switches : List Bool
  pub numbers : List ℤ

abbrev pub switch_of : Valuation → Assignment
switch_of ch s = get_or ch.switches s false

abbrev pub number_of : Valuation → ℕ → ℤ
number_of ch x = get_or ch.numbers x (pos 0)

-- a rule, where `number` gives each setting's number
abbrev pub Holds : (ℕ → ℤ) → Constraint → Type 0
Holds number (linear op constant terms) = LinearHolds number op constant terms
Holds number (mul x y m) = MulHolds number x y m

abbrev pub AllHold : (ℕ → ℤ) → List Constraint → Type 0
AllHold number [] = Unit
AllHold number (c ∷ cs) = Holds number c × AllHold number cs

-- every setting has one of its values, and every rule holds
pub record Satisfied (b : NormCsp) (switch : Assignment) (number : ℕ → ℤ) : Type 0 where
  pub values : (x : ℕ) → x < length b.vars → IsValue switch (var_at b x) (number x)
  pub rules : AllHold number b.constraints

-- a choice of the book that meets every rule in it
pub record Meets (b : NormCsp) (ch : Valuation) : Type 0 where
  pub all_switches : length ch.switches ≡ b.switches
  pub all_numbers : length ch.numbers ≡ length b.vars
  pub satisfied : Satisfied b (switch_of ch) (number_of ch)
