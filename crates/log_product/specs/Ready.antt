-- What the code of products over the settings' records asks and leaves.
use Rattle.std.specs.Prelude.{◌+◌, ◌-◌, ◌<◌, ◌^◌, ◌≤◌, ℕ, length, false, List, [], ◌++◌, ◌≡◌}
use Rattle.sat.specs.Encoded.{EncodedBits, EncodedRule}
use Rattle.sat.specs.declared.Lit.{Lit}
use Rattle.clause_set.specs.declared.ClauseSet.{ClauseSet}
use Rattle.clause_set.specs.Stores.{Below}
use Rattle.log_var.specs.declared.LogEncoding.{LogEncoding as Encoding}
use Rattle.log_encoding.specs.Adder2.{EncodedEq}
use Rattle.log_encoding.specs.Gather.{Grid}
use Rattle.log_encoding.specs.AdderSize.{eq_reached, own_counts, too_tall}
use Rattle.log_adder2.specs.declared.EqInput.{EqInput}
use Rattle.log_gather.specs.Arrays.{AllSmall}
use Rattle.log_linear.specs.Added.{bits_of}
use Rattle.log_encoding.specs.Linear.{Weighted, gather, negated_constant}
use Rattle.log_linear.specs.declared.Bits.{Bits}
use Rattle.log_encoding.specs.MulSize.{multiplier_reached}
use Rattle.log_var.specs.Record.{record_at}
use Rattle.log_var.specs.Settings.{SettingReady}

-- literals of a setting in 32 places
pub record BitsReady (ls : List ℕ) (b : Bits) : Type 0 where
  pub bits : bits_of b ≡ ls
  pub len : b.len ≤ 12
  pub count : length ls ≡ b.len
  pub long : length b.lits ≡ 32
  pub small : AllSmall b.lits

-- Eq of terms with the constant a - b, from variable v on: how many columns, and what they and x have to reach
pub record EqInputReady (ws : List Weighted) (a b v : ℕ) (g : EqInput) : Type 0 where
  pub width : g.width ≡ length (gather ws [])
  pub few : g.width ≤ 25
  pub x_is : g.x ≡ a - (b + negated_constant ws)
  pub y_is : g.y ≡ b + negated_constant ws - a
  pub x_low : g.x ≤ 1073741824
  pub y_low : g.y ≤ 1073741824
  pub vars : g.vars ≡ v

-- two numbers to multiply, counts with room, and no column above 12
pub record FactorsReady (x y : List Lit) (s : ClauseSet) : Type 0 where
  pub x_len : length x ≤ 12
  pub y_len : length y ≤ 12
  pub vars : s.vars ≤ 1000000
  pub below : Below (2 ^ 24 + 1) s
  pub heights : too_tall (multiplier_reached (length x) (length y) 0) ≡ false

-- Eq's columns, of which there is at least one: none that is reached is above 12
pub record ColumnsReady (grid : Grid) (g : EqInput) : Type 0 where
  pub width : g.width ≡ length grid
  pub some : 1 ≤ g.width
  pub few : g.width ≤ 25
  pub x_low : g.x ≤ 1073741824
  pub y_low : g.y ≤ 1073741824
  pub vars : g.vars ≤ 1048576
  pub heights : too_tall (eq_reached (own_counts grid) g.x g.y 0) ≡ false

-- Eq's ordering clauses, then the multiplier's, then Eq's returned set
abbrev pub multiply_then : EncodedBits → EncodedEq → EncodedRule
multiply_then mul out = record { clauses = out.sent ++ (mul.clauses ++ out.returned); vars = out.vars }

-- three records within bounds, and counts with room
pub record ProductReady (x y m : Encoding) (s : ClauseSet) : Type 0 where
  pub x_ready : SettingReady x
  pub y_ready : SettingReady y
  pub m_ready : SettingReady m
  pub vars : s.vars ≤ 65535
  pub below : Below (2 ^ 24 + 1) s

-- three of 32 settings, all within bounds
pub record ProductsReady (es : List Encoding) (x y m : ℕ) : Type 0 where
  pub settings : (i : ℕ) → i < 32 → SettingReady (record_at es i)
  pub x_known : x < 32
  pub y_known : y < 32
  pub m_known : m < 32
