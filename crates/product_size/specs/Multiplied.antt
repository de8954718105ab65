-- The size of a multiplier as the code holds it, and of both kinds of products.
use Rattle.std.specs.Prelude.{◌≤◌, ℕ, length, false, true, ◌≡◌, Option, Some, None}
use Rattle.arithmetic.specs.Integers.{down, up}
use Rattle.sat.specs.Size.{Size, size_by}
use Rattle.norm_csp.specs.NormOp.{eq}
use Rattle.log_encoding.specs.AdderSize.{too_tall}
use Rattle.log_encoding.specs.LinearSize.{linear_reached, linear_size}
use Rattle.log_encoding.specs.MulSize.{multiplier_count, multiplier_reached, multiplier_vars, offset_shapes, offsets_constant, offsets_count, offsets_vars, product_count}
use Rattle.log_encoding.specs.VarSize.{SettingShape}
use Rattle.terms_size.specs.Measured.{Measured}
use Rattle.log_linear.specs.declared.RuleCounts.{RuleCounts}
use Rattle.product_size.specs.declared.MultiplierSize.{MultiplierSize}

-- of x by y bits, with `given` of the product's bits given: its bits, variables, clauses and literal entries
pub record Counted (x y given : ℕ) (r : MultiplierSize) : Type 0 where
  pub bits : r.bits ≡ length (multiplier_reached x y given)
  pub vars : r.vars ≡ multiplier_vars x y given
  pub clauses : r.used.clauses ≡ multiplier_count (λ d. 1) x y given
  pub lits : r.used.lits ≡ multiplier_count (λ d. d) x y given

-- these counts, which are small
pub record MultipliedBy (x y given : ℕ) (r : MultiplierSize) : Type 0 where
  pub counted : Counted x y given r
  pub few_bits : r.bits ≤ 32
  pub few_vars : r.vars ≤ 400
  pub few_clauses : r.used.clauses ≤ 33555000
  pub few_lits : r.used.lits ≤ 503320000

-- none where a column is too tall, else these counts
abbrev pub Multiplied : ℕ → ℕ → ℕ → Option MultiplierSize → Type 0
Multiplied x y given None = too_tall (multiplier_reached x y given) ≡ true
Multiplied x y given (Some r) = (too_tall (multiplier_reached x y given) ≡ false) × MultipliedBy x y given r

-- the bits of a product of x by y bits
abbrev pub ProductLong : ℕ → ℕ → ℕ → Type 0
ProductLong x y bits = bits ≡ length (multiplier_reached x y 0)

-- the size of a product without offsets, from the bits of x, y and m
abbrev pub plain_size : ℕ → ℕ → ℕ → Size
plain_size x y m = size_by (multiplier_vars x y m) (λ weigh. product_count weigh x y m)

-- with offsets
abbrev pub offsets_size : SettingShape → SettingShape → SettingShape → Size
offsets_size x y m = size_by (offsets_vars x y m) (λ weigh. offsets_count weigh x y m)

-- of which the Eq over the product's bits and the numbers themselves is this, by at most one adder
abbrev pub OffsetsEquation : SettingShape → SettingShape → SettingShape → Option RuleCounts → Type 0
OffsetsEquation x y m r =
    let k = offsets_constant x y m in
    Measured 1 (linear_reached eq (offset_shapes x y m) (up k) (down k)) (linear_size eq (offset_shapes x y m) k) r
