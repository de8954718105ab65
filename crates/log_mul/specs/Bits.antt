-- The literals of a sum's bits where no result is given: they follow from the columns reached.
use Rattle.std.specs.Prelude.{◌+◌, ◌*◌, ◌/◌, ◌≤◌, suc, ℕ, List, [], ◌++◌, ◌∷◌, ◌≡◌, length}
use Rattle.log_encoding.specs.AdderSize.{Reached}
use Rattle.log_gather.specs.Arrays.{AllSmall}
use Rattle.log_linear.specs.Added.{bits_of}
use Rattle.log_encoding.specs.Multiply.{multiplier}
use Rattle.log_encoding.specs.MulSize.{multiplier_reached}
use Rattle.log_mul.specs.declared.BitsState.{BitsState}
use Rattle.log_mul.specs.declared.ProductBits.{ProductBits}

-- from variable v on: a column's carry has the first variables, its result the next
abbrev pub numbered : List Reached → ℕ → List ℕ
numbered [] v = []
numbered (r ∷ rs) v = 2 * (v + r.next) ∷ numbered rs (suc (v + r.next))

-- the variables after them
abbrev pub numbered_vars : List Reached → ℕ → ℕ
numbered_vars [] v = v
numbered_vars (r ∷ rs) v = numbered_vars rs (suc (v + r.next))

-- a column's bit, after those so far
pub record BitAdded (own : ℕ) (s r : BitsState) : Type 0 where
  pub bits : bits_of r.bits ≡ bits_of s.bits ++ (2 * (s.vars + (own + s.carry) / 2) ∷ [])
  pub len : r.bits.len ≡ s.bits.len + 1
  pub vars : r.vars ≡ suc (s.vars + (own + s.carry) / 2)
  pub carry : r.carry ≡ (own + s.carry) / 2
  pub long : length r.bits.lits ≡ 32
  pub small : AllSmall s.bits.lits → AllSmall r.bits.lits

-- the bits so far, with those of the columns left, are those of all
pub record BitsLeft (all : List Reached) (v : ℕ) (left : List Reached) (s : BitsState) : Type 0 where
  pub bits : numbered all v ≡ bits_of s.bits ++ numbered left s.vars
  pub same_vars : numbered_vars all v ≡ numbered_vars left s.vars
  pub len : s.bits.len + length left ≡ length all
  pub vars : s.vars ≤ v + 145 * s.bits.len
  pub carry : s.carry ≤ 144
  pub long : length s.bits.lits ≡ 32
  pub small : AllSmall s.bits.lits

-- the bits of a product of x by y bits from variable v on, whatever the literals of x and y are
pub record ProductNumbered (x y v : ℕ) (r : ProductBits) : Type 0 where
  pub bits : (xs ys : List ℕ) → length xs ≡ x → length ys ≡ y → bits_of r.bits ≡ (multiplier xs ys [] v).bits
  pub vars : (xs ys : List ℕ) → length xs ≡ x → length ys ≡ y → r.vars ≡ (multiplier xs ys [] v).vars
  pub len : r.bits.len ≡ length (multiplier_reached x y 0)
  pub few : r.bits.len ≤ 24
  pub few_vars : r.vars ≤ v + 3624
  pub long : length r.bits.lits ≡ 32
  pub small : AllSmall r.bits.lits
