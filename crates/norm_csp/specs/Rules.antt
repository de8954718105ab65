-- The rules of the plain book, after `LinearLit` and `ExtraConstraint::Mul` of norm_csp/mod.rs: sums and products.
use Rattle.std.specs.Prelude.{suc, zero, ℕ, ◌*ℤ◌, ◌+ℤ◌, pos, ℤ, ◌<ℤ◌, ◌≤ℤ◌, List, [], ◌∷◌, ◌≡◌}
use Rattle.arithmetic.specs.Integers.{up}

-- the operations 0 Eq, 1 Ne, 2 Ge of document 01 and 3 Le, 4 Lt, 5 Gt of document 02, #102
pub data CmpOp : Type 0 where
  eq ne ge le lt gt : CmpOp

-- an operation by its number
abbrev pub cmp_op_of : ℕ → CmpOp
cmp_op_of zero = eq
cmp_op_of (suc zero) = ne
cmp_op_of (suc (suc zero)) = ge
cmp_op_of (suc (suc (suc zero))) = le
cmp_op_of (suc (suc (suc (suc zero)))) = lt
cmp_op_of (suc (suc (suc (suc (suc n))))) = gt

-- a setting's number and its coefficient
pub record LinearTerm : Type 0 where
  pub var : ℕ
  pub coef : ℤ

-- a call's flat list of terms: setting, coefficient, in turn; a last setting without its coefficient is dropped
abbrev pub terms_of : List ℤ → List LinearTerm
terms_of [] = []
terms_of (x ∷ []) = []
terms_of (x ∷ k ∷ zs) = record { var = up x; coef = k } ∷ terms_of zs

-- the constant plus every coefficient times its setting's number
abbrev pub linear_sum : (ℕ → ℤ) → ℤ → List LinearTerm → ℤ
linear_sum number constant [] = constant
linear_sum number constant (t ∷ ts) = t.coef *ℤ number t.var +ℤ linear_sum number constant ts

-- 0, not 0, at least 0; at most 0, below 0, above 0
abbrev pub Compares : CmpOp → ℤ → Type 0
Compares eq z = z ≡ pos 0
Compares ne z = z ≡ pos 0 → ⊥
Compares ge z = pos 0 ≤ℤ z
Compares le z = z ≤ℤ pos 0
Compares lt z = z <ℤ pos 0
Compares gt z = pos 0 <ℤ z

-- a sum, where `number` gives each setting's number
abbrev pub LinearHolds : (ℕ → ℤ) → CmpOp → ℤ → List LinearTerm → Type 0
LinearHolds number op constant terms = Compares op (linear_sum number constant terms)

-- a product: x's number times y's is m's
abbrev pub MulHolds : (ℕ → ℤ) → ℕ → ℕ → ℕ → Type 0
MulHolds number x y m = number x *ℤ number y ≡ number m
