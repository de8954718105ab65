-- The multiplier spells the product of two codes (`multiplier_value`), and its clauses say that the product is m
-- (`product_encodes`).
use Prim.Native.Nat.{◌*◌, ◌+◌, ◌/◌, ◌<◌, ◌≤◌, suc, ℕ}
use lib.ListN.{drop, length}
use mathlib.Core.Bool.{Bool, beq, So, ◌&&◌, ◌||◌, cond, false, not, true}
use mathlib.Core.List.{List, [], ◌∷◌}
use mathlib.Core.Logic.{◌↔◌}
use mathlib.Core.Path.{◌∙◌, ◌≡◌, ap, ap₂, refl, sym}
use native.Mathlib.Nat.{zero-mul}
use native.Mathlib.Omega.{arith}
use Rattle.arithmetic.specs.Bits.{shl}
use Rattle.arithmetic.proofs.Bits.{shl_add, shl_none, shl_twice, shl_zero}
use Rattle.sat.specs.Clause.{Assignment, bit, holds, sat}
use Rattle.sat.specs.Encoded.{EncodedBits}
use Rattle.sat.specs.Encodes.{Any, Encodes, LitsBelow}
use Rattle.sat.specs.Fresh.{fresh}
use Rattle.sat.specs.Number.{code_of}
use Rattle.sat.proofs.Clauses.{sat_both}
use Rattle.sat.proofs.Extend.{compose, holds_agree, lits_below_more, nothing, then}
use Rattle.sat.proofs.Fresh.{fresh_below}
use Rattle.sat.proofs.Gate.{check, gate, gate_value}
use Rattle.sat.proofs.Lits.{bit_le, holds_neg, holds_plain, neg_below}
use Rattle.sat.proofs.Number.{code_agree, code_append, lits_drop}
use Rattle.log_encoding.specs.Adder.{ColumnsBelow, MatchesCode, adder, columns_value}
use Rattle.log_encoding.specs.Gather.{Grid, GridBelow, grid_value, pad_columns, push_value}
use Rattle.log_encoding.proofs.Adder.{adder_bits, adder_encodes, adder_keeps, adder_value, matches_agree}
use Rattle.log_encoding.proofs.Gather.{grid_below_more, pad_columns_below, pad_columns_length, pad_columns_value, push_value_below, push_value_value}
use Rattle.log_encoding.specs.Compare.{none_of}
use Rattle.log_encoding.proofs.Compare.{none_of_below, none_of_sat}
use Rattle.log_encoding.specs.Multiply.{and_gate, multiplier, product, row, rows, rows_grid, rows_vars}

and_table : (a x y : Bool) → ((not a || (x || false)) && ((not a || (y || false)) && ((not x || (not y || (a || false))) && true))) ≡ beq a (x && y)
and_table true true true = refl
and_table true true false = refl
and_table true false true = refl
and_table true false false = refl
and_table false true true = refl
and_table false true false = refl
and_table false false true = refl
and_table false false false = refl

and_is : (v x y : ℕ) (α : Assignment) → sat α (and_gate (2 * v) x y) ≡ beq (α v) (holds α x && holds α y)
and_is v x y α = simp (holds_neg, holds_plain) (and_table (α v) (holds α x) (holds α y))

row_encodes : (x : ℕ) (ys : List ℕ) (v w : ℕ) → w ≡ v + length ys → x < 2 * v → LitsBelow v ys → Encodes v w Any Any (row x ys v)
row_encodes x [] v w e b h = let same : w ≡ v = omega arith in rw same (nothing v Any)
row_encodes x (y ∷ ys) v w e b h =
    then
    (gate v (and_gate (2 * v) x y) (λ α. holds α x && holds α y) (and_is v x y) Any
    (omega (arith, neg_below (suc v) (2 * v) (omega arith), neg_below (suc v) x (omega arith), neg_below (suc v) y (omega arith)))
    (λ α β g. rw (holds_agree v α β g x b, holds_agree v α β g y h.0)))
    (row_encodes x ys (suc v) w (omega arith) (omega arith) (lits_below_more v (suc v) ys (omega arith) h.1))

row_value : (x : ℕ) (ys : List ℕ) (v : ℕ) (α : Assignment) → So (sat α (row x ys v)) → code_of α (fresh (length ys) v) ≡ bit α x * code_of α ys
row_value x [] v α h = omega arith
row_value x (y ∷ ys) v α h =
    let parts = (sat_both α (and_gate (2 * v) x y) (row x ys (suc v))).0 h in
    rw (holds_plain, gate_value v (and_gate (2 * v) x y) (λ α. holds α x && holds α y) (and_is v x y) α parts.0)
    (go (holds α x) (holds α y) (row_value x ys (suc v) α parts.1))
  where
    go : (s t : Bool) → code_of α (fresh (length ys) (suc v)) ≡ cond s 1 0 * code_of α ys
        → cond (s && t) 1 0 + 2 * code_of α (fresh (length ys) (suc v)) ≡ cond s 1 0 * (cond t 1 0 + 2 * code_of α ys)
    go true true e = omega arith
    go true false e = omega arith
    go false t e = omega arith

rows_grows : (xs ys : List ℕ) (v : ℕ) → v ≤ rows_vars xs ys v
rows_grows [] ys v = omega arith
rows_grows (x ∷ xs) ys v = omega (arith, rows_grows xs ys (v + length ys))

rows_encodes : (xs ys : List ℕ) (v : ℕ) → LitsBelow v xs → LitsBelow v ys → Encodes v (rows_vars xs ys v) Any Any (rows xs ys v)
rows_encodes [] ys v a b = nothing v Any
rows_encodes (x ∷ xs) ys v a b =
    then
    (row_encodes x ys v (v + length ys) refl a.0 b)
    (rows_encodes xs ys (v + length ys) (lits_below_more v _ xs (omega arith) a.1) (lits_below_more v _ ys (omega arith) b))

rows_below : (xs ys : List ℕ) (o v : ℕ) (cols : Grid) → GridBelow v cols → GridBelow (rows_vars xs ys v) (rows_grid xs ys o v cols)
rows_below [] ys o v cols g = g
rows_below (x ∷ xs) ys o v cols g =
    rows_below xs ys (suc o) (v + length ys) (push_value o (fresh (length ys) v) cols)
    (push_value_below (v + length ys) o (fresh (length ys) v) cols (fresh_below (length ys) v _ (omega arith)) (grid_below_more v _ cols (omega arith) g))

rows_value : (xs ys : List ℕ) (o v : ℕ) (cols : Grid) (α : Assignment) → So (sat α (rows xs ys v))
    → grid_value α (rows_grid xs ys o v cols) ≡ grid_value α cols + shl o (code_of α xs * code_of α ys)
rows_value [] ys o v cols α h = rw zero-mul (omega (arith, shl_zero o))
rows_value (x ∷ xs) ys o v cols α h =
    let parts = (sat_both α (row x ys v) (rows xs ys (v + length ys))).0 h in
    rows_value xs ys (suc o) (v + length ys) (push_value o (fresh (length ys) v) cols) α parts.1
    ∙ rw (push_value_value, row_value x ys v α parts.0)
    (omega (arith, ap (shl o) (distribute (bit α x) (code_of α xs) (code_of α ys)), shl_add o (bit α x * code_of α ys) (2 * (code_of α xs * code_of α ys)), shl_twice o (code_of α xs * code_of α ys)))
  where
    distribute : (b p q : ℕ) → (b + 2 * p) * q ≡ b * q + 2 * (p * q)
    distribute b p q = omega arith

matches_self : (α : Assignment) (rs : List ℕ) (x : ℕ) → x ≡ code_of α rs → MatchesCode α rs x
matches_self α [] x e = tt
matches_self α (r ∷ rs) x e = (omega (arith, bit_le α r), matches_self α rs (x / 2) (omega (arith, bit_le α r)))

module _ (xs ys rs : List ℕ) (v : ℕ) (a : LitsBelow v xs) (b : LitsBelow v ys) (c : LitsBelow v rs) where
  abbrev grid : Grid
  grid = rows_grid xs ys 0 v []

  abbrev w : ℕ
  w = rows_vars xs ys v

  abbrev sum : EncodedBits
  sum = adder (pad_columns (length rs) grid) [] rs w

  abbrev mul : EncodedBits
  mul = multiplier xs ys rs v

  columns : (α : Assignment) → So (sat α (rows xs ys v)) → columns_value α (pad_columns (length rs) grid) ≡ code_of α xs * code_of α ys
  columns α h = pad_columns_value α (length rs) grid ∙ rows_value xs ys 0 v [] α h ∙ omega arith

  cols_below : ColumnsBelow w (pad_columns (length rs) grid)
  cols_below = pad_columns_below w (length rs) grid (rows_below xs ys 0 v [] tt)

  given : LitsBelow w rs
  given = lits_below_more v w rs (rows_grows xs ys v) c

  pub multiplier_value : (α : Assignment) → So (sat α mul.clauses) → code_of α mul.bits ≡ code_of α xs * code_of α ys
  multiplier_value α h =
      let parts = (sat_both α (rows xs ys v) sum.clauses).0 h in
      adder_value (pad_columns (length rs) grid) [] rs w cols_below tt given α refl parts.1 ∙ omega (arith, columns α parts.0)

  pub multiplier_bits : LitsBelow mul.vars mul.bits
  multiplier_bits = adder_bits (pad_columns (length rs) grid) [] rs w given

  pub multiplier_encodes : Encodes v mul.vars Any (λ α. MatchesCode α rs (code_of α xs * code_of α ys)) mul.clauses
  multiplier_encodes =
      compose
      (λ α. MatchesCode α rs (code_of α xs * code_of α ys))
      (rows_encodes xs ys v a b)
      (adder_encodes (pad_columns (length rs) grid) [] rs w cols_below tt given (pad_columns_length (length rs) grid))
      (λ α β g _. tt)
      (λ α β g m. matches_agree v α β g rs c _ _ (rw (code_agree v α β g xs a, code_agree v α β g ys b)) m)
      (λ α _ _. tt)
      (λ α _ h.
      let e : 0 + columns_value α (pad_columns (length rs) grid) ≡ code_of α xs * code_of α ys = omega (arith, columns α h) in
      (refl, (λ m. rw e m, λ m. rw e at m)))

  -- x times y is m
  pub product_encodes : Encodes v (product xs ys rs v).vars Any (λ α. code_of α xs * code_of α ys ≡ code_of α rs) (product xs ys rs v).clauses
  product_encodes =
      compose
      (λ α. code_of α xs * code_of α ys ≡ code_of α rs)
      multiplier_encodes
      (check mul.vars Any (λ α. code_of α high ≡ 0) (none_of high)
      (none_of_below mul.vars high (lits_drop mul.vars (length rs) mul.bits multiplier_bits))
      (λ α. none_of_sat α high))
      (λ α β g _. tt)
      (λ α β g s. ap₂ (λ p q. p * q) (sym (code_agree v α β g xs a)) (sym (code_agree v α β g ys b)) ∙ s ∙ code_agree v α β g rs c)
      (λ α _ s. matches_self α rs _ s)
      (λ α _ h. (tt, link α (multiplier_value α h)))
    where
      high : List ℕ
      high = drop (length rs) mul.bits

      whole : (α : Assignment) → code_of α mul.bits ≡ code_of α rs + shl (length rs) (code_of α high)
      whole α = ap (code_of α) (sym (adder_keeps (pad_columns (length rs) grid) [] rs w (pad_columns_length (length rs) grid))) ∙ code_append α rs high

      link : (α : Assignment) → code_of α mul.bits ≡ code_of α xs * code_of α ys → (code_of α xs * code_of α ys ≡ code_of α rs) ↔ (code_of α high ≡ 0)
      link α e = (
        λ s. shl_none (length rs) (code_of α high) (omega (arith, whole α)),
        λ z. let none : shl (length rs) (code_of α high) ≡ 0 = ap (shl (length rs)) z ∙ shl_zero (length rs) in omega (arith, whole α),
      )
