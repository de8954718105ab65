-- The adder of Eq in integers, definition by definition after `log_encoding_adder2` of log.rs: literals that count 1 or -1 in columns,
-- carries with a least and a greatest value. And the terms of a column of `log_encoding_adder`.
use Rattle.std.specs.Prelude.{◌+◌, suc, zero, ℕ, ◌*ℤ◌, ◌+ℤ◌, ◌-ℤ◌, negsuc, pos, ℤ, length, Bool, cond, List, [], ◌∷◌, map, reverse}
use Rattle.std.specs.Int.Signed.{lt_z}
use Rattle.std.proofs.Math.Option.{some}
use Rattle.arithmetic.specs.Integers.{div_ceil, div_floor, low_bit, shift, up}
use Rattle.sat.specs.Fresh.{fresh}
use Rattle.sat.specs.Lit.{neg}
use Rattle.log_encoding.specs.Order.{LinearInfo, OrderEncoding, encode_eq, steps}
use Rattle.log_encoding.specs.Adder2.{Adder2Output, EncodedEq, column_and_rest, dead_end, returned_set}

-- a literal that counts 1, or -1
pub record Signed : Type 0 where
  pub negative : Bool
  pub lit : ℕ

abbrev pub SignedColumns : Type 0
SignedColumns = List (List Signed)

-- a literal for each value but the least, which says that the carry is at least that
pub record Carry : Type 0 where
  pub low : ℤ
  pub high : ℤ
  pub lits : List ℕ

abbrev pub no_carry : Carry
no_carry = record { low = pos 0; high = pos 0; lits = [] }

-- the least and the greatest value of a column
abbrev pub least : List Signed → ℤ → ℤ
least [] low = low
least (s ∷ ss) low = least ss (cond s.negative (low -ℤ pos 1) low)

abbrev pub greatest : List Signed → ℤ → ℤ
greatest [] high = high
greatest (s ∷ ss) high = greatest ss (cond s.negative high (high +ℤ pos 1))

-- a literal as an order encoding of -1, 0 or of 0, 1
abbrev pub signed_order : Signed → OrderEncoding
signed_order s =
    cond
    s.negative
    record { domain = negsuc 0 ∷ pos 0 ∷ []; lits = neg s.lit ∷ [] }
    record { domain = pos 0 ∷ pos 1 ∷ []; lits = s.lit ∷ [] }

-- low..=high
abbrev pub carry_order : Carry → OrderEncoding
carry_order c = record { domain = steps c.low 1 (up (c.high -ℤ c.low)); lits = c.lits }

-- -2 times a carry: its values from the greatest down, times -2, and its literals negated, from the last
abbrev pub minus_twice : Carry → OrderEncoding
minus_twice c = record { domain = map (λ x. x *ℤ negsuc 1) (reverse (carry_order c).domain); lits = map neg (reverse c.lits) }

-- an encoding with its coefficient
abbrev pub info : ℤ → OrderEncoding → LinearInfo
info k o = record { coef = k; encoding = o }

-- own + carry - 2 next
abbrev pub column_infos : List Signed → Carry → Carry → List LinearInfo
column_infos [] carry next = info (pos 1) (carry_order carry) ∷ info (pos 1) (minus_twice next) ∷ []
column_infos (s ∷ ss) carry next = info (pos 1) (signed_order s) ∷ column_infos ss carry next

-- the least and the greatest carry out of a column, and new variables
abbrev pub next_carry : List Signed → Carry → ℤ → ℕ → Carry
next_carry own carry target v =
    let low = div_ceil (least own carry.low +ℤ target) in
    let high = div_floor (greatest own carry.high +ℤ target) in
    record { low = low; high = high; lits = fresh (up (high -ℤ low)) v }

-- Column i and those after it, with the carry into it: the bit of the constant is the target, in the last column all that is left
-- of it. Where the least carry exceeds the greatest, the column is a dead end.
abbrev pub plain_adder2 : List Signed → SignedColumns → ℕ → ℤ → Carry → ℕ → Adder2Output
plain_adder2 own [] i constant carry v =
    record { sent = []; returned = some (encode_eq (column_infos own carry no_carry) (shift constant i)); vars = v }
plain_adder2 own (c ∷ cols) i constant carry v =
    let target = low_bit (shift constant i) in
    let next = next_carry own carry target v in
    let rest = plain_adder2 c cols (suc i) constant next (v + length next.lits) in
    cond
    (lt_z next.high next.low)
    (dead_end v)
    (column_and_rest next.lits (encode_eq (column_infos own carry next) target) rest)

-- the columns and the constant add up to 0; without a literal there is no column
abbrev pub plain_eq_adder : SignedColumns → ℤ → ℕ → EncodedEq
plain_eq_adder [] (pos zero) v = record { sent = []; returned = []; vars = v }
plain_eq_adder [] (pos (suc k)) v = record { sent = []; returned = [] ∷ []; vars = v }
plain_eq_adder [] (negsuc k) v = record { sent = []; returned = [] ∷ []; vars = v }
plain_eq_adder (c ∷ cols) k v =
    let out = plain_adder2 c cols 0 k no_carry v in
    record { sent = out.sent; returned = returned_set out.returned; vars = out.vars }

-- The adder of Ne, Ge and products ------------------------------------------------------------------------------------

-- values from 0 on
abbrev pub from_0 : List ℕ → OrderEncoding
from_0 ls = record { domain = steps (pos 0) 1 (length ls); lits = ls }

-- own + carry - 2 next - result
abbrev pub adder_infos : List ℕ → List ℕ → List ℕ → ℕ → List LinearInfo
adder_infos [] carry next r =
    info (pos 1) (from_0 carry) ∷ info (negsuc 1) (from_0 next) ∷ info (negsuc 0) (from_0 (r ∷ [])) ∷ []
adder_infos (l ∷ ls) carry next r = info (pos 1) (from_0 (l ∷ [])) ∷ adder_infos ls carry next r
