-- The clauses of a product over the settings' records, after `encode_mul_log` of log.rs.
use Rattle.std.specs.Prelude.{suc, zero, ℕ, ◌*ℤ◌, ◌-ℤ◌, negsuc, pos, ℤ, Bool, ◌&&◌, cond, false, true, List, [], ◌++◌, ◌∷◌}
use Rattle.arithmetic.specs.Integers.{down, up}
use Rattle.sat.specs.Encoded.{EncodedRule}
use Rattle.log_encoding.specs.LogEncoding.{LogEncoding}
use Rattle.log_encoding.specs.EncodeLinearLog.{weighted}
use Rattle.log_encoding.specs.Linear.{Weighted, linear_eq}
use Rattle.log_encoding.specs.Multiply.{multiplier, product}

-- Over codes, (x + x_ofs) (y + y_ofs) = m + m_ofs says that x y + y_ofs x + x_ofs y - m + (x_ofs y_ofs - m_ofs) is 0. `xy` are the
-- literals of x y.
abbrev pub offset_terms : LogEncoding → LogEncoding → LogEncoding → List ℕ → List Weighted
offset_terms x y m xy =
    weighted (pos 1) xy ∷ weighted y.offset x.lits ∷ weighted x.offset y.lits ∷ weighted (negsuc 0) m.lits ∷ []

abbrev pub mul_constant : LogEncoding → LogEncoding → LogEncoding → ℤ
mul_constant x y m = x.offset *ℤ y.offset -ℤ m.offset

-- where an offset is not 0: the ordering clauses of Eq stand first, then the multiplier's clauses, then Eq's returned set
abbrev pub product_with_offsets : LogEncoding → LogEncoding → LogEncoding → ℕ → EncodedRule
product_with_offsets x y m v =
    let mul = multiplier x.lits y.lits [] v in
    let k = mul_constant x y m in
    let out = linear_eq (offset_terms x y m mul.bits) (up k) (down k) mul.vars in
    record { clauses = out.sent ++ (mul.clauses ++ out.returned); vars = out.vars }

abbrev pub is_zero : ℤ → Bool
is_zero (pos zero) = true
is_zero (pos (suc n)) = false
is_zero (negsuc n) = false

abbrev pub encode_mul : LogEncoding → LogEncoding → LogEncoding → ℕ → EncodedRule
encode_mul x y m v =
    cond
    (is_zero x.offset && (is_zero y.offset && is_zero m.offset))
    (product x.lits y.lits m.lits v)
    (product_with_offsets x y m v)

-- `int_map` gives the settings' records; v variables are there before
abbrev pub encode_mul_log : (ℕ → LogEncoding) → ℕ → ℕ → ℕ → ℕ → EncodedRule
encode_mul_log int_map x y m v = encode_mul (int_map x) (int_map y) (int_map m) v
