-- A setting's record and clauses are right (`encode_var_log_encodes`), and its values and codes convert both ways
-- (`value_to_code`, and
-- `code_value` of arithmetic for the way back).
use Prim.Native.Nat.{◌+◌, ◌<◌, ◌≤◌, ℕ}
use lib.IntN.{ℤ}
use lib.ListN.{length}
use lib.Signed.{◌≤ℤ◌}
use mathlib.Core.Bool.{Bool, So, cond, false, true}
use mathlib.Core.List.{List, [], ◌∷◌, map}
use mathlib.Core.Logic.Iff
use mathlib.Core.Logic.{◌↔◌}
use mathlib.Core.Path.{◌∙◌, ◌≡◌, ap, refl, sym}
use native.Mathlib.Omega.{arith}
use Rattle.arithmetic.specs.Bits.{bit_length, shl, testbit}
use Rattle.arithmetic.specs.Offset.{code, offset_of, value}
use Rattle.arithmetic.proofs.Bits.{bit_length_fits}
use Rattle.arithmetic.proofs.Integers.{<ℤ_le, less_read, order_read, ≤ℤ_trans}
use Rattle.arithmetic.proofs.Offset.{code_read, code_value, offset_low, value_code, value_read}
use Rattle.sat.specs.Clause.{Assignment, holds, sat}
use Rattle.sat.specs.Encodes.{Any, Encodes, LitsBelow}
use Rattle.sat.specs.Fresh.{fresh}
use Rattle.sat.specs.Number.{code_of}
use Rattle.sat.proofs.Extend.{holds_agree, over, over_agree, over_new}
use Rattle.sat.proofs.Fresh.{fresh_below, length_fresh}
use Rattle.sat.proofs.Number.{code_neg, fresh_code, fresh_same}
use Rattle.norm_csp.specs.Domain.{IntVarRepresentation, IsValue, binary, last_from, list, range}
use Rattle.log_encoding.specs.Binary.{binary_bits}
use Rattle.log_encoding.specs.Domain.{gaps}
use Rattle.log_encoding.specs.EncodeVarLog.{EncodedVar, Encodable, encode_domain, encode_var_log}
use Rattle.log_encoding.specs.EncodesVar.{EncodesVar}
use Rattle.log_encoding.proofs.Binary.{binary_below, binary_encodes, binary_sat, binary_unique}
use Rattle.log_encoding.proofs.Codes.{codes_are, codes_rise, codes_top}
use Rattle.log_encoding.proofs.Domain.{RisingCodes, among, among_greatest, among_le, bounds_sat, domain_below, gaps_sat, last_code, rising_le}

-- a code is settled by its value
value_same : (o : ℤ) (x y : ℕ) → value o x ≡ value o y → x ≡ y
value_same o x y e = sym (code_value o x) ∙ ap (code o) e ∙ code_value o y

-- Ranges and lists ---------------------------------------------------------------------------------------------------

-- low is the least value and high the greatest, ks stand between; C says which codes are those of values
module _ (v : ℕ) (repr : IntVarRepresentation) (low high : ℤ) (ks : List ℤ) (C : ℕ → Type 0) where
  abbrev out : EncodedVar
  out = encode_domain low ks high v

  abbrev o : ℤ
  o = offset_of low

  abbrev n : ℕ
  n = bit_length (code o high)

  abbrev lits : List ℕ
  lits = fresh n v

  domain_encodes : ((k : ℕ) → C k → k < shl n 1)
      → ((α : Assignment) → So (sat α out.clauses) ↔ C (code_of α lits))
      → ((α : Assignment) (z : ℤ) → IsValue α repr z ↔ ((k : ℕ) × C k × (value o k ≡ z)))
      → EncodesVar v repr out
  domain_encodes fits is means =
      record {
        grows = omega arith;
        below = domain_below (v + n) lits (code o low) (map (code o) ks) (code o high) lits_low;
        lits_below = lits_low;
        admits = λ α. (
          λ h. (means α (value o (code_of α lits))).1 (code_of α lits, (is α).0 h, refl),
          λ z.
              let (k, c, e) = (means α (value o (code_of α lits))).0 z in
              (is α).1 (rw (value_same o (code_of α lits) k (sym e)) c),
        );
        complete = λ α z h.
            let (k, c, e) = (means α z).0 h in
            let β = over v (testbit k) α in
            let spelled : code_of β lits ≡ k = fresh_code β n v k (fits k c) (λ i b. over_new v (testbit k) α i) in
            (β, over_agree v (testbit k) α, ap (value o) spelled ∙ e);
        unique = λ α β g e. fresh_same α β n v (value_same o (code_of α lits) (code_of β lits) e) g;
      }
    where
      lits_low : LitsBelow (v + n) lits
      lits_low = fresh_below n v (v + n) (omega arith)

range_encodes : (v : ℕ) (low high : ℤ) → Encodable v (range low high) → EncodesVar v (range low high) (encode_var_log (range low high) v)
range_encodes v low high h =
    domain_encodes v (range low high) low high [] (λ k. (lo ≤ k) × (k ≤ hi))
    (λ k c. omega (arith, fits))
    (λ α. Iff.trans (bounds_sat α ls lo hi [] (omega (arith, in_order, fits, length_ls)) (omega (arith, fits, length_ls))) (λ p. (p.0, p.1), λ p. (p.0, p.1, refl)))
    (λ α z. (
      λ d. let oz = ≤ℤ_trans o low z (offset_low low) d.0 in (
        code o z,
        omega (arith, code_read o z oz, code_read o low (offset_low low), code_read o high o_high, (order_read low z).0 d.0, (order_read z high).0 d.1),
        value_code o z oz,
      ),
      λ e. let r = value_read o z e.0 e.2 in (
        (order_read low z).1 (omega (arith, code_read o low (offset_low low), e.1.0)),
        (order_read z high).1 (omega (arith, code_read o high o_high, e.1.1)),
      ),
    ))
  where
    o : ℤ
    o = offset_of low

    lo : ℕ
    lo = code o low

    hi : ℕ
    hi = code o high

    ls : List ℕ
    ls = fresh (bit_length hi) v

    o_high : o ≤ℤ high
    o_high = ≤ℤ_trans o low high (offset_low low) h.0

    in_order : lo ≤ hi
    in_order = omega (arith, code_read o low (offset_low low), code_read o high o_high, (order_read low high).0 h.0)

    fits : hi < shl (bit_length hi) 1
    fits = bit_length_fits hi (omega (arith, h.1))

    length_ls : shl (length ls) 1 ≡ shl (bit_length hi) 1
    length_ls = ap (λ t. shl t 1) (length_fresh (bit_length hi) v)

list_encodes : (v : ℕ) (k : ℤ) (ks : List ℤ) → Encodable v (list (k ∷ ks)) → EncodesVar v (list (k ∷ ks)) (encode_var_log (list (k ∷ ks)) v)
list_encodes v k ks h =
    domain_encodes v (list (k ∷ ks)) k (last_from k ks) ks (λ c. So (among c lo cs))
    (λ c a. omega (arith, fits, among_greatest c lo cs rise a, top))
    (λ α. Iff.trans (bounds_sat α ls lo hi (gaps ls lo cs) (omega (arith, rising_le lo cs rise, top, fits, length_ls)) (omega (arith, fits, length_ls))) (domain α))
    (λ α z. codes_are o k ks h.0 (offset_low k) z)
  where
    o : ℤ
    o = offset_of k

    lo : ℕ
    lo = code o k

    cs : List ℕ
    cs = map (code o) ks

    hi : ℕ
    hi = code o (last_from k ks)

    ls : List ℕ
    ls = fresh (bit_length hi) v

    rise : RisingCodes lo cs
    rise = codes_rise o k ks h.0 (offset_low k)

    top : last_code lo cs ≡ hi
    top = codes_top o k ks

    fits : hi < shl (bit_length hi) 1
    fits = bit_length_fits hi (omega (arith, h.1))

    length_ls : shl (length ls) 1 ≡ shl (bit_length hi) 1
    length_ls = ap (λ t. shl t 1) (length_fresh (bit_length hi) v)

    domain : (α : Assignment) → ((lo ≤ code_of α ls) × (code_of α ls ≤ hi) × So (sat α (gaps ls lo cs))) ↔ So (among (code_of α ls) lo cs)
    domain α =
        let is = gaps_sat α ls lo cs rise (omega (arith, top, fits, length_ls)) in (
          λ p. is.0 p.2 p.0 (omega (arith, top, p.1)),
          λ a. (among_le (code_of α ls) lo cs rise a, omega (arith, among_greatest (code_of α ls) lo cs rise a, top), is.1 (λ _ _. a)),
        )

-- Two values ---------------------------------------------------------------------------------------------------------

binary_value_encodes : (v c : ℕ) (f t : ℤ) → Encodable v (binary c f t) → EncodesVar v (binary c f t) (encode_var_log (binary c f t) v)
binary_value_encodes v c f t h =
    record {
      grows = E.grows;
      below = E.below;
      lits_below = binary_below n lo hi c v h.0;
      admits = λ α. (
        λ q. ap (value o) ((is α).0 q) ∙ either (holds α c),
        λ e. (is α).1 (value_same o (code_of α bits) (cond (holds α c) hi lo) (e ∙ sym (either (holds α c)))),
      );
      complete = λ α z d.
          let (β, g, q) = E.complete α tt tt in
          (β, g, ap (value o) ((is β).0 q) ∙ either (holds β c) ∙ ap (λ b. cond b t f) (sym (holds_agree v α β g c h.0)) ∙ sym d);
      unique = λ α β g e. binary_unique n lo hi c v α β g (value_same o (code_of α bits) (code_of β bits) e);
    }
  where
    o : ℤ
    o = offset_of f

    lo : ℕ
    lo = code o f

    hi : ℕ
    hi = code o t

    n : ℕ
    n = bit_length hi

    bits : List ℕ
    bits = (binary_bits n lo hi c v).bits

    E : Encodes v (binary_bits n lo hi c v).vars Any Any (binary_bits n lo hi c v).clauses
    E = binary_encodes n lo hi c v h.0

    o_t : o ≤ℤ t
    o_t = ≤ℤ_trans o f t (offset_low f) (<ℤ_le f t h.1)

    fits : hi < shl n 1
    fits = bit_length_fits hi (omega (arith, h.2))

    fits_low : lo < shl n 1
    fits_low = omega (arith, fits, code_read o f (offset_low f), code_read o t o_t, less_read f t h.1)

    is : (α : Assignment) → So (sat α (binary_bits n lo hi c v).clauses) ↔ (code_of α bits ≡ cond (holds α c) hi lo)
    is α = binary_sat n lo hi c v α fits_low fits

    either : (b : Bool) → value o (cond b hi lo) ≡ cond b t f
    either true = value_code o t o_t
    either false = value_code o f (offset_low f)

-- All three ----------------------------------------------------------------------------------------------------------

pub encode_var_log_encodes : (v : ℕ) (repr : IntVarRepresentation) → Encodable v repr → EncodesVar v repr (encode_var_log repr v)
encode_var_log_encodes v (range low high) h = range_encodes v low high h
encode_var_log_encodes v (list []) h = absurd h
encode_var_log_encodes v (list (k ∷ ks)) h = list_encodes v k ks h
encode_var_log_encodes v (binary c f t) h = binary_value_encodes v c f t h

-- a value's code fits into the bits, and is read as the value
pub value_to_code : (v : ℕ) (repr : IntVarRepresentation) → Encodable v repr → (α : Assignment) (z : ℤ) → IsValue α repr z
    → (let e = (encode_var_log repr v).encoding in
    (code e.offset z < shl (length e.lits) 1) × (value e.offset (code e.offset z) ≡ z))
value_to_code v repr h α z d =
    let e = (encode_var_log repr v).encoding in
    let (β, g, q) = (encode_var_log_encodes v repr h).complete α z d in
    let c : code e.offset z ≡ code_of β e.lits = ap (code e.offset) (sym q) ∙ code_value e.offset (code_of β e.lits) in
    (omega (arith, code_neg β e.lits), ap (value e.offset) c ∙ q)
