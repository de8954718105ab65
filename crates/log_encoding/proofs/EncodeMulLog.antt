-- A product's clauses can be completed by new variables exactly when x's number times y's is m's, in one way
-- (`encode_mul_log_encodes`). The Eq part is the plain form's (`product_with_offsets_plain`).
use Prim.Native.Nat.{◌*◌, ◌+◌, ◌<◌, ℕ}
use lib.IntN.{◌*ℤ◌, negsuc, neg_ℤ, pos, ℤ}
use mathlib.Core.Bool.{Bool, ◌&&◌, cond, false, false≢true, true}
use mathlib.Core.List.{List, [], ◌++◌, ◌∷◌}
use mathlib.Core.Logic.{◌↔◌}
use mathlib.Core.Path.{◌∙◌, ◌≡◌, ap, refl, sym}
use native.Mathlib.Omega.{arith}
use Rattle.arithmetic.specs.Integers.{down, up}
use Rattle.arithmetic.proofs.Integers.{add_read, mul_read, neg_reads, same_read}
use Rattle.sat.specs.Clause.{Assignment}
use Rattle.sat.specs.Encoded.{EncodedBits}
use Rattle.sat.specs.Encodes.{Agree, Any, Encodes, LitsBelow}
use Rattle.sat.specs.Number.{code_of}
use Rattle.sat.proofs.Extend.{agree_sym, compose, front_below, front_sat, lits_below_more, means, relist}
use Rattle.sat.proofs.Number.{code_agree}
use Rattle.norm_csp.specs.Rules.{MulHolds}
use Rattle.log_encoding.specs.LogEncoding.{LogEncoding, get_int_value}
use Rattle.log_encoding.specs.Adder2.{EncodedEq}
use Rattle.log_encoding.specs.EncodeLinearLog.{weighted}
use Rattle.log_encoding.specs.Linear.{Weighted, linear_eq, signed_sum}
use Rattle.log_encoding.specs.PlainLinear.{plain_linear_eq}
use Rattle.log_encoding.proofs.EncodeLinearLog.{weighted_fits, weighted_sum}
use Rattle.log_encoding.proofs.Linear.{WeightedBelow, linear_eq_encodes}
use Rattle.log_encoding.proofs.PlainLinear.{plain_linear_eq_is, small}
use Rattle.log_encoding.specs.EncodeMulLog.{encode_mul, encode_mul_log, is_zero, mul_constant, offset_terms, product_with_offsets}
use Rattle.log_encoding.specs.Multiply.{multiplier, product}
use Rattle.log_encoding.proofs.Multiply.{multiplier_bits, multiplier_encodes, multiplier_value, product_encodes}

-- a record in order, as far as a product needs it
pub record Factor (v : ℕ) (e : LogEncoding) : Type 0 where
  pub lits_below : LitsBelow v e.lits
  pub not_positive : up e.offset ≡ 0
  pub bounded : down e.offset < 4096

-- (X - a) (Y - b) = M - d, as differences of naturals
times_read : (x y m : ℤ) (X Y M a b d : ℕ) → up x + a ≡ down x + X → up y + b ≡ down y + Y → up m + d ≡ down m + M
    → (x *ℤ y ≡ m) ↔ (X * Y + (a * b + d) ≡ b * X + a * Y + M)
times_read x y m X Y M a b d p q r =
    let product_is : up (x *ℤ y) + (b * X + a * Y) ≡ down (x *ℤ y) + (X * Y + a * b) =
    omega (
      arith,
      mul_read x y,
      ap (λ t. t * up y) p,
      ap (λ t. t * down y) p,
      ap (λ t. X * t) q,
      ap (λ t. a * t) q,
    ) in
    (λ e. omega (arith, (same_read (x *ℤ y) m).0 e), λ e. (same_read (x *ℤ y) m).1 (omega arith))

module _ (v : ℕ) (x y m : LogEncoding) (X : Factor v x) (Y : Factor v y) (M : Factor v m) where
  abbrev rule : Assignment → Type 0
  rule α = get_int_value α x *ℤ get_int_value α y ≡ get_int_value α m

  -- a setting's number and its code
  spelled : (α : Assignment) (e : LogEncoding) → Factor v e
      → up (get_int_value α e) + down e.offset ≡ down (get_int_value α e) + code_of α e.lits
  spelled α e E = omega (arith, add_read (pos (code_of α e.lits)) e.offset, E.not_positive)

  -- the rule in codes
  in_codes : (α : Assignment) → rule α
      ↔ (code_of α x.lits * code_of α y.lits + (down x.offset * down y.offset + down m.offset)
      ≡ down y.offset * code_of α x.lits + down x.offset * code_of α y.lits + code_of α m.lits)
  in_codes α =
      times_read (get_int_value α x) (get_int_value α y) (get_int_value α m) _ _ _ _ _ _ (spelled α x X) (spelled α y Y) (spelled α m M)

  rule_agree : (α β : Assignment) → Agree v α β → rule α → rule β
  rule_agree α β g r =
      rw (code_agree v β α (agree_sym v α β g) x.lits X.lits_below, code_agree v β α (agree_sym v α β g) y.lits Y.lits_below, code_agree v β α (agree_sym v α β g) m.lits M.lits_below)
      r

  -- With offsets -------------------------------------------------------------------------------------------------------

  abbrev mul : EncodedBits
  mul = multiplier x.lits y.lits [] v

  abbrev k : ℤ
  k = mul_constant x y m

  abbrev terms : List Weighted
  terms = offset_terms x y m mul.bits

  abbrev out : EncodedEq
  out = linear_eq terms (up k) (down k) mul.vars

  first : Encodes v mul.vars Any Any mul.clauses
  first = multiplier_encodes x.lits y.lits [] v X.lits_below Y.lits_below tt

  terms_below : WeightedBelow mul.vars terms
  terms_below = (
    weighted_fits mul.vars (pos 1) mul.bits (omega arith) (omega arith) (multiplier_bits x.lits y.lits [] v X.lits_below Y.lits_below tt),
    (
      weighted_fits mul.vars y.offset x.lits (omega (arith, Y.not_positive)) Y.bounded (more x.lits X.lits_below),
      (
        weighted_fits mul.vars x.offset y.lits (omega (arith, X.not_positive)) X.bounded (more y.lits Y.lits_below),
        (
          weighted_fits mul.vars (negsuc 0) m.lits (omega arith) (omega arith) (more m.lits M.lits_below),
          tt,
        ),
      ),
    ),
  )
    where
      more : (ls : List ℕ) → LitsBelow v ls → LitsBelow mul.vars ls
      more ls h = lits_below_more v mul.vars ls first.grows h

  -- what the constant comes to
  constant_is : up k ≡ down k + (down x.offset * down y.offset + down m.offset)
  constant_is =
      let a = x.offset in
      let b = y.offset in
      let none : up a * up b ≡ 0 = ap (λ t. t * up b) X.not_positive ∙ omega arith in
      let none' : up a * down b ≡ 0 = ap (λ t. t * down b) X.not_positive ∙ omega arith in
      let none'' : down a * up b ≡ 0 = ap (λ t. down a * t) Y.not_positive ∙ omega arith in
      omega (arith, mul_read a b, add_read (a *ℤ b) (neg_ℤ m.offset), neg_reads m.offset, M.not_positive)

  -- what the terms come to
  terms_are : (α : Assignment) → code_of α mul.bits ≡ code_of α x.lits * code_of α y.lits
      → rule α ↔ (signed_sum false α terms + up k ≡ signed_sum true α terms + down k)
  terms_are α e =
      let (X', Y') : ℕ × ℕ = (code_of α x.lits, code_of α y.lits) in
      let none : up y.offset * X' ≡ 0 = ap (λ t. t * X') Y.not_positive ∙ omega arith in
      let none' : up x.offset * Y' ≡ 0 = ap (λ t. t * Y') X.not_positive ∙ omega arith in
      let s = weighted_sum (pos 1) mul.bits (weighted y.offset x.lits ∷ weighted x.offset y.lits ∷ weighted (negsuc 0) m.lits ∷ []) α in
      let t = weighted_sum y.offset x.lits (weighted x.offset y.lits ∷ weighted (negsuc 0) m.lits ∷ []) α in
      let u = weighted_sum x.offset y.lits (weighted (negsuc 0) m.lits ∷ []) α in
      let w = weighted_sum (negsuc 0) m.lits [] α in
      let c = constant_is in
      (λ r. omega (arith, (in_codes α).0 r, s, t, u, w), λ r. (in_codes α).1 (omega (arith, s, t, u, w)))

  with_offsets_encodes : Encodes v (product_with_offsets x y m v).vars Any rule (product_with_offsets x y m v).clauses
  with_offsets_encodes =
      relist (out.sent ++ (mul.clauses ++ out.returned)) (λ α. front_sat mul.clauses out.sent out.returned α)
      (front_below out.vars mul.clauses out.sent out.returned whole.below) whole
    where
      whole : Encodes v out.vars Any rule (mul.clauses ++ (out.sent ++ out.returned))
      whole =
          compose
          rule
          first
          (linear_eq_encodes terms (up k) (down k) mul.vars terms_below)
          (λ α β g _. tt)
          rule_agree
          (λ α _ _. tt)
          (λ α _ h. (tt, terms_are α (multiplier_value x.lits y.lits [] v X.lits_below Y.lits_below tt α h)))

  -- the Eq part, in integers as log.rs has it
  pub product_with_offsets_plain : product_with_offsets x y m v
      ≡ (let eq = plain_linear_eq terms k mul.vars in record { clauses = eq.sent ++ (mul.clauses ++ eq.returned); vars = eq.vars })
  product_with_offsets_plain =
      ap (λ (eq : EncodedEq). record { clauses = eq.sent ++ (mul.clauses ++ eq.returned); vars = eq.vars })
      (sym (plain_linear_eq_is terms k mul.vars (small mul.vars terms terms_below)))

  -- Both forms ---------------------------------------------------------------------------------------------------------

  zero_offset : (o : ℤ) → is_zero o ≡ true → down o ≡ 0
  zero_offset (pos n) e = refl
  zero_offset (negsuc n) e = absurd (false≢true e)

  without_encodes : down x.offset ≡ 0 → down y.offset ≡ 0 → down m.offset ≡ 0
      → Encodes v (product x.lits y.lits m.lits v).vars Any rule (product x.lits y.lits m.lits v).clauses
  without_encodes p q r =
      means
      (λ α.
      let l = times_read (get_int_value α x) (get_int_value α y) (get_int_value α m) (code_of α x.lits) (code_of α y.lits) (code_of α m.lits) 0 0 0
      (omega (arith, spelled α x X))
      (omega (arith, spelled α y Y))
      (omega (arith, spelled α m M)) in
      (λ e. l.1 (omega arith), λ e. omega (arith, l.0 e)))
      (product_encodes x.lits y.lits m.lits v X.lits_below Y.lits_below M.lits_below)

  pub encode_mul_encodes : Encodes v (encode_mul x y m v).vars Any rule (encode_mul x y m v).clauses
  encode_mul_encodes = go (is_zero x.offset) (is_zero y.offset) (is_zero m.offset) refl refl refl
    where
      go : (a b d : Bool) → is_zero x.offset ≡ a → is_zero y.offset ≡ b → is_zero m.offset ≡ d
          → (let made = cond (a && (b && d)) (product x.lits y.lits m.lits v) (product_with_offsets x y m v) in
          Encodes v made.vars Any rule made.clauses)
      go true true true p q r = without_encodes (zero_offset x.offset p) (zero_offset y.offset q) (zero_offset m.offset r)
      go true true false p q r = with_offsets_encodes
      go true false d p q r = with_offsets_encodes
      go false b d p q r = with_offsets_encodes

-- any settings, which may coincide
pub encode_mul_log_encodes : (int_map : ℕ → LogEncoding) (x y m v : ℕ) → Factor v (int_map x) → Factor v (int_map y) → Factor v (int_map m)
    → (let out = encode_mul_log int_map x y m v in
    Encodes v out.vars Any (λ α. MulHolds (λ i. get_int_value α (int_map i)) x y m) out.clauses)
encode_mul_log_encodes int_map x y m v X Y M = encode_mul_encodes v (int_map x) (int_map y) (int_map m) X Y M
