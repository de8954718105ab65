-- A sum of any operation: its clauses can be completed by new variables exactly when it holds of the values read, in one way
-- (`encode_turned_encodes`).
use Prim.Native.Nat.{◌*◌, ◌+◌, ◌<◌, ◌≤◌, ℕ}
use lib.IntN.{◌+ℤ◌, negsuc, pos, ℤ}
use lib.ListN.{length, length-map}
use mathlib.Core.List.{List, [], ◌∷◌, map}
use mathlib.Core.Path.{◌≡◌, refl}
use native.Mathlib.Omega.{arith}
use Rattle.arithmetic.specs.Integers.{down, up}
use Rattle.arithmetic.proofs.Integers.{add_read, apart_read, neg_reads}
use Rattle.sat.specs.Encodes.{Any, Encodes}
use Rattle.sat.proofs.Extend.{means}
use Rattle.norm_csp.specs.Rules.{CmpOp, LinearHolds, LinearTerm, eq, ge, gt, le, lt, ne}
use Rattle.norm_csp.specs.Turned.{negated, turned}
use Rattle.norm_csp.proofs.Turned.{turned_holds}
use Rattle.log_encoding.specs.LogEncoding.{LogEncoding, get_int_value}
use Rattle.log_encoding.specs.EncodeLinearLog.{TermsBelow}
use Rattle.log_encoding.specs.Turned.{encode_turned}
use Rattle.log_encoding.proofs.EncodeLinearLog.{InBounds, encode_linear_log_encodes, offset_constant_small}

-- what is true of terms whatever the signs of their coefficients is true of the turned ones
module _ (P : List LinearTerm → Type 0) (same : (ts : List LinearTerm) → P ts → P (map negated ts)) where
  kept : (op : CmpOp) (constant : ℤ) (ts : List LinearTerm) → P ts → P (turned op constant ts).terms
  kept eq constant ts h = h
  kept ne constant ts h = h
  kept ge constant ts h = h
  kept le constant ts h = same ts h
  kept lt constant ts h = same ts h
  kept gt constant ts h = h

-- the turned constant is one further from 0 at most
pub turned_constant : (op : CmpOp) (k : ℤ) (ts : List LinearTerm) → (let c = (turned op k ts).constant in up c + down c ≤ up k + down k + 1)
turned_constant eq k ts = omega arith
turned_constant ne k ts = omega arith
turned_constant ge k ts = omega arith
turned_constant le k ts = omega (arith, neg_reads k)
turned_constant lt k ts = omega (arith, neg_reads (k +ℤ pos 1), add_read k (pos 1), apart_read (k +ℤ pos 1), apart_read k)
turned_constant gt k ts = omega (arith, add_read k (negsuc 0), apart_read (k +ℤ negsuc 0), apart_read k)

turned_length : (op : CmpOp) (k : ℤ) (ts : List LinearTerm) → length (turned op k ts).terms ≡ length ts
turned_length op k ts = kept (λ us. length us ≡ length ts) (λ us h. rw (length-map us negated) h) op k ts refl

module _ (int_map : ℕ → LogEncoding) where
  below_negated : (v : ℕ) (ts : List LinearTerm) → TermsBelow v int_map ts → TermsBelow v int_map (map negated ts)
  below_negated v [] h = tt
  below_negated v (t ∷ ts) h = ((h.0.0, omega (arith, h.0.1, neg_reads t.coef)), below_negated v ts h.1)

  bounds_negated : (ts : List LinearTerm) → InBounds int_map ts → InBounds int_map (map negated ts)
  bounds_negated [] h = tt
  bounds_negated (t ∷ ts) h = ((omega (arith, h.0.0, neg_reads t.coef), h.0.1, h.0.2), bounds_negated ts h.1)

  pub encode_turned_encodes : (op : CmpOp) (constant : ℤ) (ts : List LinearTerm) (v : ℕ) → TermsBelow v int_map ts → InBounds int_map ts
      → up constant + down constant + 1044225 * length ts < 4294967295
      → (let out = encode_turned int_map op constant ts v in
      Encodes v out.vars Any (λ α. LinearHolds (λ i. get_int_value α (int_map i)) op constant ts) out.clauses)
  encode_turned_encodes op constant ts v below bounds small =
      let t = turned op constant ts in
      let k = offset_constant_small int_map t.constant t.terms (kept (InBounds int_map) bounds_negated op constant ts bounds) in
      let c = turned_constant op constant ts in
      let n = turned_length op constant ts in
      means (λ α. turned_holds (λ i. get_int_value α (int_map i)) constant ts op)
      (encode_linear_log_encodes int_map t.constant t.op t.terms v (kept (TermsBelow v int_map) (below_negated v) op constant ts below)
      (omega (arith, k.0, c, n, small)) (omega (arith, k.1, c, n, small)))
