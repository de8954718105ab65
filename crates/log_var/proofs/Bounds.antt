-- A setting that passed the checks has at most 12 + 12 + 4,096 clauses, of at most twelve literals each (`encode_var_log_few`).
use Prim.Native.Nat.{◌*◌, ◌+◌, ◌/◌, ◌<◌, ◌≤◌, suc, zero, ℕ}
use lib.IntN.{ℤ}
use lib.ListN.{length}
use lib.Signed.{◌≤ℤ◌}
use mathlib.Core.Bool.{Bool, beq, cond, false, true}
use mathlib.Core.List.{List, [], ◌∷◌, map}
use mathlib.Core.Path.{◌≡◌, refl}
use native.Mathlib.Nat.{mul-le-mul_left}
use native.Mathlib.Omega.{arith}
use Rattle.arithmetic.specs.Bits.{bit_length, odd}
use Rattle.arithmetic.specs.Integers.{down}
use Rattle.arithmetic.specs.Offset.{code, offset_of}
use Rattle.arithmetic.proofs.Bits.{bit_length_least}
use Rattle.arithmetic.proofs.Integers.{<ℤ_le, apart_read, order_read, ≤ℤ_trans}
use Rattle.arithmetic.proofs.Offset.{code_read, offset_low, offset_read}
use Rattle.sat.specs.Size.{entries}
use Rattle.sat.proofs.Fresh.{length_fresh}
use Rattle.clause_set.specs.declared.ClauseSet.{ClauseSet}
use Rattle.clause_set.specs.Stores.{Fits}
use Rattle.norm_csp.specs.Domain.{IntVarRepresentation, binary, last_from, list, range}
use Rattle.norm_csp.proofs.Domain.{rising_last}
use Rattle.log_var.specs.Calls.{Ready, lowest}
use Rattle.log_encoding.specs.LogEncoding.{LogEncoding}
use Rattle.log_var.specs.Parts.{CodesFit}
use Rattle.log_encoding.specs.EncodeVarLog.{EncodedVar, Encodable, encode_binary, encode_domain, encode_var_log}
use Rattle.log_encoding.specs.VarSize.{at_least_count, at_most_count, binary_vars, domain_count, missing_codes}
use Rattle.log_var.proofs.Bits.{bits_long}
use Rattle.log_encoding.proofs.Codes.{codes_rise, codes_top}
use Rattle.log_encoding.proofs.Domain.{RisingCodes, last_code}
use Rattle.log_encoding.proofs.VarSize.{encode_binary_size, encode_domain_size}

-- Codes --------------------------------------------------------------------------------------------------------------

pub codes_fit : (low high : ℤ) → low ≤ℤ high → code (offset_of low) high < 4096 → down low ≤ 4095 → CodesFit low high
codes_fit low high h k d =
    let o = offset_of low in
    let oh = ≤ℤ_trans o low high (offset_low low) h in
    let a = code_read o low (offset_low low) in
    let b = code_read o high oh in
    let r = (order_read low high).0 h in
    let z = offset_read low in
    record {
      low_above = offset_low low;
      high_above = oh;
      low_up = omega (arith, a, b, r, z, apart_read low, apart_read high);
      high_up = omega (arith, b, r, z, apart_read high);
      offset_down = omega (arith, z);
      low_code = omega (arith, a, b, r);
      high_code = k;
      bits = bit_length_least (code o high) 12 k;
    }

-- Counts -------------------------------------------------------------------------------------------------------------

-- at most as many as bits, and at most twelve literals each
pub record Few (clauses literals most : ℕ) : Type 0 where
  pub count : clauses ≤ most
  pub short : literals ≤ 12 * clauses

at_least_few : (n k : ℕ) → n ≤ 12 → Few (at_least_count (λ d. 1) n k) (at_least_count (λ d. d) n k) n
at_least_few zero k h = record { count = omega arith; short = omega arith }
at_least_few (suc n) k h = go (odd k) (at_least_few n (k / 2) (omega arith))
  where
    go : (t : Bool) → Few (at_least_count (λ d. 1) n (k / 2)) (at_least_count (λ d. d) n (k / 2)) n
        → Few (cond t 1 0 + at_least_count (λ d. 1) n (k / 2)) (cond t (suc n) 0 + at_least_count (λ d. d) n (k / 2)) (suc n)
    go true f = record { count = omega arith; short = omega arith }
    go false f = record { count = omega arith; short = omega arith }

at_most_few : (n k : ℕ) → n ≤ 12 → Few (at_most_count (λ d. 1) n k) (at_most_count (λ d. d) n k) n
at_most_few zero k h = record { count = omega arith; short = omega arith }
at_most_few (suc n) k h = go (odd k) (at_most_few n (k / 2) (omega arith))
  where
    go : (t : Bool) → Few (at_most_count (λ d. 1) n (k / 2)) (at_most_count (λ d. d) n (k / 2)) n
        → Few (cond t 0 1 + at_most_count (λ d. 1) n (k / 2)) (cond t 0 (suc n) + at_most_count (λ d. d) n (k / 2)) (suc n)
    go true f = record { count = omega arith; short = omega arith }
    go false f = record { count = omega arith; short = omega arith }

missing_few : (k : ℕ) (ms : List ℕ) → RisingCodes k ms → missing_codes k ms + k ≤ last_code k ms
missing_few k [] r = omega arith
missing_few k (m ∷ ms) r = omega (arith, r.0, missing_few m ms r.1)

domain_few : (bits low : ℕ) (ms : List ℕ) (high : ℕ) → bits ≤ 12 → missing_codes low ms ≤ 4096
    → Few (domain_count (λ d. 1) bits low ms high) (domain_count (λ d. d) bits low ms high) 4120
domain_few bits low ms high h m =
    let a = at_least_few bits low h in
    let b = at_most_few bits high h in
    let gap-lits : missing_codes low ms * bits ≤ missing_codes low ms * 12 = mul-le-mul_left (missing_codes low ms) h in
    record { count = omega arith; short = omega arith }

binary_few : (n f t : ℕ) → binary_vars n f t ≤ n
binary_few zero f t = omega arith
binary_few (suc n) f t = go (beq (odd f) (odd t)) (binary_few n (f / 2) (t / 2))
  where
    go : (b : Bool) → binary_vars n (f / 2) (t / 2) ≤ n → cond b 1 0 + binary_vars n (f / 2) (t / 2) ≤ suc n
    go true h = omega arith
    go false h = omega arith

-- The bounds ---------------------------------------------------------------------------------------------------------

pub record EncodesFew (v : ℕ) (out : EncodedVar) : Type 0 where
  pub clauses : length out.clauses ≤ 4120
  pub literals : entries out.clauses ≤ 12 * length out.clauses
  pub vars : out.vars ≤ v + 12
  pub bits : length out.encoding.lits ≤ 12

domain_encodes_few : (low : ℤ) (ks : List ℤ) (high : ℤ) (v : ℕ) → bit_length (code (offset_of low) high) ≤ 12
    → missing_codes (code (offset_of low) low) (map (code (offset_of low)) ks) ≤ 4096 → EncodesFew v (encode_domain low ks high v)
domain_encodes_few low ks high v h m =
    let o = offset_of low in
    let out = encode_domain low ks high v in
    let s = encode_domain_size low ks high v in
    let f = domain_few (bit_length (code o high)) (code o low) (map (code o) ks) (code o high) h m in
    record {
      clauses = omega (arith, s.clauses_are, f.count);
      literals = omega (arith, s.clauses_are, s.literals_are, f.short);
      vars = omega arith;
      bits = omega (arith, length_fresh (bit_length (code o high)) v);
    }

binary_encodes_few : (c : ℕ) (f t : ℤ) (v : ℕ) → bit_length (code (offset_of f) t) ≤ 12 → EncodesFew v (encode_binary c f t v)
binary_encodes_few c f t v h =
    let o = offset_of f in
    let n = bit_length (code o t) in
    let out = encode_binary c f t v in
    let s = encode_binary_size c f t v in
    let few = binary_few n (code o f) (code o t) in
    record {
      clauses = omega (arith, s.clauses_are);
      literals = omega (arith, s.clauses_are, s.literals_are);
      vars = omega (arith, s.vars_are);
      bits = omega (arith, bits_long n (code o f) (code o t) c v);
    }

pub encode_var_log_few : (v : ℕ) (repr : IntVarRepresentation) → Encodable v repr → EncodesFew v (encode_var_log repr v)
encode_var_log_few v (range low high) h =
    domain_encodes_few low [] high v (bit_length_least (code (offset_of low) high) 12 h.1) (omega arith)
encode_var_log_few v (list []) h = absurd h
encode_var_log_few v (list (k ∷ ks)) h =
    let o = offset_of k in
    let codes = map (code o) ks in
    let rise = missing_few (code o k) codes (codes_rise o k ks h.0 (offset_low k)) in
    domain_encodes_few k ks (last_from k ks) v (bit_length_least (code o (last_from k ks)) 12 h.1) (omega (arith, rise, codes_top o k ks))
encode_var_log_few v (binary c f t) h = binary_encodes_few c f t v (bit_length_least (code (offset_of f) t) 12 h.2)

-- no count wraps
pub ready_fits : (repr : IntVarRepresentation) (s : ClauseSet) → Ready repr s → Fits s.base s.used (encode_var_log repr s.vars).clauses
ready_fits repr s r =
    let f = encode_var_log_few s.vars repr r.encodable in
    record { lits = omega (arith, r.lits_fit, f.clauses, f.literals); clauses = omega (arith, r.clauses_fit, f.clauses) }

-- The record ---------------------------------------------------------------------------------------------------------

-- low and high, and what document 01 has follow from them
pub record Recorded (e : LogEncoding) : Type 0 where
  pub ordered : e.low ≤ℤ e.high
  pub low_max : down e.low ≤ 4095
  pub code_max : code (offset_of e.low) e.high < 4096
  pub offset_is : e.offset ≡ offset_of e.low
  pub long : length e.lits ≡ bit_length (code (offset_of e.low) e.high)

pub recorded : (v : ℕ) (repr : IntVarRepresentation) → Encodable v repr → down (lowest repr) ≤ 4095 → Recorded (encode_var_log repr v).encoding
recorded v (range low high) h d =
    record { ordered = h.0; low_max = d; code_max = h.1; offset_is = refl; long = length_fresh (bit_length (code (offset_of low) high)) v }
recorded v (list []) h d = absurd h
recorded v (list (k ∷ ks)) h d =
    record {
      ordered = rising_last k ks h.0;
      low_max = d;
      code_max = h.1;
      offset_is = refl;
      long = length_fresh (bit_length (code (offset_of k) (last_from k ks))) v;
    }
recorded v (binary c f t) h d =
    let o = offset_of f in
    record {
      ordered = <ℤ_le f t h.1;
      low_max = d;
      code_max = h.2;
      offset_is = refl;
      long = bits_long (bit_length (code o t)) (code o f) (code o t) c v;
    }
