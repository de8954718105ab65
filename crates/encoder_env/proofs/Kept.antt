-- What a well-formed job keeps to.
use mathlib.Core.Path.{◌≡◌, ◌∙◌, ap, refl, sym}
use mathlib.Core.Bool.{Bool, cond, false, false≢true, true}
use Prim.Native.Nat.{◌+◌, ◌<◌, ◌≤◌, ℕ}
use native.Mathlib.Omega.{arith}
use lib.Dec.{eqb}
use borrow.Author.Tests.{eqb-true, le-leb, leb-true, lt-ltb}
use Rattle.arithmetic.specs.Bits.{bit_length}
use Rattle.arithmetic.specs.Integers.{down, up}
use Rattle.arithmetic.specs.Offset.{code, offset_of}
use Rattle.arithmetic.proofs.Bits.{bit_length_least}
use Rattle.arithmetic.proofs.Offset.{offset_read}
use Rattle.log_var.specs.declared.LogEncoding.{LogEncoding}
use Rattle.encoder_env.specs.declared.EncoderEnv.{EncoderEnv}
use Rattle.encoder_env.specs.WellFormed.{all_below, bounds_hold, encoding_at, encoding_holds, eqz, is_spare, record_holds, stores_within, well_formed}
use Rattle.encoder_env.proofs.Tests.{all_fail, both_l, both_r, bounds_known, eqz_true}

pub record Kept (env : EncoderEnv) (lits ends : ℕ) : Type 0 where
  pub lits_max : lits ≤ 16777216
  pub ends_max : ends ≤ 16777216
  pub switches_max : env.switches ≤ 64
  pub variables_max : env.variables ≤ 65535
  pub switches_in : env.switches ≤ env.variables
  pub count_max : env.count ≤ 32
  pub literals_in : env.literals ≤ lits
  pub clauses_in : env.clauses + 1 ≤ ends
  pub records : all_below 32 (record_holds env) ≡ true

pub kept : (env : EncoderEnv) (lits ends : ℕ) → well_formed env lits ends ≡ true → Kept env lits ends
unfolding well_formed stores_within
kept env lits ends h =
    record {
      lits_max = leb-true lits 16777216 (search (both_l, both_r) depth 12);
      ends_max = leb-true ends 16777216 (search (both_l, both_r) depth 12);
      switches_max = leb-true env.switches 64 (search (both_l, both_r) depth 12);
      variables_max = leb-true env.variables 65535 (search (both_l, both_r) depth 12);
      switches_in = leb-true env.switches env.variables (search (both_l, both_r) depth 12);
      count_max = leb-true env.count 32 (search (both_l, both_r) depth 12);
      literals_in = leb-true env.literals lits (search (both_l, both_r) depth 12);
      clauses_in = leb-true (env.clauses + 1) ends (search (both_l, both_r) depth 12);
      records = search (both_l, both_r) depth 12;
    }

pub well_formed_of : (env : EncoderEnv) (lits ends : ℕ) → Kept env lits ends → well_formed env lits ends ≡ true
unfolding well_formed stores_within
well_formed_of env lits ends k =
    rw (
      le-leb lits 16777216 k.lits_max,
      le-leb ends 16777216 k.ends_max,
      le-leb env.switches 64 k.switches_max,
      le-leb env.variables 65535 k.variables_max,
      le-leb env.switches env.variables k.switches_in,
      le-leb env.count 32 k.count_max,
      le-leb env.literals lits k.literals_in,
      le-leb (env.clauses + 1) ends k.clauses_in,
      k.records,
    )

-- a test of every number below a bound, at one of them
pub all_at : (f : ℕ → Bool) (n i : ℕ) → all_below n f ≡ true → i < n → f i ≡ true
all_at f n i h k = go (f i) refl where
  go : (t : Bool) → f i ≡ t → f i ≡ true
  go true e = e
  go false e = absurd (false≢true (sym (all_fail f n i k e) ∙ h))

-- what a reading asks of a record
pub record Readable (e : LogEncoding) : Type 0 where
  pub len_max : e.len ≤ 12
  pub offset_up : up e.offset ≡ 0
  pub offset_down : down e.offset ≤ 4095

pub readable : (variables : ℕ) (e : LogEncoding) → encoding_holds variables e ≡ true → Readable e
unfolding encoding_holds
readable variables e h =
    let b : bounds_hold e.low e.high ≡ true = search (both_l, both_r) depth 6 in
    let o : eqz e.offset (offset_of e.low) ≡ true = search (both_l, both_r) depth 6 in
    let l : eqb e.len (bit_length (code (offset_of e.low) e.high)) ≡ true = search (both_l, both_r) depth 6 in
    let k = bounds_known e.low e.high b in
    let m = bit_length_least (code (offset_of e.low) e.high) 12 (omega (arith, k.code_max)) in
    let f = offset_read e.low in
    let g = eqz_true e.offset (offset_of e.low) o in
    record {
      len_max = omega (arith, eqb-true e.len (bit_length (code (offset_of e.low) e.high)) l, m);
      offset_up = rw g f.0;
      offset_down = rw g (omega (arith, f.1, k.low_max));
    }

-- a record in use
pub holds_in_use : (env : EncoderEnv) (lits ends x : ℕ) → Kept env lits ends → x < env.count → encoding_holds env.variables (encoding_at env x) ≡ true
unfolding record_holds
holds_in_use env lits ends x k h =
    let r = all_at (record_holds env) 32 x k.records (omega (arith, h, k.count_max)) in
    sym (ap (λ (t : Bool). cond t (encoding_holds env.variables (encoding_at env x)) (is_spare (encoding_at env x))) (lt-ltb x env.count h)) ∙ r

pub in_use : (env : EncoderEnv) (lits ends x : ℕ) → Kept env lits ends → x < env.count → Readable (encoding_at env x)
in_use env lits ends x k h = readable env.variables (encoding_at env x) (holds_in_use env lits ends x k h)
