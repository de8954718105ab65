-- Records of a well-formed job: what their literals are, and that they stay well formed where variables are added.
use mathlib.Core.Path.{◌≡◌, refl}
use mathlib.Core.Bool.{Bool, ◌&&◌, cond, false, false≢true, true}
use mathlib.Core.List.{List, [], ◌++◌, ◌∷◌, map}
use Prim.Native.Nat.{◌*◌, ◌-◌, ◌<◌, ◌≤◌, suc, zero, ℕ}
use native.Mathlib.Omega.{arith}
use lib.Dec.{eqb, ltb}
use lib.IntN.{negsuc, pos, ℤ}
use lib.ListN.{get_or, length, replicate, take}
use lib.Signed.{◌≤ℤ◌}
use borrow.Author.Tests.{eq-eqb, le-leb, lt-ltb, ltb-false, ltb-true}
use Rattle.arithmetic.specs.Bits.{bit_length}
use Rattle.arithmetic.specs.Integers.{down, up}
use Rattle.arithmetic.specs.Offset.{code, offset_of}
use Rattle.arithmetic.proofs.Integers.{apart_read, order_read}
use Rattle.sat.specs.Encodes.{LitsBelow}
use Rattle.sat.specs.declared.Lit.{Lit}
use Rattle.sat.specs.LitArray.{lit, num}
use Rattle.log_encoding.specs.LogEncoding.{LogEncoding}
use Rattle.log_var.proofs.Bounds.{Recorded, codes_fit}
use Rattle.log_var.specs.Record.{lits_of, pad, record_of}
use Rattle.log_var.specs.declared.LogEncoding.{LogEncoding as Encoding}
use Rattle.encoder_env.specs.declared.EncoderEnv.{EncoderEnv}
use Rattle.encoder_env.specs.WellFormed.{all_below, bounds_hold, encoding_at, encoding_holds, eqz, in_range, is_spare, lit_fits, lits_fit, record_holds}
use Rattle.encoder_env.proofs.Kept.{Kept, all_at, holds_in_use, in_use}
use Rattle.encoder_env.proofs.Tests.{both_l, both_r, eqz_refl, order_lez}

-- a test that holds at each number below a bound
pub all_true : (f : ℕ → Bool) (n : ℕ) → ((i : ℕ) → i < n → f i ≡ true) → all_below n f ≡ true
unfolding all_below
all_true f zero h = refl
all_true f (suc n) h = rw (all_true f n (λ i k. h i (omega arith)), h n (omega arith))

-- Literals -----------------------------------------------------------------------------------------------------------

each_below : (v n : ℕ) (ls : List Lit) → ((i : ℕ) → i < n → (get_or ls i (lit 0)).0 < 2 * v) → LitsBelow v (map num (take n ls))
each_below v zero ls h = tt
each_below v (suc n) [] h = tt
each_below v (suc n) (l ∷ ls) h = (h 0 (omega arith), each_below v n ls (λ i k. h (suc i) (omega arith)))

pub fit_below : (v : ℕ) (e : Encoding) → e.len ≤ 12 → lits_fit v e.len e.lits ≡ true → (i : ℕ) → i < e.len → (get_or e.lits i (lit 0)).0 < 2 * v
fit_below v e n h i k = go (ltb i e.len) (lt-ltb i e.len k) (all_at (lit_fits v e.len e.lits) 12 i h (omega arith))
  where
    go : (t : Bool) → t ≡ true → cond t (ltb (get_or e.lits i (lit 0)).0 (2 * v)) (eqb (get_or e.lits i (lit 0)).0 0) ≡ true → (get_or e.lits i (lit 0)).0 < 2 * v
    go true k l = ltb-true (get_or e.lits i (lit 0)).0 (2 * v) l
    go false k l = absurd (false≢true k)

-- the literals of a record in use are below 2 × variables
module _ (env : EncoderEnv) (lits ends x : ℕ) (k : Kept env lits ends) (h : x < env.count) where
  abbrev e : Encoding
  e = encoding_at env x

  pub lit_known : (i : ℕ) → i < e.len → (get_or e.lits i (lit 0)).0 < 2 * env.variables
  unfolding encoding_holds
  lit_known =
      fit_below env.variables e (in_use env lits ends x k h).len_max
      (both_r (bounds_hold e.low e.high && eqz e.offset (offset_of e.low) && eqb e.len (bit_length (code (offset_of e.low) e.high))) _ (holds_in_use env lits ends x k h))

  pub lits_known : LitsBelow env.variables (lits_of e)
  lits_known = each_below env.variables e.len e.lits lit_known

-- more variables
lits_more : (v w len : ℕ) (ls : List Lit) → v ≤ w → lits_fit v len ls ≡ true → lits_fit w len ls ≡ true
lits_more v w len ls le h = all_true (lit_fits w len ls) 12 (λ i k. go i (ltb i len) (all_at (lit_fits v len ls) 12 i h k))
  where
    go : (i : ℕ) (t : Bool) → cond t (ltb (get_or ls i (lit 0)).0 (2 * v)) (eqb (get_or ls i (lit 0)).0 0) ≡ true → cond t (ltb (get_or ls i (lit 0)).0 (2 * w)) (eqb (get_or ls i (lit 0)).0 0) ≡ true
    go i true l = lt-ltb (get_or ls i (lit 0)).0 (2 * w) (omega (arith, ltb-true (get_or ls i (lit 0)).0 (2 * v) l))
    go i false l = l

pub encoding_more : (v w : ℕ) (e : Encoding) → v ≤ w → encoding_holds v e ≡ true → encoding_holds w e ≡ true
unfolding encoding_holds
encoding_more v w e le h =
    let old : Bool = bounds_hold e.low e.high && eqz e.offset (offset_of e.low) && eqb e.len (bit_length (code (offset_of e.low) e.high)) in
    rw (both_l old (lits_fit v e.len e.lits) h, lits_more v w e.len e.lits le (both_r old (lits_fit v e.len e.lits) h))

-- the records of a job with more variables
pub records_more : (env job : EncoderEnv) → job.count ≡ env.count → job.encodings ≡ env.encodings → env.variables ≤ job.variables
    → all_below 32 (record_holds env) ≡ true → all_below 32 (record_holds job) ≡ true
unfolding record_holds
records_more env job c e v h = all_true (record_holds job) 32 (λ i k. rw (c, e) (go i (ltb i env.count) (all_at (record_holds env) 32 i h k)))
  where
    go : (i : ℕ) (t : Bool) → cond t (encoding_holds env.variables (encoding_at env i)) (is_spare (encoding_at env i)) ≡ true
        → cond t (encoding_holds job.variables (encoding_at env i)) (is_spare (encoding_at env i)) ≡ true
    go i true k = encoding_more env.variables job.variables (encoding_at env i) v k
    go i false k = k

-- A new record -------------------------------------------------------------------------------------------------------

at_in : (ls : List ℕ) (r : List Lit) (i : ℕ) → i < length ls → (get_or (map lit ls ++ r) i (lit 0)).0 ≡ get_or ls i 0
at_in [] r i h = absurd (omega arith)
at_in (l ∷ ls) r zero h = refl
at_in (l ∷ ls) r (suc i) h = at_in ls r i (omega arith)

no_lits : (n i : ℕ) → (get_or (replicate n (lit 0)) i (lit 0)).0 ≡ 0
no_lits zero i = refl
no_lits (suc n) zero = refl
no_lits (suc n) (suc i) = no_lits n i

at_out : (ls : List ℕ) (n i : ℕ) → length ls ≤ i → (get_or (map lit ls ++ replicate n (lit 0)) i (lit 0)).0 ≡ 0
at_out [] n i h = no_lits n i
at_out (l ∷ ls) n zero h = absurd (omega arith)
at_out (l ∷ ls) n (suc i) h = at_out ls n i (omega arith)

below_at : (v : ℕ) (ls : List ℕ) (i : ℕ) → LitsBelow v ls → i < length ls → get_or ls i 0 < 2 * v
below_at v [] i b h = absurd (omega arith)
below_at v (l ∷ ls) zero b h = b.0
below_at v (l ∷ ls) (suc i) b h = below_at v ls i b.1 (omega arith)

padded_fit : (v : ℕ) (ls : List ℕ) → LitsBelow v ls → lits_fit v (length ls) (pad ls) ≡ true
unfolding pad
padded_fit v ls b = all_true (lit_fits v (length ls) (pad ls)) 12 (λ i k. go i (ltb i (length ls)) refl)
  where
    go : (i : ℕ) (t : Bool) → ltb i (length ls) ≡ t → cond t (ltb (get_or (pad ls) i (lit 0)).0 (2 * v)) (eqb (get_or (pad ls) i (lit 0)).0 0) ≡ true
    go i true e =
        let h = ltb-true i (length ls) e in
        lt-ltb (get_or (pad ls) i (lit 0)).0 (2 * v) (omega (arith, at_in ls (replicate (12 - length ls) (lit 0)) i h, below_at v ls i b h))
    go i false e = eq-eqb (get_or (pad ls) i (lit 0)).0 0 (at_out ls (12 - length ls) i (ltb-false i (length ls) e))

bounds_of : (low high : ℤ) → low ≤ℤ high → down low ≤ 4095 → code (offset_of low) high < 4096 → bounds_hold low high ≡ true
unfolding bounds_hold
bounds_of low high h d c =
    let k = codes_fit low high h c d in
    rw (
      within low (omega (arith, apart_read low)) (omega (arith, k.low_up)),
      within high (omega (arith, apart_read low, apart_read high, (order_read low high).0 h)) (omega (arith, k.high_up)),
      order_lez low high h,
      le-leb (code (offset_of low) high) 4095 (omega (arith, c)),
    )
  where
    within : (z : ℤ) → down z ≤ 4095 → up z ≤ 4095 → in_range z ≡ true
    within z p q =
        let above : negsuc 4094 ≤ℤ z = (order_read (negsuc 4094) z).1 (omega (arith, apart_read z)) in
        let under : z ≤ℤ pos 4095 = (order_read z (pos 4095)).1 (omega (arith, apart_read z)) in
        rw (order_lez (negsuc 4094) z above, order_lez z (pos 4095) under)

-- the record of a setting that passed the checks
pub record_fits : (v : ℕ) (e : LogEncoding) → Recorded e → LitsBelow v e.lits → encoding_holds v (record_of e) ≡ true
unfolding encoding_holds
record_fits v e r b =
    rw (
      bounds_of e.low e.high r.ordered r.low_max r.code_max,
      r.offset_is,
      eqz_refl (offset_of e.low),
      eq-eqb (length e.lits) (bit_length (code (offset_of e.low) e.high)) r.long,
      padded_fit v e.lits b,
    )
