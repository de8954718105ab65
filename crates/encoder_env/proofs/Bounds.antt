-- The tests say what document 01's inequalities say: of whole numbers, of a setting's bounds (`bounds_is`), of a job (`well_formed_is`).
use mathlib.Core.Path.{◌≡◌, ◌∙◌, refl, sym}
use mathlib.Core.Bool.{Bool, ◌&&◌, cond, false, not, true, true≢false}
use mathlib.Core.Logic.{◌↔◌}
use Prim.Native.Nat.{◌*◌, ◌<◌, ◌≤◌, ℕ}
use native.Mathlib.Omega.{arith}
use lib.Dec.{T, eqb, leb, ltb}
use lib.IntN.{◌-ℤ◌, negsuc, pos, ℤ}
use lib.ListN.{get_or}
use lib.Signed.{◌<ℤ◌, ◌≤ℤ◌, lt_z}
use borrow.Author.Tests.{eq-eqb, eqb-true, le-leb, leb-true, le-ltb, lt-ltb, ltb-false, ltb-true, not-true}
use Rattle.arithmetic.specs.Bits.{bit_length}
use Rattle.arithmetic.specs.Integers.{up}
use Rattle.arithmetic.specs.Offset.{code, offset_of}
use Rattle.arithmetic.proofs.Integers.{apart_read, order_read}
use Rattle.sat.specs.LitArray.{lit}
use Rattle.log_var.specs.declared.LogEncoding.{LogEncoding}
use Rattle.encoder_env.specs.declared.EncoderEnv.{EncoderEnv}
use Rattle.encoder_env.specs.Bounds.{CodeFits, InRange, InUse, Spare, ValueBounds, WellFormed}
use Rattle.encoder_env.specs.WellFormed.{all_below, bounds_hold, code_fits, encoding_at, encoding_holds, eqz, in_range, is_spare, lez, lit_fits, lits_fit, record_holds, well_formed}
use Rattle.encoder_env.proofs.Kept.{all_at, holds_in_use, kept, readable, well_formed_of}
use Rattle.encoder_env.proofs.Records.{all_true, fit_below}
use Rattle.encoder_env.proofs.Tests.{both, both_l, both_r, bounds_parts, eqz_refl, eqz_true, lez_read, order_lez}

-- Tests --------------------------------------------------------------------------------------------------------------

pub leb_is : (a b : ℕ) → (leb a b ≡ true) ↔ (a ≤ b)
leb_is a b = (leb-true a b, le-leb a b)

pub ltb_is : (a b : ℕ) → (ltb a b ≡ true) ↔ (a < b)
ltb_is a b = (ltb-true a b, lt-ltb a b)

pub eqb_is : (a b : ℕ) → (eqb a b ≡ true) ↔ (a ≡ b)
eqb_is a b = (eqb-true a b, eq-eqb a b)

pub lez_is : (x y : ℤ) → (lez x y ≡ true) ↔ (x ≤ℤ y)
lez_is x y = (λ h. (order_read x y).1 (lez_read x y h), order_lez x y)

pub ltz_is : (x y : ℤ) → (lt_z x y ≡ true) ↔ (x <ℤ y)
ltz_is x y = (λ h. record { lt = rw h tt }, λ h. holds (lt_z x y) h.lt)
  where
    holds : (t : Bool) → T t → t ≡ true
    holds true h = refl
    holds false h = absurd h

pub eqz_is : (x y : ℤ) → (eqz x y ≡ true) ↔ (x ≡ y)
eqz_is x y = (eqz_true x y, λ e. rw e (eqz_refl y))

pub false_is : (b : Bool) → (not b ≡ true) ↔ (b ≡ false)
false_is b = (not-true b, λ h. rw h)

pub not_is : (b : Bool) {P : Type 0} → (b ≡ true) ↔ P → (not b ≡ true) ↔ (P → ⊥)
not_is b p = (λ h k. absurd (true≢false (sym (p.1 k) ∙ not-true b h)), back b p)
  where
    back : (b : Bool) {P : Type 0} → (b ≡ true) ↔ P → (P → ⊥) → not b ≡ true
    back true p n = absurd (n (p.0 refl))
    back false p n = refl

pub and_is : (a b : Bool) {P Q : Type 0} → (a ≡ true) ↔ P → (b ≡ true) ↔ Q → ((a && b) ≡ true) ↔ (P × Q)
and_is a b p q = (λ h. let k = both a b h in (p.0 k.0, q.0 k.1), λ h. rw (p.1 h.0, q.1 h.1))

pub all_is : (f : ℕ → Bool) (n : ℕ) {P : ℕ → Type 0} → ((i : ℕ) → (f i ≡ true) ↔ P i) → (all_below n f ≡ true) ↔ ((i : ℕ) → i < n → P i)
all_is f n e = (λ h i k. (e i).0 (all_at f n i h k), λ h. all_true f n (λ i k. (e i).1 (h i k)))

-- Bounds of a setting ------------------------------------------------------------------------------------------------

pub in_range_is : (z : ℤ) → (in_range z ≡ true) ↔ InRange z
in_range_is z = and_is (lez (negsuc 4094) z) (lez z (pos 4095)) (lez_is (negsuc 4094) z) (lez_is z (pos 4095))

pub code_fits_is : (low high : ℤ) → (code_fits low high ≡ true) ↔ CodeFits low high
code_fits_is low high = (
  λ h. (order_read z (pos 4095)).1 (omega (arith, leb-true (up z) 4095 h, apart_read z)),
  λ h. le-leb (up z) 4095 (omega (arith, (order_read z (pos 4095)).0 h, apart_read z)),
)
  where
    z : ℤ
    z = high -ℤ offset_of low

pub bounds_is : (low high : ℤ) → (bounds_hold low high ≡ true) ↔ ValueBounds low high
unfolding bounds_hold
bounds_is low high = (
  λ h.
      let p = bounds_parts low high h in
      record {
        low_in = (in_range_is low).0 p.0;
        high_in = (in_range_is high).0 p.1;
        ordered = (lez_is low high).0 p.2;
        code_in = (code_fits_is low high).0 p.3;
      },
  λ b. rw ((in_range_is low).1 b.low_in, (in_range_is high).1 b.high_in, (lez_is low high).1 b.ordered, (code_fits_is low high).1 b.code_in),
)

-- Records ------------------------------------------------------------------------------------------------------------

-- an unused place
past_zero : (v len : ℕ) (e : LogEncoding) → lits_fit v len e.lits ≡ true → (i : ℕ) → len ≤ i → i < 12 → (get_or e.lits i (lit 0)).0 ≡ 0
past_zero v len e h i k l = eqb-true (get_or e.lits i (lit 0)).0 0 (rw (le-ltb i len k) at (all_at (lit_fits v len e.lits) 12 i h l))

lits_are : (v len : ℕ) (e : LogEncoding) → ((i : ℕ) → i < len → (get_or e.lits i (lit 0)).0 < 2 * v)
    → ((i : ℕ) → len ≤ i → i < 12 → (get_or e.lits i (lit 0)).0 ≡ 0) → lits_fit v len e.lits ≡ true
lits_are v len e b u = all_true (lit_fits v len e.lits) 12 (λ i k. go i k (ltb i len) refl)
  where
    go : (i : ℕ) → i < 12 → (t : Bool) → ltb i len ≡ t
        → cond t (ltb (get_or e.lits i (lit 0)).0 (2 * v)) (eqb (get_or e.lits i (lit 0)).0 0) ≡ true
    go i k true q = lt-ltb (get_or e.lits i (lit 0)).0 (2 * v) (b i (ltb-true i len q))
    go i k false q = eq-eqb (get_or e.lits i (lit 0)).0 0 (u i (ltb-false i len q) k)

in_use_is : (v : ℕ) (e : LogEncoding) → (encoding_holds v e ≡ true) ↔ InUse v e
unfolding encoding_holds
in_use_is v e = (
  λ h.
      let b : bounds_hold e.low e.high ≡ true = search (both_l, both_r) depth 6 in
      let o : eqz e.offset (offset_of e.low) ≡ true = search (both_l, both_r) depth 6 in
      let n : eqb e.len (bit_length (code (offset_of e.low) e.high)) ≡ true = search (both_l, both_r) depth 6 in
      let l : lits_fit v e.len e.lits ≡ true = search (both_l, both_r) depth 6 in
      record {
        values = (bounds_is e.low e.high).0 b;
        offset_is = (eqz_is e.offset (offset_of e.low)).0 o;
        bits_are = (eqb_is e.len (bit_length (code (offset_of e.low) e.high))).0 n;
        lits_below = fit_below v e (readable v e h).len_max l;
        unused = past_zero v e.len e l;
      },
  λ u.
      rw (
        (bounds_is e.low e.high).1 u.values,
        (eqz_is e.offset (offset_of e.low)).1 u.offset_is,
        (eqb_is e.len (bit_length (code (offset_of e.low) e.high))).1 u.bits_are,
        lits_are v e.len e u.lits_below u.unused,
      ),
)

spare_is : (e : LogEncoding) → (is_spare e ≡ true) ↔ Spare e
unfolding is_spare
spare_is e = (
  λ h.
      let a : eqz e.low (pos 0) ≡ true = search (both_l, both_r) depth 6 in
      let b : eqz e.high (pos 0) ≡ true = search (both_l, both_r) depth 6 in
      let o : eqz e.offset (pos 0) ≡ true = search (both_l, both_r) depth 6 in
      let n : eqb e.len 0 ≡ true = search (both_l, both_r) depth 6 in
      let l : lits_fit 0 0 e.lits ≡ true = search (both_l, both_r) depth 6 in
      record {
        low_is = (eqz_is e.low (pos 0)).0 a;
        high_is = (eqz_is e.high (pos 0)).0 b;
        offset_is = (eqz_is e.offset (pos 0)).0 o;
        bits_are = (eqb_is e.len 0).0 n;
        unused = λ i k. past_zero 0 0 e l i (omega arith) k;
      },
  λ s.
      rw (
        (eqz_is e.low (pos 0)).1 s.low_is,
        (eqz_is e.high (pos 0)).1 s.high_is,
        (eqz_is e.offset (pos 0)).1 s.offset_is,
        (eqb_is e.len 0).1 s.bits_are,
        lits_are 0 0 e (λ i k. absurd (omega (arith, k))) (λ i z k. s.unused i k),
      ),
)

-- The job ------------------------------------------------------------------------------------------------------------

module _ (env : EncoderEnv) (lits ends : ℕ) where
  is_well_formed : well_formed env lits ends ≡ true → WellFormed env lits ends
  unfolding record_holds
  is_well_formed h =
      let k = kept env lits ends h in
      record {
        lits_max = k.lits_max;
        ends_max = k.ends_max;
        switches_max = k.switches_max;
        variables_max = k.variables_max;
        switches_in = k.switches_in;
        count_max = k.count_max;
        literals_in = k.literals_in;
        clauses_in = k.clauses_in;
        in_use = λ i c. (in_use_is env.variables (encoding_at env i)).0 (holds_in_use env lits ends i k c);
        spare = λ i c l. (spare_is (encoding_at env i)).0 (rw (le-ltb i env.count c) at (all_at (record_holds env) 32 i k.records l));
      }

  records_hold : WellFormed env lits ends → (i : ℕ) → i < 32 → record_holds env i ≡ true
  unfolding record_holds
  records_hold w i l = go (ltb i env.count) refl
    where
      go : (t : Bool) → ltb i env.count ≡ t → cond t (encoding_holds env.variables (encoding_at env i)) (is_spare (encoding_at env i)) ≡ true
      go true q = (in_use_is env.variables (encoding_at env i)).1 (w.in_use i (ltb-true i env.count q))
      go false q = (spare_is (encoding_at env i)).1 (w.spare i (ltb-false i env.count q) l)

  pub well_formed_is : (well_formed env lits ends ≡ true) ↔ WellFormed env lits ends
  well_formed_is = (
    is_well_formed,
    λ w.
        well_formed_of env lits ends
        (record {
          lits_max = w.lits_max;
          ends_max = w.ends_max;
          switches_max = w.switches_max;
          variables_max = w.variables_max;
          switches_in = w.switches_in;
          count_max = w.count_max;
          literals_in = w.literals_in;
          clauses_in = w.clauses_in;
          records = all_true (record_holds env) 32 (records_hold w);
        }),
  )
