-- The invariants of the adder's two loops.
use mathlib.Core.Path.{◌≡◌, refl, ap, sym, ◌∙◌}
use mathlib.Core.Bool.{false}
use mathlib.Core.List.{List, [], ◌∷◌, map}
use Prim.Native.Nat.{ℕ, zero, suc, ◌^◌, ◌+◌, ◌-◌, ◌/◌, ◌%◌, ◌≤◌, ◌<◌}
use native.Mathlib.Numerals.{add-one}
use native.Mathlib.Omega.{arith}
use lib.ListN.{length, take, drop, get_or}
use Rattle.std.proofs.Common.{Bor}
use Rattle.std.proofs.lemmas.Option.{slice_get-get_or, slice_get_past}
use Rattle.std.specs.List.{HoldsAt, slice_get}
use Rattle.std.specs.Option.{IfSome, MatchOption, option_copied}
use Rattle.std.specs.Prelude.{None, Option, Some}
use Rattle.sat.specs.declared.Lit.{Lit}
use Rattle.sat.specs.Encoded.{EncodedBits}
use Rattle.sat.specs.LitArray.{num}
use Rattle.clause_set.specs.declared.ClauseSet.{ClauseSet}
use Rattle.log_encoding.specs.Adder.{AdderColumn, add_column, adder, carry_size, extend, tail}
use Rattle.log_encoding.proofs.Heights.{column_fits, fits_step, tall_from}
use Rattle.log_linear.specs.Added.{bits_of}
use Rattle.log_adder.specs.declared.AdderState.{AdderState}
use Rattle.log_adder.specs.declared.Columns.{Columns}
use Rattle.log_adder.specs.ColumnInfo.{AllLow, range_lits}
use Rattle.log_adder.specs.AdderState.{AdderAdded, AdderFits, ColumnAdded, ColumnReady, InBounds, adder_output, carry_count, input_columns, result_lit}
use Rattle.log_adder.proofs.ColumnsLeft.{AdderLeft, adder_as, adder_bits, adder_end, adder_step, adder_then, adder_turn, adder_wrote, extend_end, extend_step, given_at, given_tail}

pub take_low : (n : ℕ) (ls : List Lit) → AllLow ls → AllLow (take n ls)
take_low zero ls h k = omega arith
take_low (suc n) [] h k = h k
take_low (suc n) (l ∷ ls) h zero = h zero
take_low (suc n) (l ∷ ls) h (suc k) = take_low n ls (λ j. h (suc j)) k

given_low : (given : List Lit) (i : ℕ) → AllLow given → (result_lit (slice_get given i) 0).0 < 2 ^ 31
given_low [] zero h = omega arith
given_low [] (suc i) h = omega arith
given_low (l ∷ ls) zero h = h zero
given_low (l ∷ ls) (suc i) h = given_low ls i (λ j. h (suc j))

-- what `get` and `copied` give
pub got : (given : List Lit) (i : ℕ) (o : Option (Bor Lit)) → MatchOption o (length given ≤ i) (λ x. (i < length given) × HoldsAt (λ y. x.now ≡ y) given i)
    → IfSome o (λ x. x.now ≡ get_or given i x.now) → option_copied o ≡ slice_get given i
got given i None m s = sym (slice_get_past given i m)
got given i (Some x) m s = ap (λ (l : Lit). Some l) s ∙ sym (slice_get-get_or given i x.now m.0)

-- The columns --------------------------------------------------------------------------------------------------

module _ (cols : Columns) (given : List Lit) (width : ℕ) where
  -- what is still to come
  abbrev coming : ℕ → ℕ → ClauseSet → AdderState → EncodedBits
  coming i k t s = adder (input_columns (width - i) i cols.lits cols.counts k) (range_lits s.carry) (drop i (map num given)) t.vars

  -- before column i
  pub record Going (t₀ : ClauseSet) (k₀ : ℕ) (t : ClauseSet) (s : AdderState) (k i : ℕ) : Type 0 where
    pub steady : InBounds t s
    pub len : s.bits.len ≡ i
    pub fits : tall_from cols.counts (width - i) i k s.carry.count ≡ false
    pub left : AdderLeft t₀ [] (adder_output cols given width k₀ t₀.vars) t (bits_of s.bits) (coming i k t s)

  module _ {t₀ : ClauseSet} {k₀ : ℕ} {t : ClauseSet} {s : AdderState} {k i : ℕ} (go : Going t₀ k₀ t s k i) where
    pub going_high : i < width → get_or cols.counts i 0 + s.carry.count ≤ 12
    going_high h = column_fits cols.counts (width - i) i k s.carry.count (omega arith) go.fits

    pub going_ready : AdderFits cols given width → i < width → (own : List Lit)
        → (own ≡ take (get_or cols.counts i 0) (get_or cols.lits i [])) × (length own ≡ get_or cols.counts i 0) → ColumnReady own (k % 2) (slice_get given i) s
    going_ready f h own o =
        let n = get_or cols.counts i 0 in
        let high = going_high h in
        record {
          high = omega (arith, o.1);
          bit_low = omega arith;
          result = given_low given i f.results;
          own_low = rw o.0 (take_low n (get_or cols.lits i []) (f.own i));
          room = omega (arith, f.few, go.len);
        }

    pub going_turn : i < width → (own : List Lit)
        → (own ≡ take (get_or cols.counts i 0) (get_or cols.lits i [])) × (length own ≡ get_or cols.counts i 0) → {u : ClauseSet} {r : AdderState}
        → ColumnAdded own (k % 2) (slice_get given i) t s u r → Going t₀ k₀ u r (k / 2) (i + 1)
    going_turn h own o {u = u} {r = r} a =
        let l = o.1 in
        let n : width - i - 1 ≡ width - (i + 1) = omega arith in
        let size : (k % 2 + get_or cols.counts i 0 + s.carry.count) / 2 ≡ r.carry.count = omega (arith, l, ap (λ x. x.count) a.carry) in
        let v : ℕ = t.vars + carry_count own (k % 2) (slice_get given i) s in
        let at = given_at given i v in
        let gs = map num given in
        let carry = range_lits s.carry in
        let more : List ℕ → ℕ → EncodedBits = λ next x. adder (input_columns (width - i - 1) (i + 1) cols.lits cols.counts (k / 2)) next (tail (drop i gs)) x in
        let col : List Lit → AdderColumn = λ ls. record { own = map num ls; constant = k % 2 } in
        let step = adder_step cols.lits cols.counts (width - i) i k carry (drop i gs) t.vars (omega arith)
        ∙ ap (λ ls. add_column (col ls) carry (carry_size (col ls) carry) (drop i gs) t.vars more) (sym o.0) in
        record {
          steady = a.steady;
          len = a.len ∙ ap (λ (x : ℕ). x + 1) go.len;
          fits = (λ j. tall_from cols.counts (sym n j) (i + 1) (k / 2) (sym size j))
              ∙ fits_step cols.counts (width - i) i k s.carry.count (omega arith) go.fits;
          left = adder_as
              (adder_turn a (drop i gs) at.0 at.1 more (adder_as go.left step))
              (λ j. adder (input_columns (n j) (i + 1) cols.lits cols.counts (k / 2)) (range_lits r.carry) ((given_tail gs i ∙ ap (λ x. drop x gs) (sym (add-one i))) j) u.vars);
        }

-- Past the columns, as long as there is a carry -----------------------------------------------------------------

pub record Extending (t₀ : ClauseSet) (s₀ : AdderState) (t : ClauseSet) (s : AdderState) : Type 0 where
  pub steady : InBounds t s
  pub begun : s₀.bits.len ≤ s.bits.len
  pub fuel : s.bits.len + s.carry.count ≤ s₀.bits.len + s₀.carry.count
  pub room : s.bits.len + s.carry.count ≤ 32
  pub left : AdderLeft t₀ (bits_of s₀.bits) (extend s₀.carry.count (range_lits s₀.carry) t₀.vars) t (bits_of s.bits)
      (extend (s₀.bits.len + s₀.carry.count - s.bits.len) (range_lits s.carry) t.vars)

module _ {t₀ : ClauseSet} {s₀ : AdderState} {t : ClauseSet} {s : AdderState} (go : Extending t₀ s₀ t s) where
  pub extending_turn : 0 < s.carry.count → {u : ClauseSet} {r : AdderState} → ColumnAdded [] 0 None t s u r → Extending t₀ s₀ u r
  extending_turn h {u = u} {r = r} a =
      let f : ℕ = s₀.bits.len + s₀.carry.count - s.bits.len in
      let e : f - 1 ≡ s₀.bits.len + s₀.carry.count - r.bits.len = omega (arith, a.len, go.fuel) in
      let size : r.carry.count ≡ (0 + 0 + s.carry.count) / 2 = ap (λ x. x.count) a.carry in
      let fu = go.fuel in
      let ro = go.room in
      let be = go.begun in
      let le = a.len in
      record {
        steady = a.steady;
        begun = omega arith;
        fuel = omega arith;
        room = omega arith;
        left = adder_as
            (adder_turn a [] refl refl (λ next x. extend (f - 1) next x) (adder_as go.left (extend_step f s.carry t.vars (omega arith) h)))
            (ap (λ x. extend x (range_lits r.carry) u.vars) e);
      }

-- after both loops
pub adder_added : (cols : Columns) (given : List Lit) (width : ℕ) {t₀ : ClauseSet} {k₀ : ℕ} {t : ClauseSet} {s : AdderState} {k i : ℕ} → Going cols given width t₀ k₀ t s k i → width ≤ i
    → {u : ClauseSet} {r : AdderState} → Extending t s u r → r.carry.count ≤ 0
    → AdderAdded t₀ (adder_output cols given width k₀ t₀.vars) u r.bits
adder_added cols given width {t = t} {s = s} {k = k} {i = i} go h {u = u} {r = r} more z =
    let columns = adder_as go.left (adder_end cols.lits cols.counts (width - i) i k s.carry (drop i (map num given)) t.vars (omega arith)) in
    let left = adder_as (adder_then columns more.left) (extend_end (s.bits.len + s.carry.count - r.bits.len) r.carry u.vars z) in
    let b = more.steady in
    record { wrote = adder_wrote left; bits_are = adder_bits left; len = omega (arith, more.room); vars = b.vars; lits = b.lits; clauses = b.clauses }
