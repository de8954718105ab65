-- What the parts of the three encode functions come to.
use Prim.Native.Nat.{◌+◌, ◌-◌, ◌<◌, ◌≤◌, ℕ}
use lib.IntN.{pos, ℤ}
use lib.ListN.{get_or, length}
use mathlib.Core.Bool.{false, true}
use mathlib.Core.List.{List, [], ◌++◌, ◌∷◌, append_assoc, append-nil, map}
use mathlib.Core.Path.{◌∙◌, ◌≡◌, ap, ap₂, refl, subst, sym}
use mir.Syntax.{w32}
use mir.Val.{SFits, of_z, to_z}
use mir.ValLaws.{to_z-of_z}
use native.Mathlib.Omega.{arith}
use Rattle.norm_csp.proofs.Domain.{rising_last}
use Rattle.arithmetic.specs.Bits.{bit_length}
use Rattle.arithmetic.specs.Integers.{down, up}
use Rattle.arithmetic.specs.Offset.{code, offset_of}
use Rattle.arithmetic.proofs.Integers.{<ℤ_le}
use Rattle.arithmetic.proofs.Offset.{mag_below, offset_read}
use Rattle.sat.specs.Clause.{Clauses}
use Rattle.sat.specs.declared.Lit.{Lit}
use Rattle.sat.specs.Fresh.{fresh}
use Rattle.sat.proofs.Fresh.{length_fresh}
use Rattle.clause_set.specs.declared.ClauseSet.{ClauseSet}
use Rattle.clause_set.specs.Stores.{Added, Fits, Wrote}
use Rattle.clause_set.proofs.Writing.{fits_as, fits_behind, wrote_as, wrote_then}
use Rattle.norm_csp.specs.Domain.{binary, last_from, list, range}
use Rattle.log_encoding.specs.Binary.{binary_bits}
use Rattle.log_var.specs.Calls.{Ready, VarAdded}
use Rattle.log_domain.specs.Domain.{RisingAt, bound, gaps_from}
use Rattle.log_var.specs.Parts.{BitsAdded, CodesFit, code_range}
use Rattle.log_encoding.specs.Domain.{at_least, at_most, gaps}
use Rattle.log_encoding.specs.EncodeVarLog.{encode_var_log}
use Rattle.log_encoding.specs.LogEncoding.{LogEncoding}
use Rattle.log_var.specs.Record.{pad, record_of}
use Rattle.log_var.specs.declared.CodeRange.{CodeRange}
use Rattle.log_var.specs.declared.LogEncoding.{LogEncoding as Encoding}
use Rattle.log_var.proofs.Bits.{bits_long}
use Rattle.log_var.proofs.Bounds.{codes_fit, ready_fits}

-- a small signed number, as the machine reads it
small_read : (z : ℤ) → up z < 4096 → down z < 4096 → to_z w32 (of_z w32 z) ≡ z
small_read z u d = to_z-of_z w32 z (record { sfits = mag_below z 2147483648 (omega arith) (omega arith) })

-- codes, as the machine reads the values
pub codes_read : (low high : ℤ) {r : CodeRange} → SFits w32 low → SFits w32 high
    → r ≡ code_range (to_z w32 (of_z w32 low)) (to_z w32 (of_z w32 high)) → r ≡ code_range low high
codes_read low high f g e = e ∙ ap₂ code_range (to_z-of_z w32 low f) (to_z-of_z w32 high g)

-- an offset, as the machine reads it
offset_is : (low high z : ℤ) → CodesFit low high → z ≡ offset_of low → to_z w32 (of_z w32 z) ≡ offset_of low
offset_is low high z f e =
    let o = offset_read low in ap (λ x. to_z w32 (of_z w32 x)) e ∙ small_read (offset_of low) (omega (arith, o)) f.offset_down

-- a record by its fields
encoding_is : {e : Encoding} (x : LogEncoding) → e.lits ≡ pad x.lits → e.len ≡ length x.lits → e.low ≡ x.low → e.high ≡ x.high
    → e.offset ≡ x.offset → e ≡ record_of x
encoding_is x p q r s t = λ i. record { lits = p i; len = q i; low = r i; high = s i; offset = t i }

-- A range ------------------------------------------------------------------------------------------------------------

module _ (low high : ℤ) (s : ClauseSet) (ready : Ready (range low high) s) where
  pub range_codes : CodesFit low high
  range_codes = codes_fit low high ready.encodable.0 ready.encodable.1 ready.low

  module _ (r : CodeRange) (e : r ≡ code_range low high) where
    bits_are : r.bits ≡ (code_range low high).bits
    bits_are = ap (λ (q : CodeRange). q.bits) e

    pub range_small : (s.vars + r.bits < 1073741824) × (r.bits ≤ 12) × (r.low < 2147483648) × (r.high < 2147483648)
    range_small =
        let f = range_codes in
        let k = ap (λ (q : CodeRange). q.low) e in
        let m = ap (λ (q : CodeRange). q.high) e in
        (omega (arith, bits_are, ready.vars_fit, f.bits), omega (arith, bits_are, f.bits), omega (arith, k, f.low_code, f.high_code), omega (arith, m, f.high_code))

    range_split : bound true (fresh r.bits s.vars) r.low ++ bound false (fresh r.bits s.vars) r.high ≡ (encode_var_log (range low high) s.vars).clauses
    range_split =
        (λ i. bound true (fresh (e i).bits s.vars) (e i).low ++ bound false (fresh (e i).bits s.vars) (e i).high)
        ∙ ap (λ cs. at_least (fresh (code_range low high).bits s.vars) (code_range low high).low ++ cs)
        (sym (append-nil (at_most (fresh (code_range low high).bits s.vars) (code_range low high).high)))

    pub range_fits : Fits s.base s.used (bound true (fresh r.bits s.vars) r.low ++ bound false (fresh r.bits s.vars) r.high)
    range_fits = fits_as (ready_fits (range low high) s ready) (sym range_split)

    -- both bounds, and the new variables
    pub range_added : {t u w : ClauseSet} {x : Encoding} → Added s (bound true (fresh r.bits s.vars) r.low) t
        → Added t (bound false (fresh r.bits s.vars) r.high) u → Wrote u (u.vars + r.bits) [] w
        → x.lits ≡ pad (fresh r.bits u.vars) → x.len ≡ r.bits → x.low ≡ low → x.high ≡ high → x.offset ≡ to_z w32 (of_z w32 r.offset)
        → VarAdded (range low high) s x w
    range_added {u = u} a b c l n lo hi o =
        let same : u.vars ≡ s.vars = b.vars_are ∙ a.vars_are in
        record {
          wrote = wrote_as (wrote_then (wrote_then a b) c) (ap₂ (λ x y. x + y) same bits_are)
              (append-nil _ ∙ range_split);
          encoding = encoding_is (encode_var_log (range low high) s.vars).encoding
              (l ∙ (λ i. pad (fresh (bits_are i) (same i)))) (n ∙ bits_are ∙ sym (length_fresh (code_range low high).bits s.vars)) lo hi
              (o ∙ offset_is low high r.offset range_codes (ap (λ (q : CodeRange). q.offset) e));
        }

-- Two values ---------------------------------------------------------------------------------------------------------

module _ (c : ℕ) (f t : ℤ) (s : ClauseSet) (ready : Ready (binary c f t) s) where
  pub binary_codes : CodesFit f t
  binary_codes = codes_fit f t (<ℤ_le f t ready.encodable.1) ready.encodable.2 ready.low

  module _ (r : CodeRange) (e : r ≡ code_range f t) where
    pub binary_small : (r.bits ≤ 12) × (s.vars < 536870912)
    binary_small = (omega (arith, binary_codes.bits, ap (λ (q : CodeRange). q.bits) e), omega (arith, ready.vars_fit))

    pub binary_fits : Fits s.base s.used (binary_bits r.bits r.low r.high c s.vars).clauses
    binary_fits = fits_as (ready_fits (binary c f t) s ready) (λ i. (binary_bits (sym e i).bits (sym e i).low (sym e i).high c s.vars).clauses)

    pub binary_added : {ls : List Lit} {u : ClauseSet} {x : Encoding} → BitsAdded r.bits r.low r.high c s ls u
        → x.lits ≡ ls → x.len ≡ r.bits → x.low ≡ f → x.high ≡ t → x.offset ≡ to_z w32 (of_z w32 r.offset) → VarAdded (binary c f t) s x u
    binary_added {ls} {u} a l n lo hi o =
        let m = code_range f t in
        let w : BitsAdded m.bits m.low m.high c s ls u = subst (λ (q : CodeRange). BitsAdded q.bits q.low q.high c s ls u) e a in
        record {
          wrote = w.wrote;
          encoding = encoding_is (encode_var_log (binary c f t) s.vars).encoding (l ∙ w.lits_are)
              (n ∙ ap (λ (q : CodeRange). q.bits) e ∙ sym (bits_long m.bits m.low m.high c s.vars)) lo hi
              (o ∙ offset_is f t r.offset binary_codes (ap (λ (q : CodeRange). q.offset) e));
        }

-- A list -------------------------------------------------------------------------------------------------------------

pub last_at : (k : ℤ) (ks : List ℤ) → get_or (k ∷ ks) (length (k ∷ ks) - 1) (pos 0) ≡ last_from k ks
last_at k ks = let e : length (k ∷ ks) - 1 ≡ length ks = omega arith in ap (λ i. get_or (k ∷ ks) i (pos 0)) e ∙ go k ks
  where
    go : (k : ℤ) (ks : List ℤ) → get_or (k ∷ ks) (length ks) (pos 0) ≡ last_from k ks
    go k [] = refl
    go k (m ∷ ms) = go m ms

-- the range's clauses and then those of the gaps
parts : (a b c : Clauses) → (a ++ (b ++ [])) ++ c ≡ a ++ (b ++ c)
parts a b c = append_assoc a (b ++ []) c ∙ ap (λ x. a ++ (x ++ c)) (append-nil b)

-- a list as its range and its gaps
pub record ListParts (values : List ℤ) (s : ClauseSet) (low high : ℤ) : Type 0 where
  pub ready_range : Ready (range low high) s
  pub rising : RisingAt (offset_of low) values 0
  pub clauses : (encode_var_log (range low high) s.vars).clauses ++ gaps_from (fresh (code_range low high).bits s.vars) (offset_of low) values 0
      ≡ (encode_var_log (list values) s.vars).clauses
  pub same_vars : (encode_var_log (range low high) s.vars).vars ≡ (encode_var_log (list values) s.vars).vars
  pub same_encoding : (encode_var_log (range low high) s.vars).encoding ≡ (encode_var_log (list values) s.vars).encoding

list_cons : (k : ℤ) (ks : List ℤ) (s : ClauseSet) → Ready (list (k ∷ ks)) s → ListParts (k ∷ ks) s k (last_from k ks)
list_cons k ks s r =
    let high = last_from k ks in
    let o = offset_of k in
    let in_order = rising_last k ks r.encodable.0 in
    let f = codes_fit k high in_order r.encodable.1 r.low in
    let ls = fresh (bit_length (code o high)) s.vars in
    record {
      ready_range = record { encodable = (in_order, r.encodable.1); low = r.low; vars_fit = r.vars_fit; lits_fit = r.lits_fit; clauses_fit = r.clauses_fit };
      rising = record { offset_down = f.offset_down; here = omega arith; above = f.low_above; rising = r.encodable.0; last_up = f.high_up };
      clauses = parts (at_least ls (code o k)) (at_most ls (code o high)) (gaps ls (code o k) (map (code o) ks));
      same_vars = refl;
      same_encoding = refl;
    }

pub list_parts : (values : List ℤ) (s : ClauseSet) → Ready (list values) s
    → ListParts values s (get_or values 0 (pos 0)) (get_or values (length values - 1) (pos 0))
list_parts [] s r = absurd r.encodable
list_parts (k ∷ ks) s r = subst (ListParts (k ∷ ks) s k) (sym (last_at k ks)) (list_cons k ks s r)

-- x is the range's record, t has its clauses, and the gaps are added to t
module _ {values : List ℤ} {s : ClauseSet} {low high : ℤ} (p : ListParts values s low high) {x : Encoding} {t : ClauseSet} (a : VarAdded (range low high) s x t) where
  len_is : x.len ≡ (code_range low high).bits
  len_is = ap (λ (y : Encoding). y.len) a.encoding ∙ length_fresh (code_range low high).bits s.vars

  codes : CodesFit low high
  codes = range_codes low high s p.ready_range

  pub list_offset : to_z w32 (of_z w32 x.offset) ≡ offset_of low
  list_offset = offset_is low high x.offset codes (ap (λ (y : Encoding). y.offset) a.encoding)

  pub list_small : s.vars + x.len < 2147483648
  list_small = omega (arith, len_is, codes.bits, p.ready_range.vars_fit)

  clauses_are : (encode_var_log (range low high) s.vars).clauses ++ gaps_from (fresh x.len s.vars) (offset_of low) values 0
      ≡ (encode_var_log (list values) s.vars).clauses
  clauses_are =
      ap (λ n. (encode_var_log (range low high) s.vars).clauses ++ gaps_from (fresh n s.vars) (offset_of low) values 0) len_is ∙ p.clauses

  pub list_fits : Ready (list values) s → Fits t.base t.used (gaps_from (fresh x.len s.vars) (offset_of low) values 0)
  list_fits r = fits_behind a.wrote (fits_as (ready_fits (list values) s r) (sym clauses_are))

  pub list_added : {u : ClauseSet} → Added t (gaps_from (fresh x.len s.vars) (offset_of low) values 0) u → VarAdded (list values) s x u
  list_added g =
      record {
        wrote = wrote_as (wrote_then a.wrote g) (a.wrote.vars_are ∙ p.same_vars) clauses_are;
        encoding = a.encoding ∙ ap record_of p.same_encoding;
      }
