-- The ordering pass: its invariant, and each way out of it.
use mathlib.Core.Path.{◌≡◌, refl, ap, sym, ◌∙◌}
use mathlib.Core.Bool.{false}
use mathlib.Core.Option.{some}
use mathlib.Core.List.{List, [], ◌++◌, append-nil, append_assoc}
use Prim.Native.Nat.{ℕ, suc, ◌+◌, ◌-◌, ◌*◌, ◌/◌, ◌%◌, ◌≤◌, ◌<◌}
use native.Mathlib.Nat.{sub-zero}
use native.Mathlib.Omega.{arith}
use lib.ListN.{get_or, length, take}
use lib.Seq.{length-take-le}
use Rattle.sat.specs.declared.Lit.{Lit}
use Rattle.sat.specs.Clause.{Clauses}
use Rattle.sat.specs.Fresh.{fresh}
use Rattle.clause_set.specs.declared.ClauseSet.{ClauseSet}
use Rattle.clause_set.specs.Stores.{Wrote}
use Rattle.clause_set.proofs.Writing.{wrote_as, wrote_clauses, wrote_lits, wrote_nothing, wrote_then}
use Rattle.log_encoding.specs.Adder2.{Adder2Output, ordering}
use Rattle.log_adder.specs.declared.VarRange.{VarRange}
use Rattle.log_adder.specs.ColumnInfo.{range_lits}
use Rattle.log_adder2.specs.declared.EqInput.{EqInput}
use Rattle.log_adder2.specs.declared.Column.{Column}
use Rattle.log_adder2.specs.declared.Column.TheVariants.{Carry, Dead}
use Rattle.log_adder2.specs.EqState.{Carries, CarriesOrdered, carries, carries_from, carries_then, carry_of, eq_input, output_of}
use Rattle.log_adder2.proofs.EqHeights.{column_fits, fits_step, tall_from}
use Rattle.log_adder2.proofs.Passes.{carries_dead, carries_end, carries_step, carries_taken, carry_in, output_taken, passes_are}
use Rattle.log_adder2.proofs.Ordering.{ordering_size}

carries_twice : (cs ds : Clauses) (r : Carries) → carries_then cs (carries_then ds r) ≡ carries_then (cs ++ ds) r
carries_twice cs ds r = λ j. record { sent = sym (append_assoc cs ds r.sent) j; vars = r.vars; last = r.last }

module _ (counts : List ℕ) (last : ℕ) where
  -- what is still to come before column i
  abbrev coming : ℕ → ℕ → VarRange → ℕ → ℕ → Carries
  coming x y p v i = carries_from (last - i) i counts x y (carry_in p v)

  pub record OrderingLeft (t₀ : ClauseSet) (x₀ y₀ : ℕ) (t : ClauseSet) (x y : ℕ) (p : VarRange) (i : ℕ) : Type 0 where
    pub within : i ≤ last
    pub x_low : x ≤ 1073741824
    pub y_low : y ≤ 1073741824
    pub vars : t.vars ≤ 1048576 + 6 * i
    pub few : p.count ≤ 6
    pub lits : t.used.lits ≤ t₀.used.lits + 12 * i
    pub clauses : t.used.clauses ≤ t₀.used.clauses + 6 * i
    pub fits : tall_from counts (suc (last - i)) i x y p.count ≡ false
    pub top : p.first.0 + p.count ≡ t.vars
    pub done : Clauses
    pub wrote : Wrote t₀ t.vars done t
    pub same : carries_from last 0 counts x₀ y₀ (record { lits = []; vars = t₀.vars }) ≡ carries_then done (coming x y p t.vars i)

  pub ordering_start : (t : ClauseSet) (x y : ℕ) → tall_from counts (suc last) 0 x y 0 ≡ false → x ≤ 1073741824 → y ≤ 1073741824 → t.vars ≤ 1048576
      → OrderingLeft t x y t x y (record { first = record { 0 = t.vars }; count = 0 }) 0
  ordering_start t x y f p q r =
      record {
        within = omega arith;
        x_low = p;
        y_low = q;
        vars = omega arith;
        few = omega arith;
        lits = omega arith;
        clauses = omega arith;
        fits = rw (sub-zero last) f;
        top = omega arith;
        done = [];
        wrote = wrote_nothing t;
        same = rw (sub-zero last);
      }

  module _ {t₀ : ClauseSet} {x₀ y₀ : ℕ} {t : ClauseSet} {x y : ℕ} {p : VarRange} {i : ℕ} (m : OrderingLeft t₀ x₀ y₀ t x y p i) where
    pub ordering_high : get_or counts i 0 + p.count ≤ 12
    ordering_high = column_fits counts (suc (last - i)) i x y p.count (omega arith) m.fits

    pub ordering_turn : i < last → (k : ℕ) → k ≡ get_or counts i 0 → (x + y) % 2 ≤ k + p.count
        → (u : ClauseSet) → let n = (k + p.count - (x + y) % 2) / 2 in Wrote t (t.vars + n) (ordering (fresh n t.vars)) u
        → OrderingLeft t₀ x₀ y₀ u ((x + 1) / 2) (y / 2) (record { first = record { 0 = t.vars }; count = n }) (i + 1)
    ordering_turn h k e o u w =
        let high = ordering_high in
        let odd = (x + y) % 2 in
        let n = (k + p.count - odd) / 2 in
        let n' = (get_or counts i 0 + p.count - odd) / 2 in
        let q : n' ≡ n = omega arith in
        let o' : odd ≤ get_or counts i 0 + p.count = omega arith in
        let cs : Clauses = ordering (fresh n t.vars) in
        let j : last - i - 1 ≡ last - (i + 1) = omega arith in
        let next : suc (last - i) - 1 ≡ suc (last - (i + 1)) = omega arith in
        let step : coming x y p t.vars i ≡ carries_then cs (coming ((x + 1) / 2) (y / 2) (record { first = record { 0 = t.vars }; count = n }) u.vars (i + 1)) =
        carries_step counts (last - i) i x y p t.vars (omega arith) o'
        ∙ (λ r. carries_then (ordering (fresh (q r) t.vars)) (carries_from (j r) (i + 1) counts ((x + 1) / 2) (y / 2) (carry_in (record { first = record { 0 = t.vars }; count = q r }) (t.vars + q r))))
        ∙ (λ r. carries_then cs (carries_from (last - (i + 1)) (i + 1) counts ((x + 1) / 2) (y / 2) (carry_in (record { first = record { 0 = t.vars }; count = n }) (sym w.vars_are r)))) in
        let sz = ordering_size n t.vars in
        record {
          within = omega arith;
          x_low = omega (arith, m.x_low);
          y_low = omega (arith, m.y_low);
          vars = omega (arith, m.vars, w.vars_are);
          few = omega arith;
          lits = omega (arith, m.lits, wrote_lits w, sz);
          clauses = omega (arith, m.clauses, wrote_clauses w, sz);
          fits = (λ r. tall_from counts (sym next r) (i + 1) ((x + 1) / 2) (y / 2) (sym q r))
              ∙ fits_step counts (suc (last - i)) i x y p.count (omega arith) o' m.fits;
          top = sym w.vars_are;
          done = m.done ++ cs;
          wrote = wrote_as (wrote_then m.wrote w) (sym w.vars_are) refl;
          same = m.same ∙ ap (carries_then m.done) step ∙ carries_twice m.done cs _;
        }

-- The ways out -------------------------------------------------------------------------------------------------------

module _ {counts : List ℕ} {last : ℕ} {t₀ : ClauseSet} {x₀ y₀ : ℕ} {t : ClauseSet} {x y : ℕ} {p : VarRange} {i : ℕ} (m : OrderingLeft counts last t₀ x₀ y₀ t x y p i)
    (long : length counts - 1 ≡ last) (few : length counts ≤ 26) (fits : tall_from counts (suc last) 0 x₀ y₀ 0 ≡ false) where
  abbrev g : EqInput
  g = eq_input (length counts) x₀ y₀ t₀.vars

  -- the clauses and the variables are the definition's, and the carry is as answered
  ordered : (c : Column) → coming counts last x y p t.vars i ≡ record { sent = []; vars = t.vars; last = carry_of c } → CarriesOrdered t₀ counts g t c
  ordered c e =
      let all : carries counts g ≡ record { sent = m.done; vars = t.vars; last = carry_of c } =
      ap (λ l. carries_from l 0 counts x₀ y₀ (record { lits = []; vars = t₀.vars })) long ∙ m.same ∙ ap (carries_then m.done) e
      ∙ (λ j. record { sent = append-nil m.done j; vars = t.vars; last = carry_of c }) in
      let low = m.within in
      record {
        wrote = λ cols wide.
            let out = passes_are cols counts wide g few (ap (λ l. tall_from counts (suc l) 0 x₀ y₀ 0) long ∙ fits) in
            wrote_as m.wrote
            (sym (ap (λ (o : Adder2Output). o.vars) out ∙ ap (λ (r : Carries). r.vars) all))
            (sym (ap (λ (o : Adder2Output). o.sent) out ∙ ap (λ (r : Carries). r.sent) all));
        carry = sym (ap (λ (r : Carries). r.last) all);
        lits = omega (arith, m.lits);
        clauses = omega (arith, m.clauses);
      }

  pub ordering_dead : i < last → (k : ℕ) → k ≡ get_or counts i 0 → k + p.count < (x + y) % 2 → CarriesOrdered t₀ counts g t Dead
  ordering_dead h k e o = ordered Dead (carries_dead counts (last - i) i x y p t.vars (omega arith) (omega arith))

  pub ordering_end : last ≤ i → CarriesOrdered t₀ counts g t (Carry p.first p.count)
  ordering_end h =
      ordered (Carry p.first p.count)
      (carries_end counts (last - i) i x y p t.vars (omega arith) ∙ (λ j. record { sent = []; vars = t.vars; last = some record { lits = range_lits p; vars = sym m.top j } }))

-- The counts of the first columns as a slice -------------------------------------------------------------------------

pub ordered_taken : (counts : List ℕ) (w x y : ℕ) → 1 ≤ w → w ≤ length counts → {s t : ClauseSet} {c : Column}
    → CarriesOrdered s (take w counts) (eq_input (length (take w counts)) x y s.vars) t c → CarriesOrdered s counts (eq_input w x y s.vars) t c
ordered_taken counts w x y h l {s = s} o =
    let n = length-take-le w counts l in
    let out : (cols : List (List Lit)) → output_of cols (take w counts) (eq_input (length (take w counts)) x y s.vars) ≡ output_of cols counts (eq_input w x y s.vars) =
    λ cols. ap (λ m. output_of cols (take w counts) (eq_input m x y s.vars)) n ∙ output_taken counts (eq_input w x y s.vars) h cols in
    record {
      wrote = λ cols wide. wrote_as (o.wrote cols wide) (ap (λ (r : Adder2Output). r.vars) (out cols)) (ap (λ (r : Adder2Output). r.sent) (out cols));
      carry = o.carry ∙ ap (λ m. (carries (take w counts) (eq_input m x y s.vars)).last) n ∙ ap (λ (r : Carries). r.last) (carries_taken counts (eq_input w x y s.vars) h);
      lits = o.lits;
      clauses = o.clauses;
    }
