-- The columns' pass: its invariant; and the returned set.
use mathlib.Core.Path.{◌≡◌, refl, ap, sym, ◌∙◌}
use mathlib.Core.Bool.{Bool, true, false, cond}
use mathlib.Core.List.{List, [], ◌++◌, append_assoc, map}
use mathlib.Core.Option.{Option, none, some}
use Prim.Native.Nat.{ℕ, zero, suc, ◌+◌, ◌-◌, ◌*◌, ◌/◌, ◌%◌, ◌≤◌, ◌<◌}
use native.Mathlib.Nat.{not-suc-le-zero, sub-zero}
use native.Mathlib.Numerals.{sub-one}
use native.Mathlib.Omega.{arith}
use borrow.Author.Tests.{leb-true, leb-false}
use lib.Dec.{leb}
use lib.ListN.{get_or, length, length-map, take}
use Rattle.sat.specs.declared.Lit.{Lit}
use Rattle.sat.specs.Clause.{Clauses}
use Rattle.sat.specs.Fresh.{fresh}
use Rattle.sat.specs.LitArray.{num}
use Rattle.sat.proofs.Fresh.{length_fresh}
use Rattle.clause_set.specs.declared.ClauseSet.{ClauseSet}
use Rattle.clause_set.specs.Stores.{Added}
use Rattle.clause_set.proofs.Writing.{wrote_as, wrote_clauses, wrote_lits, wrote_nothing, wrote_then}
use Rattle.log_encoding.specs.Adder2.{Adder2Output, NewCarry, eq_column, ordering, returned_set}
use Rattle.log_encoding.proofs.ColumnMost.{Most, eq_column_most}
use Rattle.log_adder.specs.declared.VarRange.{VarRange}
use Rattle.log_adder.specs.declared.Columns.{Columns}
use Rattle.log_adder.specs.AdderState.{own_at}
use Rattle.log_adder.specs.ColumnInfo.{AllLow, range_lits}
use Rattle.log_adder.proofs.AdderLoops.{take_low}
use Rattle.log_adder2.specs.declared.EqInput.{EqInput}
use Rattle.log_adder2.specs.declared.EqState.{EqState}
use Rattle.log_adder2.specs.declared.Column.TheVariants.{Carry}
use Rattle.log_adder2.specs.EqState.{Carries, EqColumnReady, EqFits, carries, carries_from, carries_then, carry_of, columns_clauses, eq_carry_count, eq_output, is_dead, next_state, no_vars, target_bit}
use Rattle.log_adder2.proofs.EqHeights.{column_fits, fits_step, tall_from}
use Rattle.log_adder2.proofs.Passes.{carries_dead, carries_end, carries_step, carry_in, passes_are}

-- Where there is no dead end ------------------------------------------------------------------------------------------

module _ (counts : List ℕ) where
  target_fits : (w i x y : ℕ) (p : VarRange) (v : ℕ) → 0 < w → is_dead (carries_from w i counts x y (carry_in p v)).last ≡ false → (x + y) % 2 ≤ get_or counts i 0 + p.count
  target_fits w i x y p v z h = go (leb ((x + y) % 2) (get_or counts i 0 + p.count)) refl where
    go : (t : Bool) → leb ((x + y) % 2) (get_or counts i 0 + p.count) ≡ t → (x + y) % 2 ≤ get_or counts i 0 + p.count
    go true e = leb-true ((x + y) % 2) (get_or counts i 0 + p.count) e
    go false e =
        let d = ap (λ (s : Carries). is_dead s.last) (carries_dead counts w i x y p v z (leb-false ((x + y) % 2) (get_or counts i 0 + p.count) e)) in
        let z : ◌≡◌ {A = ℕ} 0 1 = cc in
        absurd (omega arith)

-- The answered carry --------------------------------------------------------------------------------------------------

-- consecutive variables as the first pass answers them
abbrev pub answer : VarRange → Option NewCarry
answer p = carry_of (Carry p.first p.count)

abbrev lits_of : Option NewCarry → List ℕ
lits_of none = []
lits_of (some p) = p.lits

abbrev vars_of : Option NewCarry → ℕ
vars_of none = 0
vars_of (some p) = p.vars

-- an answer that is the carry q has its literals and its count, and the next variable is v
module _ (p q : VarRange) (v : ℕ) (h : answer p ≡ some (carry_in q v)) where
  answer_lits : range_lits p ≡ range_lits q
  answer_lits = ap lits_of h

  answer_count : p.count ≡ q.count
  answer_count = sym (length_fresh p.count p.first.0) ∙ ap length answer_lits ∙ length_fresh q.count q.first.0

  answer_vars : p.first.0 + p.count ≡ v
  answer_vars = ap vars_of h

-- how large a column's clauses are
size_of : (own : List ℕ) (p q : VarRange) (x y : ℕ) → length own + p.count ≤ 12 → q.count ≤ 6 → Most (eq_column own (range_lits p) x (range_lits q) y)
size_of own p q x y h k =
    eq_column_most own (range_lits p) (range_lits q) (omega (arith, length_fresh p.count p.first.0)) (omega (arith, length_fresh q.count q.first.0)) x y

-- The invariant ------------------------------------------------------------------------------------------------------

module _ (cols : List (List Lit)) (counts : List ℕ) where
  made_step : (w i x y : ℕ) (p : VarRange) (v : ℕ) → 0 < w
      → let n = (get_or counts i 0 + p.count - (x + y) % 2) / 2 in
      columns_clauses w i cols counts x y p v
      ≡ eq_column (own_at cols counts i) (range_lits p) 0 (fresh n v) ((x + y) % 2) ++ columns_clauses (w - 1) (i + 1) cols counts ((x + 1) / 2) (y / 2) (record { first = record { 0 = v }; count = n }) (v + n)
  made_step zero i x y p v z = absurd (not-suc-le-zero z)
  made_step (suc w) i x y p v z = rw (sub-one (suc w))

  made_end : (w i x y : ℕ) (p : VarRange) (v : ℕ) → w ≤ 0 → columns_clauses w i cols counts x y p v ≡ eq_column (own_at cols counts i) (range_lits p) x [] y
  made_end zero i x y p v h = refl
  made_end (suc w) i x y p v h = absurd (not-suc-le-zero h)

  module _ (last : ℕ) (carry : VarRange) where
    -- what is still to come before column i
    abbrev coming : EqState → ℕ → Clauses
    coming s i = columns_clauses (last - i) i cols counts s.x s.y s.carry s.vars

    pub record ColumnsLeft (t₀ : ClauseSet) (s₀ : EqState) (t : ClauseSet) (s : EqState) (i : ℕ) : Type 0 where
      pub within : i ≤ last
      pub x : s.x ≤ 1073741824
      pub y : s.y ≤ 1073741824
      pub vars : s.vars ≤ 1048576 + 6 * i
      pub first : s.carry.first.0 ≤ s.vars
      pub lits : t.used.lits ≤ t₀.used.lits + 15728640 * i
      pub clauses : t.used.clauses ≤ t₀.used.clauses + 1048576 * i
      pub fits : tall_from counts (suc (last - i)) i s.x s.y s.carry.count ≡ false
      pub answered : answer carry ≡ (carries_from (last - i) i counts s.x s.y (carry_in s.carry s.vars)).last
      pub done : Clauses
      pub wrote : Added t₀ done t
      pub same : columns_clauses last 0 cols counts s₀.x s₀.y s₀.carry s₀.vars ≡ done ++ coming s i

    module _ {t₀ : ClauseSet} {s₀ : EqState} {t : ClauseSet} {s : EqState} {i : ℕ} (m : ColumnsLeft t₀ s₀ t s i) where
      pub columns_high : get_or counts i 0 + s.carry.count ≤ 12
      columns_high = column_fits counts (suc (last - i)) i s.x s.y s.carry.count (omega arith) m.fits

      -- no dead end lies ahead
      pub columns_fit : i < last → target_bit s ≤ get_or counts i 0 + s.carry.count
      columns_fit h = target_fits counts (last - i) i s.x s.y s.carry s.vars (omega arith) (sym (ap is_dead m.answered))

      -- into the last column the answered carry is that of the state
      last_carry : last ≤ i → answer carry ≡ some (carry_in s.carry s.vars)
      last_carry h = m.answered ∙ ap (λ (x : Carries). x.last) (carries_end counts (last - i) i s.x s.y s.carry s.vars (omega arith))

      module _ (fit : last < 26) (low : (i : ℕ) → AllLow (get_or cols i [])) (own : List Lit)
          (o : (own ≡ take (get_or counts i 0) (get_or cols i [])) × (length own ≡ get_or counts i 0)) where
        pub last_ready : last ≤ i → EqColumnReady own carry s
        last_ready h =
            let k = last_carry h in
            record {
              high = omega (arith, columns_high, o.1, answer_count carry s.carry s.vars k);
              x = m.x;
              y = m.y;
              vars = omega (arith, m.vars, m.within);
              first = omega (arith, m.vars, m.within, answer_vars carry s.carry s.vars k);
              low = rw o.0 (take_low (get_or counts i 0) (get_or cols i []) (low i));
            }

        pub columns_turn : i < last → {u : ClauseSet}
            → Added t (eq_column (map num own) (range_lits s.carry) 0 (fresh (eq_carry_count (length own) s) s.vars) (target_bit s)) u
            → ColumnsLeft t₀ s₀ u (next_state (length own) s) (i + 1)
        columns_turn h {u} w =
            let n : ℕ = eq_carry_count (length own) s in
            let n' : ℕ = eq_carry_count (get_or counts i 0) s in
            let q : n' ≡ n = omega (arith, o.1) in
            let cs : Clauses = eq_column (map num own) (range_lits s.carry) 0 (fresh n s.vars) (target_bit s) in
            let j : last - i - 1 ≡ last - (i + 1) = omega arith in
            let next : suc (last - i) - 1 ≡ suc (last - (i + 1)) = omega arith in
            let hi = columns_high in
            let od = columns_fit h in
            let r : EqState = next_state (length own) s in
            let at : ℕ → VarRange = λ k. record { first = record { 0 = s.vars }; count = k } in
            let step : coming s i ≡ cs ++ coming r (i + 1) =
            made_step (last - i) i s.x s.y s.carry s.vars (omega arith)
            ∙ (λ k. eq_column (map num (sym o.0 k)) (range_lits s.carry) 0 (fresh (q k) s.vars) (target_bit s) ++ columns_clauses (j k) (i + 1) cols counts r.x r.y (at (q k)) (s.vars + q k)) in
            let carried : carries_from (last - i) i counts s.x s.y (carry_in s.carry s.vars) ≡ carries_then (ordering (fresh n s.vars)) (carries_from (last - (i + 1)) (i + 1) counts r.x r.y (carry_in r.carry r.vars)) =
            carries_step counts (last - i) i s.x s.y s.carry s.vars (omega arith) od
            ∙ (λ k. carries_then (ordering (fresh (q k) s.vars)) (carries_from (j k) (i + 1) counts r.x r.y (carry_in (at (q k)) (s.vars + q k)))) in
            let z = size_of (map num own) s.carry (at n) 0 (target_bit s) (omega (arith, length-map own num, hi, o.1)) (omega (arith, hi, o.1)) in
            record {
              within = omega arith;
              x = omega (arith, m.x);
              y = omega (arith, m.y);
              vars = omega (arith, m.vars, hi, o.1);
              first = omega arith;
              lits = omega (arith, m.lits, wrote_lits w, z);
              clauses = omega (arith, m.clauses, wrote_clauses w, z);
              fits = (λ k. tall_from counts (sym next k) (i + 1) r.x r.y (sym q k))
                  ∙ fits_step counts (suc (last - i)) i s.x s.y s.carry.count (omega arith) od m.fits;
              answered = m.answered ∙ ap (λ (x : Carries). x.last) carried;
              done = m.done ++ cs;
              wrote = wrote_as (wrote_then m.wrote w) m.wrote.vars_are refl;
              same = m.same ∙ ap (λ (x : Clauses). m.done ++ x) step ∙ sym (append_assoc m.done cs (coming r (i + 1)));
            }

        pub columns_end : last ≤ i → {u : ClauseSet} → Added t (eq_column (map num own) (range_lits carry) s.x [] s.y) u
            → Added t₀ (columns_clauses last 0 cols counts s₀.x s₀.y s₀.carry s₀.vars) u
        columns_end h w =
            let step = made_end (last - i) i s.x s.y s.carry s.vars (omega arith)
            ∙ (λ k. eq_column (map num (sym o.0 k)) (sym (answer_lits carry s.carry s.vars (last_carry h)) k) s.x [] s.y) in
            wrote_as (wrote_then m.wrote w) m.wrote.vars_are (sym (m.same ∙ ap (λ (x : Clauses). m.done ++ x) step))

  pub columns_start : (t : ClauseSet) (g : EqInput) (carry : VarRange) → tall_from counts (suc (g.width - 1)) 0 g.x g.y 0 ≡ false → answer carry ≡ (carries counts g).last
      → g.x ≤ 1073741824 → g.y ≤ 1073741824 → g.vars ≤ 1048576
      → let s : EqState = record { x = g.x; y = g.y; vars = g.vars; carry = no_vars } in ColumnsLeft (g.width - 1) carry t s t s 0
  columns_start t g carry f l p q r =
      record {
        within = omega arith;
        x = p;
        y = q;
        vars = omega arith;
        first = omega arith;
        lits = omega arith;
        clauses = omega arith;
        fits = rw (sub-zero (g.width - 1)) f;
        answered = rw (sub-zero (g.width - 1)) l;
        done = [];
        wrote = wrote_nothing t;
        same = rw (sub-zero (g.width - 1));
      }

-- The returned set ---------------------------------------------------------------------------------------------------

module _ (cols : Columns) (g : EqInput) (fit : EqFits cols g) (fits : tall_from cols.counts (suc (g.width - 1)) 0 g.x g.y 0 ≡ false) where
  -- what a column's answer makes of it
  abbrev set_of : Option NewCarry → Clauses
  set_of c = returned_set (cond (is_dead c) none (some (columns_clauses (g.width - 1) 0 cols.lits cols.counts g.x g.y no_vars g.vars)))

  pub returned : (c : Option NewCarry) → c ≡ (carries cols.counts g).last → set_of c ≡ returned_set (eq_output cols g).returned
  returned c k = ap set_of k ∙ sym (ap (λ (o : Adder2Output). returned_set o.returned) (passes_are cols.lits cols.counts fit.wide g fit.width fits))
