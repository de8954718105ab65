-- The adder's definition, as the code comes by it: a column, a carry past the columns, the end; what is still to come.
use mathlib.Core.Path.{◌≡◌, refl, ap, sym, ◌∙◌}
use mathlib.Core.List.{List, [], ◌∷◌, ◌++◌, map, append_assoc, append-nil}
use Prim.Native.Nat.{ℕ, zero, suc, ◌+◌, ◌-◌, ◌/◌, ◌%◌, ◌≤◌, ◌<◌}
use native.Mathlib.Nat.{not-suc-le-zero}
use native.Mathlib.Numerals.{sub-one}
use lib.ListN.{take, drop, get_or, length-map}
use Rattle.std.specs.Prelude.{Option}
use Rattle.std.specs.List.{slice_get}
use Rattle.sat.specs.declared.Lit.{Lit}
use Rattle.sat.specs.Encoded.{EncodedBits}
use Rattle.sat.specs.Fresh.{fresh}
use Rattle.sat.specs.LitArray.{num}
use Rattle.sat.proofs.Fresh.{length_fresh}
use Rattle.clause_set.specs.declared.ClauseSet.{ClauseSet}
use Rattle.clause_set.specs.Stores.{Stores, Wrote, add_clauses, stores_of}
use Rattle.clause_set.proofs.Adding.{add_append}
use Rattle.log_encoding.specs.Column.{column}
use Rattle.log_encoding.specs.Adder.{AdderColumn, add_column, adder, carry_size, empty_column, extend, joined, no_more_columns, result, result_vars, tail}
use Rattle.log_linear.specs.Added.{bits_of}
use Rattle.log_adder.specs.declared.VarRange.{VarRange}
use Rattle.log_adder.specs.declared.AdderState.{AdderState}
use Rattle.log_adder.specs.ColumnInfo.{range_lits}
use Rattle.log_adder.specs.AdderState.{ColumnAdded, carry_count, input_columns, result_count, result_lit}

-- What is still to come ---------------------------------------------------------------------------------------------

-- stores, bits and variables
record Outcome : Type 0 where
  stores : Stores
  bits : List ℕ
  vars : ℕ

-- those of a set of clauses and of the bits so far, with what is still to come
abbrev then : ClauseSet → List ℕ → EncodedBits → Outcome
then t bs rest = record { stores = add_clauses t.base rest.clauses (stores_of t); bits = bs ++ rest.bits; vars = rest.vars }

-- To go on from here comes to what the whole would have given from the start.
pub record AdderLeft (t₀ : ClauseSet) (b₀ : List ℕ) (all : EncodedBits) (t : ClauseSet) (b : List ℕ) (rest : EncodedBits) : Type 0 where
  pub same_lits : t.lits.ghost_name ≡ t₀.lits.ghost_name
  pub same_ends : t.ends.ghost_name ≡ t₀.ends.ghost_name
  pub same_base : t.base ≡ t₀.base
  pub same : then t b rest ≡ then t₀ b₀ all

module _ {t₀ : ClauseSet} {b₀ : List ℕ} {all : EncodedBits} {t : ClauseSet} {b : List ℕ} {rest : EncodedBits} (left : AdderLeft t₀ b₀ all t b rest) where
  -- the same, written otherwise
  pub adder_as : {more : EncodedBits} → rest ≡ more → AdderLeft t₀ b₀ all t b more
  adder_as e =
      record { same_lits = left.same_lits; same_ends = left.same_ends; same_base = left.same_base; same = ap (then t b) (sym e) ∙ left.same }

  -- two loops one after the other
  pub adder_then : {u : ClauseSet} {c : List ℕ} {more : EncodedBits} → AdderLeft t b rest u c more → AdderLeft t₀ b₀ all u c more
  adder_then next =
      record {
        same_lits = next.same_lits ∙ left.same_lits;
        same_ends = next.same_ends ∙ left.same_ends;
        same_base = next.same_base ∙ left.same_base;
        same = next.same ∙ left.same;
      }

-- nothing is left
module _ {t₀ : ClauseSet} {all : EncodedBits} {t : ClauseSet} {b : List ℕ} (left : AdderLeft t₀ [] all t b (no_more_columns t.vars)) where
  pub adder_wrote : Wrote t₀ all.vars all.clauses t
  adder_wrote =
      record {
        same_lits = left.same_lits;
        same_ends = left.same_ends;
        same_base = left.same_base;
        vars_are = ap (λ (o : Outcome). o.vars) left.same;
        stores_are = ap (λ (o : Outcome). o.stores) left.same;
      }

  pub adder_bits : b ≡ all.bits
  adder_bits = sym (append-nil b) ∙ ap (λ (o : Outcome). o.bits) left.same

-- A column, then the rest --------------------------------------------------------------------------------------------

column_then : (t : ClauseSet) (bs : List ℕ) (cs : List (List ℕ)) (r : ℕ) (rest : EncodedBits) {v : ℕ} {u : ClauseSet} → Wrote t v cs u
    → then u (bs ++ (r ∷ [])) rest ≡ then t bs (joined cs r rest)
column_then t bs cs r rest {u = u} w =
    λ i. record {
      stores = (ap (λ b. add_clauses b rest.clauses (stores_of u)) w.same_base ∙ ap (add_clauses t.base rest.clauses) w.stores_are
          ∙ sym (add_append t.base cs rest.clauses (stores_of t))) i;
      bits = append_assoc bs (r ∷ []) rest.bits i;
      vars = rest.vars;
    }

module _ {own : List Lit} {bit : ℕ} {given : Option Lit} {t : ClauseSet} {s : AdderState} {u : ClauseSet} {r : AdderState} (a : ColumnAdded own bit given t s u r) where
  abbrev col : AdderColumn
  col = record { own = map num own; constant = bit }

  abbrev v : ℕ
  v = t.vars + carry_count own bit given s

  pub adder_turn : {t₀ : ClauseSet} {b₀ : List ℕ} {all : EncodedBits} (rs : List ℕ) → result rs v ≡ (result_lit given v).0 → result_vars rs v ≡ result_count given v
      → (more : List ℕ → ℕ → EncodedBits)
      → AdderLeft t₀ b₀ all t (bits_of s.bits) (add_column col (range_lits s.carry) (carry_size col (range_lits s.carry)) rs t.vars more)
      → AdderLeft t₀ b₀ all u (bits_of r.bits) (more (range_lits r.carry) u.vars)
  adder_turn rs p q more left =
      let carry : List ℕ = range_lits s.carry in
      let n : ℕ = carry_count own bit given s in
      let size : carry_size col carry ≡ n = rw (length-map own num, length_fresh s.carry.count s.carry.first.0) in
      let bs = bits_of s.bits in
      let cs = column col.own carry bit (fresh n t.vars) in
      let w = a.wrote in
      record {
        same_lits = w.same_lits ∙ left.same_lits;
        same_ends = w.same_ends ∙ left.same_ends;
        same_base = w.same_base ∙ left.same_base;
        same = (λ i. then u (a.bits i) (more (range_lits (a.carry i)) (w.vars_are i)))
            ∙ column_then t bs (cs (result_lit given v).0) (result_lit given v).0 (more (fresh n t.vars) (result_count given v)) w
            ∙ (λ i. then t bs (joined (cs (sym p i)) (sym p i) (more (fresh n t.vars) (sym q i))))
            ∙ (λ i. then t bs (add_column col carry (sym size i) rs t.vars more))
            ∙ left.same;
      }

-- The columns --------------------------------------------------------------------------------------------------

module _ (cols : List (List Lit)) (counts : List ℕ) where
  pub adder_step : (w i k : ℕ) (carry rs : List ℕ) (v : ℕ) → 0 < w
      → let col : AdderColumn = record { own = map num (take (get_or counts i 0) (get_or cols i [])); constant = k % 2 } in
      adder (input_columns w i cols counts k) carry rs v
      ≡ add_column col carry (carry_size col carry) rs v (λ next x. adder (input_columns (w - 1) (i + 1) cols counts (k / 2)) next (tail rs) x)
  adder_step zero i k carry rs v h = absurd (not-suc-le-zero h)
  adder_step (suc w) i k carry rs v h = rw (sub-one (suc w))

  pub adder_end : (w i k : ℕ) (p : VarRange) (rs : List ℕ) (v : ℕ) → w ≤ 0 → adder (input_columns w i cols counts k) (range_lits p) rs v ≡ extend p.count (range_lits p) v
  adder_end zero i k p rs v h = ap (λ (f : ℕ). extend f (range_lits p) v) (length_fresh p.count p.first.0)
  adder_end (suc w) i k p rs v h = absurd (not-suc-le-zero h)

-- The results that are given -----------------------------------------------------------------------------------------

-- the one at place i, if there is one
pub given_at : (given : List Lit) (i v : ℕ)
    → (result (drop i (map num given)) v ≡ (result_lit (slice_get given i) v).0) × (result_vars (drop i (map num given)) v ≡ result_count (slice_get given i) v)
given_at [] zero v = (refl, refl)
given_at [] (suc i) v = (refl, refl)
given_at (l ∷ ls) zero v = (refl, refl)
given_at (l ∷ ls) (suc i) v = given_at ls i v

pub given_tail : (given : List ℕ) (i : ℕ) → tail (drop i given) ≡ drop (suc i) given
given_tail [] zero = refl
given_tail [] (suc i) = refl
given_tail (l ∷ ls) zero = refl
given_tail (l ∷ ls) (suc i) = given_tail ls i

-- Past the columns ---------------------------------------------------------------------------------------------

pub extend_step : (f : ℕ) (p : VarRange) (v : ℕ) → 0 < f → 0 < p.count
    → extend f (range_lits p) v ≡ add_column empty_column (range_lits p) (carry_size empty_column (range_lits p)) [] v (λ next x. extend (f - 1) next x)
extend_step f p v z h = go f p.count z h where
  go : (f n : ℕ) → 0 < f → 0 < n
      → extend f (fresh n p.first.0) v ≡ add_column empty_column (fresh n p.first.0) (carry_size empty_column (fresh n p.first.0)) [] v (λ next x. extend (f - 1) next x)
  go zero n z h = absurd (not-suc-le-zero z)
  go (suc f) zero z h = absurd (not-suc-le-zero h)
  go (suc f) (suc n) z h = rw (sub-one (suc f))

pub extend_end : (f : ℕ) (p : VarRange) (v : ℕ) → p.count ≤ 0 → extend f (range_lits p) v ≡ no_more_columns v
extend_end f p v h = go f p.count h where
  go : (f n : ℕ) → n ≤ 0 → extend f (fresh n p.first.0) v ≡ no_more_columns v
  go zero n h = refl
  go (suc f) zero h = refl
  go (suc f) (suc n) h = absurd (not-suc-le-zero h)
