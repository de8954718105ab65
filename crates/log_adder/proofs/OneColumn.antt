-- One column of the adder: what it leaves.
use mathlib.Core.Path.{◌≡◌, ap, refl, ◌∙◌}
use mathlib.Core.List.{List, [], ◌∷◌, map, map-append}
use Prim.Native.Nat.{ℕ, ◌+◌, ◌≤◌, suc}
use native.Mathlib.Numerals.{add-one}
use native.Mathlib.Omega.{arith}
use lib.ListN.{take, set, length-map, length-set}
use lib.Seq.{take-suc-set}
use Rattle.std.specs.Prelude.{Option, None, Some}
use Rattle.sat.specs.declared.Lit.{Lit}
use Rattle.sat.specs.LitArray.{num}
use Rattle.sat.proofs.Fresh.{length_fresh}
use Rattle.clause_set.specs.declared.ClauseSet.{ClauseSet}
use Rattle.clause_set.specs.Stores.{Wrote}
use Rattle.clause_set.proofs.Writing.{wrote_as, wrote_clauses, wrote_lits}
use Rattle.log_encoding.specs.Column.{column}
use Rattle.log_encoding.proofs.ColumnMost.{Most, column_most}
use Rattle.log_adder.specs.declared.AdderState.{AdderState}
use Rattle.log_adder.specs.ColumnInfo.{range_lits}
use Rattle.log_adder.specs.AdderState.{ColumnAdded, ColumnReady, InBounds, carry_count, column_result, next_carry, result_count}

few_new : (g : Option Lit) (v : ℕ) → (v ≤ result_count g v) × (result_count g v ≤ suc v)
few_new None v = (omega arith, omega arith)
few_new (Some l) v = (omega arith, omega arith)

module _ {own : List Lit} {bit : ℕ} {given : Option Lit} {t : ClauseSet} {s : AdderState} (z : InBounds t s) (y : ColumnReady own bit given s) where
  abbrev n : ℕ
  n = carry_count own bit given s

  abbrev clauses : Lit → List (List ℕ)
  clauses l = column (map num own) (range_lits s.carry) bit (range_lits (next_carry own bit given t s)) l.0

  size : (l : Lit) → Most (clauses l)
  size l =
      column_most (map num own) (range_lits s.carry) (range_lits (next_carry own bit given t s))
      (omega (arith, y.high, length-map own num, length_fresh s.carry.count s.carry.first.0))
      (omega (arith, y, length_fresh n t.vars)) bit l.0

  pub column_added : (l : Lit) → l ≡ column_result own bit given t s → {u : ClauseSet} → Wrote t (result_count given (t.vars + n)) (clauses l) u
      → ColumnAdded own bit given t s u
      (record { bits = record { lits = set s.bits.lits s.bits.len l; len = s.bits.len + 1 }; carry = next_carry own bit given t s })
  column_added l is {u = u} w =
      let m = size l in
      let f = few_new given (t.vars + n) in
      record {
        wrote = wrote_as w refl (ap clauses is);
        bits = rw (add-one s.bits.len, take-suc-set s.bits.lits s.bits.len l (omega (arith, y, z)), map-append num (take s.bits.len s.bits.lits) (l ∷ []), is);
        carry = refl;
        len = refl;
        steady =
            record {
              long = length-set s.bits.lits s.bits.len l ∙ z.long;
              vars = omega (arith, y, z, f, w.vars_are);
              carry = omega (arith, f, w.vars_are);
              few = omega (arith, y);
              lits = omega (arith, z, m, wrote_lits w, w.same_base);
              clauses = omega (arith, z, m, wrote_clauses w);
            };
      }
