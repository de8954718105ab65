-- What a writer counts where nothing is lent; the columns walked are within bounds.
use Prim.Native.Nat.{◌+◌, ◌/◌, ◌≤◌, suc, zero, ℕ}
use lib.Dec.{lit<}
use lib.ListN.{length, length-map, replicate, take}
use lib.Seq.{length-take-le}
use mathlib.Core.Path.{◌∙◌, ◌≡◌, ap, sym}
use native.Mathlib.Omega.{arith}
use Rattle.sat.specs.Clause.{Clauses}
use Rattle.sat.specs.LitArray.{lit, num}
use Rattle.sat.specs.Size.{entries, weight_of}
use Rattle.sat.proofs.Fresh.{length_fresh}
use Rattle.sat.proofs.Size.{weight_entries, weight_length}
use Rattle.clause_set.specs.Stores.{Added, Wrote}
use Rattle.clause_set.specs.declared.ClauseSet.{ClauseSet}
use Rattle.clause_set.specs.declared.Counts.{Counts}
use Rattle.clause_set.proofs.Writing.{wrote_clauses, wrote_lits}
use Rattle.log_adder.specs.declared.ColumnInfo.{ColumnInfo}
use Rattle.log_adder.specs.declared.VarRange.{VarRange}
use Rattle.log_adder.proofs.AdderLoops.{take_low}
use Rattle.log_encoding.specs.AdderSize.{column_count, eq_column_count}
use Rattle.log_encoding.proofs.AdderSize.{column_count_is, eq_column_count_is}
use Rattle.log_encoding.proofs.ColumnMost.{Most, column_most, eq_column_most}
use Rattle.log_adder.specs.ColumnInfo.{AllLow, ColumnSized, column_clauses, own_lits, range_lits}
use Rattle.log_adder2.specs.EqState.{eq_column_clauses}
use Rattle.column_walk.specs.Walked.{AnyColumn, Walked}

-- clauses added to an empty set
walked : (cs : Clauses) (count : (ℕ → ℕ) → ℕ) {s t : ClauseSet} {v : ℕ} → Wrote s v cs t → s.used ≡ record { clauses = 0; lits = 0 }
    → ((weigh : ℕ → ℕ) → weight_of weigh cs ≡ count weigh) → Most cs → Walked count t.used
walked cs count {s} {t} p none w most =
    let n : t.used.clauses ≡ length cs = omega (arith, wrote_clauses p, ap (λ (a : Counts). a.clauses) none) in
    let m : t.used.lits ≡ entries cs = omega (arith, wrote_lits p, ap (λ (a : Counts). a.lits) none) in
    record {
      clauses_are = n ∙ sym (weight_length cs) ∙ w (λ d. 1);
      lits_are = m ∙ sym (weight_entries cs) ∙ w (λ d. d);
      few_clauses = omega (arith, n, most.1);
      few_lits = omega (arith, m, most.0);
    }

zeros_low : (n : ℕ) → AllLow (replicate n (lit 0))
zeros_low zero k = lit< tt
zeros_low (suc n) zero = lit< tt
zeros_low (suc n) (suc k) = zeros_low n k

module _ (own carries bit next : ℕ) (h : own + carries ≤ 12) (few : next ≤ 6) (c : ColumnInfo) (a : AnyColumn (take own (replicate 12 (lit 0))) carries bit next c) where
  own_long : length c.own.now ≡ own
  own_long = ap length a.own_are ∙ length-take-le own (replicate 12 (lit 0)) (omega arith)

  carries_long : c.carry.count ≡ carries
  carries_long = ap (λ (p : VarRange). p.count) a.carry_is

  next_long : c.next.count ≡ next
  next_long = ap (λ (p : VarRange). p.count) a.next_is

  pub sized : bit ≤ 1 → ColumnSized c
  sized b =
      record {
        high = omega (arith, own_long, carries_long);
        next = omega (arith, next_long);
        bit = omega (arith, a.bit_is);
        first = rw a.carry_is (lit< tt);
        second = rw a.next_is (lit< tt);
        result = rw a.result_is (lit< tt);
        own = rw a.own_are (take_low own (replicate 12 (lit 0)) (zeros_low 12));
      }

  o : length (own_lits c) ≡ own
  o = length-map c.own.now num ∙ own_long

  i : length (range_lits c.carry) ≡ carries
  i = length_fresh c.carry.count c.carry.first.0 ∙ carries_long

  n : length (range_lits c.next) ≡ next
  n = length_fresh c.next.count c.next.first.0 ∙ next_long

  pub eq_column_walked : (x y : ℕ) {s t : ClauseSet} → Added s (eq_column_clauses c x y) t → s.used ≡ record { clauses = 0; lits = 0 }
      → Walked (λ weigh. eq_column_count weigh own carries x next y) t.used
  eq_column_walked x y p none =
      walked (eq_column_clauses c x y) (λ weigh. eq_column_count weigh own carries x next y) p none
      (λ weigh. eq_column_count_is weigh (own_lits c) (range_lits c.carry) (range_lits c.next) x y ∙ (λ j. eq_column_count weigh (o j) (i j) x (n j) y))
      (eq_column_most (own_lits c) (range_lits c.carry) (range_lits c.next) (omega (arith, o, i)) (omega (arith, n)) x y)

  pub column_walked : next ≡ (bit + own + carries) / 2 → {s t : ClauseSet} → Added s (column_clauses c) t → s.used ≡ record { clauses = 0; lits = 0 }
      → Walked (λ weigh. column_count weigh own carries bit) t.used
  column_walked q p none =
      let z : length (range_lits c.next) ≡ (c.bit + length (own_lits c) + length (range_lits c.carry)) / 2 = omega (arith, o, i, n, q, a.bit_is) in
      walked (column_clauses c) (λ weigh. column_count weigh own carries bit) p none
      (λ weigh. column_count_is weigh (own_lits c) (range_lits c.carry) (range_lits c.next) c.bit c.result.0 z ∙ (λ j. column_count weigh (o j) (i j) (a.bit_is j)))
      (column_most (own_lits c) (range_lits c.carry) (range_lits c.next) (omega (arith, o, i)) (omega (arith, n)) c.bit c.result.0)
