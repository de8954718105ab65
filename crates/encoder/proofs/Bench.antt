-- The bench values: one test, computed over the whole table (`bench_test`), and a lemma that gives each row's statement
-- (`row_holds`); together `bench_holds`.
use Prim.Native.Nat.{◌<◌, suc, zero, ℕ}
use lib.Dec.{eqb}
use lib.ListN.{get_or, length}
use mathlib.Core.Bool.{So, and-eq-true_iff, not}
use mathlib.Core.List.{List, [], ◌∷◌}
use mathlib.Core.Path.{◌≡◌, ap₂, refl}
use native.Mathlib.Omega.{arith}
use borrow.Author.Tests.{eqb-true, not-true}
use Rattle.arithmetic.specs.Integers.{down, up}
use Rattle.arithmetic.proofs.Integers.{same_read}
use Rattle.arithmetic.proofs.Tests.{never}
use Rattle.sat.specs.Clause.{Clauses, holds, sat}
use Rattle.sat.specs.Lit.{neg}
use Rattle.log_encoding.specs.Enumerate.{bounded, enumerate}
use Rattle.log_encoding.specs.Adder2.{eq_column}
use Rattle.log_encoding.specs.Column.{column}
use Rattle.clause_set.specs.Stores.{add_clause}
use Rattle.log_var.specs.Record.{pad}
use Rattle.encoder_env.specs.WellFormed.{all_below, bounds_hold, encoding_at, encoding_holds, eqz, is_spare, lez, record_holds, stores_within, well_formed}
use Rattle.encoder.specs.Bench.{Barred, Row, RowHolds, all_barred, bench, outcome_of, row_test, same_lits, setting, stored, sum, table_test}

bench_test : So (table_test bench)
unfolding neg holds column eq_column enumerate bounded add_clause pad well_formed stores_within all_below record_holds is_spare encoding_holds bounds_hold lez eqz
bench_test = refl

same_lits_are : (xs ys : List ℕ) → So (same_lits xs ys) → xs ≡ ys
same_lits_are [] [] h = refl
same_lits_are [] (y ∷ ys) h = never h
same_lits_are (x ∷ xs) [] h = never h
same_lits_are (x ∷ xs) (y ∷ ys) h =
    let (p, q) = (and-eq-true_iff (eqb x y) (same_lits xs ys)).0 h in
    ap₂ (λ z zs. z ∷ zs) (eqb-true x y p) (same_lits_are xs ys q)

all_barred_are : (cs : Clauses) (ks : List ℕ) → So (all_barred cs ks) → Barred cs ks
all_barred_are cs [] h = tt
all_barred_are cs (k ∷ ks) h = let (p, q) = (and-eq-true_iff (not (sat _ cs)) (all_barred cs ks)).0 h in (not-true _ p, all_barred_are cs ks q)

-- a row's statement, from its test
row_holds : (r : Row) → So (row_test r) → RowHolds r
row_holds (setting r) h =
    let o = (encoding_at (outcome_of r).env 0).offset in
    let (z, h₀) = (and-eq-true_iff _ _).0 h in
    let (a, h₁) = (and-eq-true_iff _ _).0 h₀ in
    let (b, h₂) = (and-eq-true_iff _ _).0 h₁ in
    let (c, h₃) = (and-eq-true_iff _ _).0 h₂ in
    let (d, h₄) = (and-eq-true_iff _ _).0 h₃ in
    let (e, h₅) = (and-eq-true_iff _ _).0 h₄ in
    let (f, g) = (and-eq-true_iff _ _).0 h₅ in
    record {
      accepted = eqb-true _ _ z;
      lits_are = same_lits_are _ _ a;
      offset_is = (same_read o r.offset).1 (omega (arith, eqb-true (up o) (up r.offset) b, eqb-true (down o) (down r.offset) c));
      vars_are = eqb-true _ _ d;
      clauses_are = eqb-true _ _ e;
      literals_are = eqb-true _ _ f;
      barred_are = all_barred_are (stored (outcome_of r)) r.barred g;
    }
row_holds (sum r) h =
    let (z, h₀) = (and-eq-true_iff _ _).0 h in
    let (a, h₁) = (and-eq-true_iff _ _).0 h₀ in
    let (b, c) = (and-eq-true_iff _ _).0 h₁ in
    record { accepted = eqb-true _ _ z; vars_are = eqb-true _ _ a; clauses_are = eqb-true _ _ b; literals_are = eqb-true _ _ c }

every_row : (rows : List Row) (d : Row) → So (table_test rows) → (i : ℕ) → i < length rows → RowHolds (get_or rows i d)
every_row [] d h i b = absurd (omega arith)
every_row (r ∷ rows) d h zero b = row_holds r ((and-eq-true_iff (row_test r) (table_test rows)).0 h).0
every_row (r ∷ rows) d h (suc i) b = every_row rows d ((and-eq-true_iff (row_test r) (table_test rows)).0 h).1 i (omega arith)

-- every row of the table holds
pub bench_holds : (d : Row) (i : ℕ) → i < length bench → RowHolds (get_or bench i d)
bench_holds d i b = every_row bench d bench_test i b
