-- The and-gates of a product, row by row, as the code adds them.
use mathlib.Core.Path.{◌≡◌, refl, ap, sym, ◌∙◌}
use mathlib.Core.List.{List, [], ◌∷◌, ◌++◌, map}
use Prim.Native.Nat.{ℕ, suc, ◌+◌, ◌*◌, ◌≤◌, ◌<◌}
use native.Mathlib.Nat.{mul-le-mul, mul-suc}
use native.Mathlib.Numerals.{add-one}
use native.Mathlib.Omega.{arith}
use lib.ListN.{length, drop, get_or, drop_of_length-le, length-append, length-map}
use Rattle.sat.specs.LitArray.{lit, num}
use Rattle.sat.specs.Size.{entries}
use Rattle.sat.proofs.Size.{entries_append}
use Rattle.sat.specs.declared.Lit.{Lit}
use Rattle.clause_set.specs.declared.ClauseSet.{ClauseSet}
use Rattle.clause_set.specs.Stores.{Below, Wrote}
use Rattle.clause_set.proofs.Writing.{Left, left_as, left_end, left_start, left_turn, wrote_as, wrote_clauses, wrote_lits}
use Rattle.log_linear.proofs.Comparing.{nums_next}
use Rattle.log_mul.specs.Added.{RowsWritten}
use Rattle.log_encoding.specs.Multiply.{and_gate, row, rows, rows_vars}

-- One row ------------------------------------------------------------------------------------------------------------

-- how much a row adds
pub row_size : (x : ℕ) (ys : List ℕ) (v : ℕ) → (entries (row x ys v) ≡ 7 * length ys) × (length (row x ys v) ≡ 3 * length ys)
row_size x [] v = (refl, refl)
row_size x (y ∷ ys) v = let r = row_size x ys (suc v) in (omega arith, omega arith)

module _ (x : ℕ) (lits : List Lit) where
  abbrev ys : List ℕ
  ys = map num lits

  -- j gates are there, in j new variables
  pub record RowLeft (s t : ClauseSet) (j : ℕ) : Type 0 where
    pub left : Left s (row x ys s.vars) t (row x (drop j ys) t.vars)
    pub vars : t.vars ≡ s.vars + j
    pub lits_used : t.used.lits ≡ s.used.lits + 7 * j
    pub clauses_used : t.used.clauses ≡ s.used.clauses + 3 * j

  pub row_start : (s : ClauseSet) → length lits ≤ 12 → Below 1073741825 s → RowLeft s s 0
  row_start s h b =
      let z = row_size x ys s.vars in
      let n = length-map lits num in
      record {
        left = left_start s (row x ys s.vars) (record { lits = omega arith; clauses = omega arith });
        vars = omega arith;
        lits_used = omega arith;
        clauses_used = omega arith;
      }

  module _ {s t : ClauseSet} {j : ℕ} (l : RowLeft s t j) where
    pub row_turn : {u : ClauseSet} (m y : ℕ) → j < length lits → m ≡ 2 * t.vars → y ≡ (get_or lits j (lit 0)).0
        → Wrote t (t.vars + 1) (and_gate m x y) u → RowLeft s u (j + 1)
    row_turn {u} m y h p q w =
        let split : row x (drop j ys) t.vars ≡ and_gate m x y ++ row x (drop (j + 1) ys) u.vars =
        ap (λ (zs : List ℕ). row x zs t.vars) (nums_next lits j h)
        ∙ (λ i. and_gate (sym p i) x (sym q i) ++ row x (drop (j + 1) ys) ((sym (add-one t.vars) ∙ sym w.vars_are) i)) in
        record {
          left = left_turn _ _ (left_as l.left split) w;
          vars = omega (arith, l.vars, w.vars_are);
          lits_used = omega (arith, l.lits_used, wrote_lits w);
          clauses_used = omega (arith, l.clauses_used, wrote_clauses w);
        }

    pub row_end : length lits ≤ j → j ≤ length lits → Wrote s (s.vars + length lits) (row x ys s.vars) t
    row_end h k =
        let none = drop_of_length-le ys {i = j} (omega (arith, length-map lits num)) in
        wrote_as (left_end (left_as l.left (ap (λ (zs : List ℕ). row x zs t.vars) none))) (omega (arith, l.vars)) refl

-- at most 12 rows of at most 12 gates
pub gates_most : (y i : ℕ) → i ≤ 12 → y ≤ 12 → y * i ≤ 144
gates_most y i h k = let z : y * i ≤ 12 * 12 = mul-le-mul k h in omega arith

-- All rows -----------------------------------------------------------------------------------------------------------

-- how much they add
rows_size : (xs ys : List ℕ) (v : ℕ) → (entries (rows xs ys v) ≡ 7 * (length ys * length xs)) × (length (rows xs ys v) ≡ 3 * (length ys * length xs))
rows_size [] ys v = (omega arith, omega arith)
rows_size (x ∷ xs) ys v =
    let z = row_size x ys v in
    let r = rows_size xs ys (v + length ys) in
    let more : length ys * suc (length xs) ≡ length ys + length ys * length xs = rw mul-suc (omega arith) in (
      omega (arith, entries_append (row x ys v) (rows xs ys (v + length ys))),
      omega (arith, length-append (row x ys v) (rows xs ys (v + length ys))),
    )

module _ (lits others : List Lit) where
  abbrev xs : List ℕ
  xs = map num lits

  abbrev zs : List ℕ
  zs = map num others

  -- i rows are there
  pub record RowsLeft (s t : ClauseSet) (i : ℕ) : Type 0 where
    pub left : Left s (rows xs zs s.vars) t (rows (drop i xs) zs t.vars)
    pub same_vars : rows_vars xs zs s.vars ≡ rows_vars (drop i xs) zs t.vars
    pub vars : t.vars ≡ s.vars + length others * i
    pub lits_used : t.used.lits ≡ s.used.lits + 7 * (length others * i)
    pub clauses_used : t.used.clauses ≡ s.used.clauses + 3 * (length others * i)

  pub rows_start : (s : ClauseSet) → length lits ≤ 12 → length others ≤ 12 → Below 536870913 s → RowsLeft s s 0
  rows_start s h k b =
      let z = rows_size xs zs s.vars in
      let n = length-map lits num in
      let m = length-map others num in
      let g = gates_most (length zs) (length xs) (omega arith) (omega arith) in
      record {
        left = left_start s (rows xs zs s.vars) (record { lits = omega (arith, z, g); clauses = omega (arith, z, g) });
        same_vars = refl;
        vars = omega arith;
        lits_used = omega arith;
        clauses_used = omega arith;
      }

  module _ {s t : ClauseSet} {i : ℕ} (l : RowsLeft s t i) where
    pub rows_turn : {u : ClauseSet} (x : ℕ) → i < length lits → x ≡ (get_or lits i (lit 0)).0
        → Wrote t (t.vars + length others) (row x zs t.vars) u → RowsLeft s u (i + 1)
    rows_turn {u} x h q w =
        let f = nums_next lits i h in
        let n = length-map others num in
        let v : t.vars + length zs ≡ u.vars = ap (λ k. t.vars + k) n ∙ sym w.vars_are in
        let split : rows (drop i xs) zs t.vars ≡ row x zs t.vars ++ rows (drop (i + 1) xs) zs u.vars =
        ap (λ (ys : List ℕ). rows ys zs t.vars) f ∙ (λ j. row (sym q j) zs t.vars ++ rows (drop (i + 1) xs) zs (v j)) in
        let more : length others * (i + 1) ≡ length others * i + length others = omega arith in
        let r = row_size x zs t.vars in
        record {
          left = left_turn _ _ (left_as l.left split) w;
          same_vars = l.same_vars ∙ ap (λ (ys : List ℕ). rows_vars ys zs t.vars) f ∙ ap (λ (k : ℕ). rows_vars (drop (i + 1) xs) zs k) v;
          vars = omega (arith, l.vars, w.vars_are);
          lits_used = omega (arith, l.lits_used, wrote_lits w, r, n);
          clauses_used = omega (arith, l.clauses_used, wrote_clauses w, r, n);
        }

    pub rows_end : length lits ≤ i → i ≤ length lits → length lits ≤ 12 → length others ≤ 12 → RowsWritten s xs zs t
    rows_end h k few small =
        let none = drop_of_length-le xs {i = i} (omega (arith, length-map lits num)) in
        let z = gates_most (length others) i (omega arith) small in
        record {
          wrote = wrote_as (left_end (left_as l.left (ap (λ (ys : List ℕ). rows ys zs t.vars) none))) (sym (l.same_vars ∙ ap (λ (ys : List ℕ). rows_vars ys zs t.vars) none)) refl;
          few_vars = omega (arith, l.vars);
          few_lits = omega (arith, l.lits_used);
          few_clauses = omega (arith, l.clauses_used);
        }
