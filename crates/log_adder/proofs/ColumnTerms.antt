-- The terms of a column as the code holds them are those of the definition, and fit into a table; how many clauses they have.
use mathlib.Core.Path.{◌≡◌, refl, ap, ap₂, sym, ◌∙◌}
use mathlib.Core.Bool.{Bool, cond, true, false}
use mathlib.Core.List.{List, [], ◌∷◌, ◌++◌, map, append_assoc, map-append}
use Prim.Native.Nat.{ℕ, zero, suc, ◌+◌, ◌-◌, ◌*◌, ◌^◌, ◌≤◌, ◌<◌}
use native.Mathlib.Nat.{sub-zero}
use native.Mathlib.Omega.{arith}
use borrow.Author.Tests.{le-leb, leb-false, leb-true, lt-leb}
use lib.Dec.{leb}
use lib.ListN.{length, length-map}
use Rattle.sat.specs.declared.Lit.{Lit}
use Rattle.mixed.specs.declared.LinearInfo.{LinearInfo}
use Rattle.log_adder.specs.declared.VarRange.{VarRange}
use Rattle.log_adder.specs.declared.ColumnInfo.{ColumnInfo}
use Rattle.sat.specs.Lit.{neg}
use Rattle.log_encoding.specs.Terms.{Term, flip, singles, term}
use Rattle.log_encoding.specs.Enumerate.{bounded, enumerate}
use Rattle.mixed.specs.Infos.{InTable, equated, info_lit, info_term, last_loss, loss, negated_info, thresholds, thresholds_before}
use Rattle.mixed.proofs.Infos.{before_more, last_append}
use Rattle.sat.proofs.Fresh.{fresh_last, length_fresh}
use Rattle.log_encoding.proofs.Flip.{flip_snoc}
use Rattle.log_encoding.specs.Adder2.{eq_column, eq_ge_terms, eq_le_terms}
use Rattle.log_encoding.specs.Column.{column, ge_terms, le_terms}
use Rattle.sat.specs.Fresh.{fresh}
use Rattle.log_adder.specs.ColumnInfo.{ColumnSized, column_clauses, column_infos, eq_infos, lit_info, own_lits, range_info, range_lits}
use Rattle.sat.specs.LitArray.{num}
use Rattle.log_encoding.proofs.ColumnMost.{Most, column_most, eq_column_most}

-- The thresholds of consecutive variables ---------------------------------------------------------------------------

range_thresholds : (w : ℕ) (p : VarRange) (k : ℕ) → k ≤ p.count → thresholds (range_info w false p) k ≡ fresh k (p.first.0 + (p.count - k))
unfolding info_lit
range_thresholds w p zero h = refl
range_thresholds w p (suc k) h =
    let r = range_thresholds w p k (omega arith) in
    let x : 2 * p.first.0 + 2 * (p.count - suc k) ≡ 2 * (p.first.0 + (p.count - suc k)) = omega arith in
    let y : p.first.0 + (p.count - k) ≡ suc (p.first.0 + (p.count - suc k)) = omega arith in
    ap (λ (z : ℕ). z ∷ thresholds (range_info w false p) k) x ∙ ap (λ (l : List ℕ). 2 * (p.first.0 + (p.count - suc k)) ∷ l) (r ∙ ap (fresh k) y)

range_thresholds_flipped : (w : ℕ) (p : VarRange) (k : ℕ) → k ≤ p.count → thresholds (range_info w true p) k ≡ flip (fresh k p.first.0)
unfolding info_lit
range_thresholds_flipped w p zero h = refl
range_thresholds_flipped w p (suc k) h =
    let r = range_thresholds_flipped w p k (omega arith) in
    let x : 2 * p.first.0 + 2 * (p.count - 1 - (p.count - suc k)) ≡ 2 * (p.first.0 + k) = omega arith in
    ap (λ (z : ℕ). neg z ∷ thresholds (range_info w true p) k) x ∙ ap (λ (l : List ℕ). neg (2 * (p.first.0 + k)) ∷ l) r
    ∙ sym (ap flip (fresh_last k p.first.0) ∙ flip_snoc (fresh k p.first.0) (2 * (p.first.0 + k)))

range_term : (w : ℕ) (p : VarRange) → info_term (range_info w false p) ≡ term w (range_lits p)
range_term w p = ap (term w) (range_thresholds w p p.count (omega arith) ∙ ap (fresh p.count) (omega arith))

range_term_flipped : (w : ℕ) (p : VarRange) → info_term (range_info w true p) ≡ term w (flip (range_lits p))
range_term_flipped w p = ap (term w) (range_thresholds_flipped w p p.count (omega arith))

lit_term : (l : Lit) → info_term (lit_info false l) ≡ term 1 (l.0 ∷ [])
unfolding info_lit
lit_term l = ap (λ (x : ℕ). term 1 (x ∷ [])) (omega arith)

lit_term_negated : (l : Lit) → info_term (lit_info true l) ≡ term 1 (neg l.0 ∷ [])
unfolding info_lit
lit_term_negated l = ap (λ (x : ℕ). term 1 (neg x ∷ [])) (omega arith)

-- The terms of a column ----------------------------------------------------------------------------------------------

lit_terms : (ls : List Lit) (ts : List LinearInfo) → map info_term (map (lit_info false) ls ++ ts) ≡ singles (map num ls) ++ map info_term ts
lit_terms [] ts = refl
lit_terms (l ∷ ls) ts = rw (lit_term l, lit_terms ls ts)

lit_terms_negated : (ls : List Lit) (ts : List LinearInfo)
    → map info_term (map negated_info (map (lit_info false) ls ++ ts)) ≡ singles (map neg (map num ls)) ++ map info_term (map negated_info ts)
lit_terms_negated [] ts = refl
lit_terms_negated (l ∷ ls) ts = rw (lit_term_negated l, lit_terms_negated ls ts)

module _ (c : ColumnInfo) where
  abbrev own· : List Lit
  own· = c.own.now

  eq_ge_terms_are : map info_term (eq_infos c) ≡ eq_ge_terms (own_lits c) (range_lits c.carry) (range_lits c.next)
  eq_ge_terms_are = lit_terms own· _ ∙ rw (range_term 1 c.carry, range_term_flipped 2 c.next)

  eq_le_terms_are : map info_term (map negated_info (eq_infos c)) ≡ eq_le_terms (own_lits c) (range_lits c.carry) (range_lits c.next)
  eq_le_terms_are = lit_terms_negated own· _ ∙ rw (range_term_flipped 1 c.carry, range_term 2 c.next)

  ge_terms_are : map info_term (column_infos c) ≡ ge_terms (own_lits c) (range_lits c.carry) (range_lits c.next) c.result.0
  ge_terms_are =
      map-append info_term (eq_infos c) (lit_info true c.result ∷ []) ∙ rw (eq_ge_terms_are, lit_term_negated c.result) (append_assoc (singles (own_lits c)) _ _)

  le_terms_are : map info_term (map negated_info (column_infos c)) ≡ le_terms (own_lits c) (range_lits c.carry) (range_lits c.next) c.result.0
  le_terms_are =
      ap (map info_term) (map-append negated_info (eq_infos c) (lit_info true c.result ∷ []))
      ∙ map-append info_term (map negated_info (eq_infos c)) (lit_info false c.result ∷ [])
      ∙ rw (eq_le_terms_are, lit_term c.result) (append_assoc (singles (map neg (own_lits c))) _ _)

-- single literals before other terms
own_more : (ls : List Lit) (u : LinearInfo) (us : List LinearInfo)
    → (let ts = map (lit_info false) ls ++ (u ∷ us) in
    (thresholds_before ts ≡ length ls + thresholds_before (u ∷ us)) × (loss ts ≡ length ls + loss (u ∷ us)))
unfolding loss
own_more [] u us = (omega arith, omega arith)
own_more (l ∷ ls) u us =
    let r = own_more ls u us in
    (omega (arith, before_more (lit_info false l) (map (lit_info false) ls) u us, r.0), omega (arith, r.1))

-- The two inequalities -----------------------------------------------------------------------------------------------

leb_shift : (a b k : ℕ) → leb (b + k) (a + k) ≡ leb b a
leb_shift a b k = go (leb b a) refl
  where
    go : (t : Bool) → leb b a ≡ t → leb (b + k) (a + k) ≡ t
    go true e = let h : b ≤ a = leb-true b a e in le-leb (b + k) (a + k) (omega arith)
    go false e = let h : a < b = leb-false b a e in lt-leb (b + k) (a + k) (omega arith)

-- moved up alike, they leave the same slack
bounded_shift : (ts : List Term) (a b k : ℕ) → bounded ts (a + k) (b + k) ≡ bounded ts a b
unfolding bounded
bounded_shift ts a b k = ap₂ (λ (t : Bool) (s : ℕ). cond t (enumerate ts s []) ([] ∷ [])) (leb_shift a b k) (omega arith)

-- document 01's height
abbrev pub column_height : ColumnInfo → ℕ
column_height c = length c.own.now + c.carry.count

module _ (c : ColumnInfo) (z : ColumnSized c) where
  own_length : length (own_lits c) ≡ length c.own.now
  own_length = rw length-map

  -- what the terms can lose, without the result's
  abbrev lost : ℕ
  lost = column_height c + 2 * c.next.count

  pub eq_column_equated : (x y : ℕ) → eq_column (own_lits c) (range_lits c.carry) x (range_lits c.next) y ≡ equated (eq_infos c) (x + column_height c) y lost
  unfolding eq_column
  eq_column_equated x y =
      let above : x + length c.own.now + c.carry.count ≡ x + column_height c = omega arith in
      let more : y + lost ≡ y + 2 * c.next.count + column_height c = omega arith in
      rw (own_length, length_fresh c.carry.count c.carry.first.0, length_fresh c.next.count c.next.first.0, eq_ge_terms_are c, eq_le_terms_are c, above, more, bounded_shift _ (y + 2 * c.next.count) x (column_height c))

  pub column_equated : column_clauses c ≡ equated (column_infos c) (c.bit + column_height c) 0 (lost + 1)
  unfolding column bounded
  column_equated =
      let above : c.bit + length c.own.now + c.carry.count ≡ c.bit + column_height c = omega arith in
      let slack : 2 * c.next.count + 1 - c.bit ≡ 0 + (lost + 1) - (c.bit + column_height c) = omega arith in
      let fits : c.bit + column_height c ≤ 0 + (lost + 1) = omega (arith, z) in
      rw (own_length, length_fresh c.carry.count c.carry.first.0, length_fresh c.next.count c.next.first.0, ge_terms_are c, le_terms_are c, above, slack, le-leb 0 (c.bit + column_height c) (omega arith), le-leb (c.bit + column_height c) (0 + (lost + 1)) fits, sub-zero)

  -- own literals before other terms fit into a table
  own_in_table : (u : LinearInfo) (us : List LinearInfo) → thresholds_before (u ∷ us) + length c.own.now < 24 → last_loss (u ∷ us) ≤ 24
      → loss (u ∷ us) + length c.own.now < 2 ^ 32 → InTable (map (lit_info false) (own· c) ++ (u ∷ us))
  own_in_table u us f l a =
      let r = own_more (own· c) u us in
      record {
        few = omega (arith, r.0, f);
        last = omega (arith, last_append (map (lit_info false) (own· c)) u us, l);
        all = omega (arith, r.1, a);
      }

  pub eq_in_table : InTable (eq_infos c)
  unfolding thresholds_before last_loss loss
  eq_in_table =
      own_in_table (range_info 1 false c.carry) (range_info 2 true c.next ∷ []) (omega (arith, z)) (omega (arith, z)) (omega (arith, z))

  pub column_in_table : InTable (column_infos c)
  unfolding thresholds_before last_loss loss
  column_in_table =
      let more : List LinearInfo = lit_info true c.result ∷ [] in
      rw (append_assoc (map (lit_info false) (own· c)) (range_info 1 false c.carry ∷ range_info 2 true c.next ∷ []) more)
      (own_in_table (range_info 1 false c.carry) (range_info 2 true c.next ∷ more) (omega (arith, z)) (omega (arith, z)) (omega (arith, z)))

  own_few : length (own_lits c) + length (range_lits c.carry) ≤ 12
  own_few = rw (own_length, length_fresh c.carry.count c.carry.first.0) (omega (arith, z))

  next_few : length (range_lits c.next) ≤ 6
  next_few = rw (length_fresh c.next.count c.next.first.0) (omega (arith, z))

  pub column_size : Most (column_clauses c)
  column_size = column_most (own_lits c) (range_lits c.carry) (range_lits c.next) own_few next_few c.bit c.result.0

  pub eq_column_size : (x y : ℕ) → Most (eq_column (own_lits c) (range_lits c.carry) x (range_lits c.next) y)
  eq_column_size = eq_column_most (own_lits c) (range_lits c.carry) (range_lits c.next) own_few next_few
