-- The adders write the clauses of the columns that they go through (`adder_adds`, `eq_adder_adds`; of sums and products `compared_adds`,
-- `eq_sum_adds`, `multiplier_adds`), and the columns reached, from numbers alone, are these (`adder_reached`, `eq_adder_reached`): of a
-- sum (`linear_log_columns`) and of a product (`mul_columns`).
use Prim.Native.Nat.{◌%◌, ◌+◌, ◌-◌, ◌/◌, suc, zero, ℕ}
use borrow.Author.Tests.{leb-false}
use lib.IntN.{ℤ}
use lib.ListN.{length}
use mathlib.Core.Bool.{Bool, cond, false, true}
use mathlib.Core.List.{List, [], ◌++◌, ◌∷◌, append-nil, map}
use mathlib.Core.Option.{Option, none, some}
use mathlib.Core.Path.{◌∙◌, ◌≡◌, ap, ap₂, refl, subst, sym}
use native.Mathlib.Omega.{arith}
use Rattle.arithmetic.specs.Integers.{down, up}
use Rattle.sat.specs.Clause.{Clauses}
use Rattle.sat.specs.Fresh.{fresh}
use Rattle.sat.proofs.Fresh.{length_fresh}
use Rattle.norm_csp.specs.NormOp.{NormOp, eq, ge, ne}
use Rattle.norm_csp.specs.Rules.{LinearTerm}
use Rattle.log_encoding.specs.LogEncoding.{LogEncoding}
use Rattle.log_encoding.specs.VarSize.{setting_shape}
use Rattle.log_encoding.specs.Column.{column}
use Rattle.log_encoding.specs.Adder.{AdderColumn, adder, carry_size, empty_column, extend, result, result_vars, tail}
use Rattle.log_encoding.specs.Adder2.{Adder2Output, EqColumn, LastColumn, NewCarry, adder2, column_answer, column_and_rest, eq_adder, eq_column, eq_columns, last_column, ordering, prepend, returned_set, unless_dead}
use Rattle.log_encoding.specs.Gather.{Grid, pad_columns, with_constant}
use Rattle.log_encoding.specs.AdderSize.{Reached, column_shape, eq_column_reached, eq_reached, has_carry, height, own_counts, reached, reached_column, reached_past}
use Rattle.log_encoding.specs.Linear.{Weighted, comparison, gather, gather_sign, linear_compared, linear_eq, negated_constant, sign_adder}
use Rattle.log_encoding.specs.LinearSize.{linear_log_reached, linear_reached, shape_of, sign_reached}
use Rattle.log_encoding.specs.Multiply.{multiplier, rows, rows_grid, rows_vars}
use Rattle.log_encoding.specs.MulSize.{mul_reached, multiplier_reached, no_offsets, offsets_reached}
use Rattle.log_encoding.specs.EncodeLinearLog.{offset_constant, weighted_terms}
use Rattle.log_encoding.specs.EncodeMulLog.{mul_constant, offset_terms}
use Rattle.log_encoding.specs.Columns.{AddedColumn, AdderAdds, EqAddedColumn, EqAdds, added_column, adder_columns, adder2_columns, column_then, columns_clauses, columns_returned, columns_sent, eq_adder_columns, eq_reached_of, eq_sum_columns, extend_columns, multiplier_columns, offsets_columns, product_columns, reached_of, sign_columns, sum_columns}
use Rattle.log_encoding.proofs.AdderSize.{pad_columns_shapes}
use Rattle.log_encoding.proofs.LinearSize.{gather_counts_are, gather_sign_counts, negated_bits_are, term_shapes_are, with_constant_shapes}
use Rattle.log_encoding.proofs.MulSize.{multiplier_size, offset_shapes_are, rows_grid_counts}

-- Ne, Ge and products -------------------------------------------------------------------------------------------------

extend_adds : (f : ℕ) (carry : List ℕ) (v : ℕ) → AdderAdds (extend f carry v) (extend_columns f carry v)
extend_adds zero carry v = record { clauses_are = refl; bits_are = refl }
extend_adds (suc f) [] v = record { clauses_are = refl; bits_are = refl }
extend_adds (suc f) (k ∷ ks) v =
    let n = carry_size empty_column (k ∷ ks) in
    let rest = extend_adds f (fresh n v) (result_vars [] (v + n)) in
    record {
      clauses_are = ap (λ (cs : Clauses). column [] (k ∷ ks) 0 (fresh n v) (result [] (v + n)) ++ cs) rest.clauses_are;
      bits_are = ap (λ (bs : List ℕ). result [] (v + n) ∷ bs) rest.bits_are;
    }

pub adder_adds : (cols : List AdderColumn) (carry rs : List ℕ) (v : ℕ) → AdderAdds (adder cols carry rs v) (adder_columns cols carry rs v)
adder_adds [] carry rs v = extend_adds (length carry) carry v
adder_adds (col ∷ cols) carry rs v =
    let n = carry_size col carry in
    let rest = adder_adds cols (fresh n v) (tail rs) (result_vars rs (v + n)) in
    record {
      clauses_are = ap (λ (cs : Clauses). column col.own carry col.constant (fresh n v) (result rs (v + n)) ++ cs) rest.clauses_are;
      bits_are = ap (λ (bs : List ℕ). result rs (v + n) ∷ bs) rest.bits_are;
    }

-- a column, and what follows it
column_reached : (col : AdderColumn) (carry rs : List ℕ) (v : ℕ) (more : List AddedColumn) (rest : ℕ → List Reached)
    → map reached_of more ≡ rest (length (fresh (carry_size col carry) v))
    → map reached_of (added_column col carry rs v ∷ more) ≡ (let r = reached_column (column_shape col) (length carry) in r ∷ rest r.next)
column_reached col carry rs v more rest e = rw (e, length_fresh (carry_size col carry) v) refl

extend_reached : (f : ℕ) (carry : List ℕ) (v : ℕ) → map reached_of (extend_columns f carry v) ≡ reached_past f (length carry)
extend_reached zero carry v = refl
extend_reached (suc f) [] v = refl
extend_reached (suc f) (k ∷ ks) v =
    let n = carry_size empty_column (k ∷ ks) in
    column_reached empty_column (k ∷ ks) [] v (extend_columns f (fresh n v) (result_vars [] (v + n))) (reached_past f)
    (extend_reached f (fresh n v) (result_vars [] (v + n)))

pub adder_reached : (cols : List AdderColumn) (carry rs : List ℕ) (v : ℕ)
    → map reached_of (adder_columns cols carry rs v) ≡ reached (map column_shape cols) (length carry)
adder_reached [] carry rs v = extend_reached (length carry) carry v
adder_reached (col ∷ cols) carry rs v =
    let n = carry_size col carry in
    column_reached col carry rs v (adder_columns cols (fresh n v) (tail rs) (result_vars rs (v + n))) (reached (map column_shape cols))
    (adder_reached cols (fresh n v) (tail rs) (result_vars rs (v + n)))

-- Eq ------------------------------------------------------------------------------------------------------------------

-- what `adder2` sends and returns
record Adder2Adds (out : Adder2Output) (cs : List EqAddedColumn) : Type 0 where
  sent_are : out.sent ≡ columns_sent cs
  returned_are : out.returned ≡ columns_returned cs

adder2_adds : (cols : List EqColumn) (last : LastColumn) (carry : List ℕ) (v : ℕ) → Adder2Adds (adder2 cols last carry v) (adder2_columns cols last carry v)
adder2_adds [] last carry v =
    record { sent_are = refl; returned_are = ap some (sym (append-nil (eq_column last.own carry last.plus [] last.target))) }
adder2_adds (col ∷ cols) last carry v =
    go (column_answer (length col.own + length carry) col.target v) (λ next. adder2_adds cols last next.lits next.vars)
  where
    go : (answer : Option NewCarry)
        → ((next : NewCarry) → Adder2Adds (adder2 cols last next.lits next.vars) (adder2_columns cols last next.lits next.vars))
        → Adder2Adds
        (unless_dead answer v
        (λ next. column_and_rest next.lits (eq_column col.own carry 0 next.lits col.target) (adder2 cols last next.lits next.vars)))
        (column_then col carry answer (λ next. adder2_columns cols last next.lits next.vars))
    go none ih = record { sent_are = refl; returned_are = refl }
    go (some next) ih =
        let rest = ih next in
        record {
          sent_are = ap (λ (cs : Clauses). ordering next.lits ++ cs) rest.sent_are;
          returned_are = ap (prepend (eq_column col.own carry 0 next.lits col.target)) rest.returned_are;
        }

-- without a column, Eq has at most one empty clause
pub eq_adder_adds : (c : List ℕ) (cols : Grid) (x y v : ℕ) → EqAdds (eq_adder (c ∷ cols) x y v) (eq_adder_columns (c ∷ cols) x y v)
eq_adder_adds c cols x y v =
    let a = adder2_adds (eq_columns (c ∷ cols) x y) (last_column (c ∷ cols) x y) [] v in
    record { sent_are = a.sent_are; returned_are = ap returned_set a.returned_are }

adder2_reached : (c : List ℕ) (cols : Grid) (x y : ℕ) (carry : List ℕ) (v : ℕ)
    → map eq_reached_of (adder2_columns (eq_columns (c ∷ cols) x y) (last_column (c ∷ cols) x y) carry v)
    ≡ eq_reached (own_counts (c ∷ cols)) x y (length carry)
adder2_reached c [] x y carry v = refl
adder2_reached c (d ∷ cols) x y carry v =
    go (has_carry r) refl (adder2_reached d cols ((x + 1) / 2) (y / 2) (fresh r.next v) (v + r.next))
  where
    r : Reached
    r = eq_column_reached (length c) (length carry) x y

    col : EqColumn
    col = record { own = c; target = (x + y) % 2 }

    more : NewCarry → List EqAddedColumn
    more next = adder2_columns (eq_columns (d ∷ cols) ((x + 1) / 2) (y / 2)) (last_column (d ∷ cols) ((x + 1) / 2) (y / 2)) next.lits next.vars

    bit : (0 + (x + y) % 2) % 2 ≡ (x + y) % 2
    bit = omega arith

    go : (t : Bool) → has_carry r ≡ t
        → map eq_reached_of (more record { lits = fresh r.next v; vars = v + r.next })
        ≡ eq_reached (own_counts (d ∷ cols)) ((x + 1) / 2) (y / 2) (length (fresh r.next v))
        → map eq_reached_of (column_then col carry (cond t (some record { lits = fresh r.next v; vars = v + r.next }) none) more)
        ≡ r ∷ cond t (eq_reached (own_counts (d ∷ cols)) ((x + 1) / 2) (y / 2) r.next) []
    go true e ih = rw (ih, length_fresh r.next v, bit) refl
    go false e ih =
        let stop : r.next ≡ 0 = omega (arith, leb-false r.constant (height r) e) in
        rw (bit, stop) refl

pub eq_adder_reached : (grid : Grid) (x y v : ℕ) → map eq_reached_of (eq_adder_columns grid x y v) ≡ eq_reached (own_counts grid) x y 0
eq_adder_reached [] x y v = refl
eq_adder_reached (c ∷ cols) x y v = adder2_reached c cols x y [] v

-- Sums and products ---------------------------------------------------------------------------------------------------

-- Ne and Ge write the clauses of both signs' columns, then those of the comparison
pub compared_adds : (is_ne : Bool) (ps : List Weighted) (a b v : ℕ)
    → (let plus = sign_adder false ps a v in
    let minus = sign_adder true ps b plus.vars in
    (linear_compared is_ne ps a b v).clauses
    ≡ (columns_clauses (sign_columns false ps a v) ++ columns_clauses (sign_columns true ps b plus.vars))
    ++ (comparison is_ne plus.bits minus.bits minus.vars).clauses)
compared_adds is_ne ps a b v =
    let plus = sign_adder false ps a v in
    let minus = sign_adder true ps b plus.vars in
    ap₂ (λ (p n : Clauses). (p ++ n) ++ (comparison is_ne plus.bits minus.bits minus.vars).clauses)
    (adder_adds (with_constant 32 (gather_sign false ps ([] ∷ [])) a) [] [] v).clauses_are
    (adder_adds (with_constant 32 (gather_sign true ps ([] ∷ [])) b) [] [] plus.vars).clauses_are

-- Eq, where the terms make a column
pub eq_sum_adds : (ps : List Weighted) (a b v : ℕ) (c : List ℕ) (cols : Grid) → gather ps [] ≡ c ∷ cols → EqAdds (linear_eq ps a b v) (eq_sum_columns ps a b v)
eq_sum_adds ps a b v c cols e =
    let x = a - (b + negated_constant ps) in
    let y = b + negated_constant ps - a in
    subst (λ (grid : Grid). EqAdds (eq_adder grid x y v) (eq_adder_columns grid x y v)) (sym e) (eq_adder_adds c cols x y v)

-- a multiplier writes a gate for each pair of bits, then the clauses of its columns
pub multiplier_adds : (xs ys rs : List ℕ) (v : ℕ) → (multiplier xs ys rs v).clauses ≡ rows xs ys v ++ columns_clauses (multiplier_columns xs ys rs v)
multiplier_adds xs ys rs v =
    ap (λ (cs : Clauses). rows xs ys v ++ cs) (adder_adds (pad_columns (length rs) (rows_grid xs ys 0 v [])) [] rs (rows_vars xs ys v)).clauses_are

sign_columns_are : (s : Bool) (ps : List Weighted) (k v : ℕ) → map reached_of (sign_columns s ps k v) ≡ sign_reached s (map shape_of ps) k
sign_columns_are s ps k v =
    adder_reached (with_constant 32 (gather_sign s ps ([] ∷ [])) k) [] [] v
    ∙ rw (with_constant_shapes 32 (gather_sign s ps ([] ∷ [])) k, gather_sign_counts s ps ([] ∷ [])) refl

eq_columns_are : (ps : List Weighted) (a b v : ℕ) → map eq_reached_of (eq_sum_columns ps a b v) ≡ linear_reached eq (map shape_of ps) a b
eq_columns_are ps a b v =
    eq_adder_reached (gather ps []) (a - (b + negated_constant ps)) (b + negated_constant ps - a) v
    ∙ ap₂ (λ hs n. eq_reached hs (a - (b + n)) (b + n - a) 0) (gather_counts_are ps []) (negated_bits_are ps)

sum_columns_are : (op : NormOp) (ps : List Weighted) (a b v : ℕ) → sum_columns op ps a b v ≡ linear_reached op (map shape_of ps) a b
sum_columns_are eq ps a b v = eq_columns_are ps a b v
sum_columns_are ne ps a b v = ap₂ (λ p n. p ++ n) (sign_columns_are false ps a v) (sign_columns_are true ps b (sign_adder false ps a v).vars)
sum_columns_are ge ps a b v = ap₂ (λ p n. p ++ n) (sign_columns_are false ps a v) (sign_columns_are true ps b (sign_adder false ps a v).vars)

-- document 01's columns reached, of a sum
pub linear_log_columns : (int_map : ℕ → LogEncoding) (op : NormOp) (constant : ℤ) (terms : List LinearTerm) (v : ℕ)
    → (let k = offset_constant int_map constant terms in
    sum_columns op (weighted_terms int_map terms) (up k) (down k) v ≡ linear_log_reached (λ i. setting_shape (int_map i)) op constant terms)
linear_log_columns int_map op constant terms v =
    let k = offset_constant int_map constant terms in
    sum_columns_are op (weighted_terms int_map terms) (up k) (down k) v
    ∙ ap (λ ss. linear_reached op ss (up k) (down k)) (term_shapes_are int_map terms)

multiplier_columns_are : (xs ys rs : List ℕ) (v : ℕ)
    → map reached_of (multiplier_columns xs ys rs v) ≡ multiplier_reached (length xs) (length ys) (length rs)
multiplier_columns_are xs ys rs v =
    adder_reached (pad_columns (length rs) (rows_grid xs ys 0 v [])) [] rs (rows_vars xs ys v)
    ∙ rw (pad_columns_shapes (length rs) (rows_grid xs ys 0 v []), rows_grid_counts xs ys 0 v []) refl

module _ (x y m : LogEncoding) (v : ℕ) where
  offsets_columns_are : offsets_columns x y m v ≡ offsets_reached (setting_shape x) (setting_shape y) (setting_shape m)
  offsets_columns_are =
      let mul = multiplier x.lits y.lits [] v in
      let k = mul_constant x y m in
      let bits = (multiplier_size (λ d. d) x.lits y.lits [] v).bits_are in
      ap₂ (λ p n. p ++ n) (multiplier_columns_are x.lits y.lits [] v)
      (eq_columns_are (offset_terms x y m mul.bits) (up k) (down k) mul.vars
      ∙ ap (λ ss. linear_reached eq ss (up k) (down k)) (offset_shapes_are x y m mul.bits bits))

  -- and of a product
  pub mul_columns : product_columns x y m v ≡ mul_reached (setting_shape x) (setting_shape y) (setting_shape m)
  mul_columns = go (no_offsets (setting_shape x) (setting_shape y) (setting_shape m))
    where
      go : (t : Bool) → cond t (map reached_of (multiplier_columns x.lits y.lits m.lits v)) (offsets_columns x y m v)
          ≡ cond t (multiplier_reached (length x.lits) (length y.lits) (length m.lits)) (offsets_reached (setting_shape x) (setting_shape y) (setting_shape m))
      go true = multiplier_columns_are x.lits y.lits m.lits v
      go false = offsets_columns_are
