-- A product's clauses and variables are as many as the numbers say (`encode_mul_size`, `encode_mul_log_size`).
use Prim.Native.Nat.{◌*◌, ◌+◌, ◌-◌, suc, ℕ}
use lib.IntN.{ℤ}
use lib.ListN.{drop, length, length-drop}
use mathlib.Core.Bool.{Bool, cond, false, true}
use mathlib.Core.List.{List, [], ◌++◌, ◌∷◌, map}
use mathlib.Core.Path.{◌∙◌, ◌≡◌, ap, ap₂, refl, subst}
use native.Mathlib.Omega.{arith}
use Rattle.arithmetic.specs.Integers.{down, up}
use Rattle.sat.specs.Encoded.{EncodedBits}
use Rattle.sat.specs.Fresh.{fresh}
use Rattle.sat.specs.Size.{HasSize, weight_of}
use Rattle.sat.proofs.Fresh.{length_fresh}
use Rattle.sat.proofs.Size.{RuleSize, has_size, weight_append}
use Rattle.log_encoding.specs.LogEncoding.{LogEncoding}
use Rattle.log_encoding.specs.VarSize.{setting_shape}
use Rattle.log_encoding.specs.Adder.{adder}
use Rattle.log_encoding.specs.Gather.{Grid, pad_columns, push_value}
use Rattle.log_encoding.specs.AdderSize.{own_counts, push_counts}
use Rattle.log_encoding.proofs.Gather.{pad_columns_length}
use Rattle.log_encoding.proofs.AdderSize.{EqSize, adder_size, pad_columns_shapes, push_value_counts}
use Rattle.log_encoding.specs.Compare.{none_of}
use Rattle.log_encoding.specs.Linear.{linear_eq}
use Rattle.log_encoding.specs.LinearSize.{WeightedShape, gather_counts, shape_of, sum_plus, sum_target}
use Rattle.log_encoding.proofs.LinearSize.{linear_eq_size, none_of_count, shape_of_weighted}
use Rattle.log_encoding.specs.EncodeMulLog.{encode_mul, encode_mul_log, mul_constant, offset_terms, product_with_offsets}
use Rattle.log_encoding.specs.Multiply.{multiplier, product, row, rows, rows_grid, rows_vars}
use Rattle.log_encoding.specs.MulSize.{mul_count, mul_size, mul_vars, multiplier_count, multiplier_reached, multiplier_vars, no_offsets, offset_shapes, offsets_count, offsets_vars, product_count, rows_counts}

pub rows_grid_counts : (xs ys : List ℕ) (o v : ℕ) (grid : Grid)
    → own_counts (rows_grid xs ys o v grid) ≡ rows_counts (length xs) (length ys) o (own_counts grid)
rows_grid_counts [] ys o v grid = refl
rows_grid_counts (x ∷ xs) ys o v grid =
    rows_grid_counts xs ys (suc o) (v + length ys) (push_value o (fresh (length ys) v) grid)
    ∙ ap (rows_counts (length xs) (length ys) (suc o))
    (push_value_counts o (fresh (length ys) v) grid ∙ ap (λ n. push_counts o n (own_counts grid)) (length_fresh (length ys) v))

pub rows_vars_are : (xs ys : List ℕ) (v : ℕ) → rows_vars xs ys v ≡ v + length xs * length ys
rows_vars_are [] ys v = omega arith
rows_vars_are (x ∷ xs) ys v = omega (arith, rows_vars_are xs ys (v + length ys))

-- the terms of a product with offsets, as shapes
pub offset_shapes_are : (x y m : LogEncoding) (bits : List ℕ) → length bits ≡ length (multiplier_reached (length x.lits) (length y.lits) 0)
    → map shape_of (offset_terms x y m bits) ≡ offset_shapes (setting_shape x) (setting_shape y) (setting_shape m)
offset_shapes_are x y m bits e = rw (shape_of_weighted y.offset x.lits, shape_of_weighted x.offset y.lits, e) refl

-- what a multiplier from v on makes, of x bits by y bits, with r of the product's bits given
pub record MultiplierSize (weigh : ℕ → ℕ) (v : ℕ) (out : EncodedBits) (x y r : ℕ) : Type 0 where
  pub clauses_are : weight_of weigh out.clauses ≡ multiplier_count weigh x y r
  pub bits_are : length out.bits ≡ length (multiplier_reached x y r)
  pub vars_are : out.vars ≡ v + multiplier_vars x y r

module _ (weigh : ℕ → ℕ) where
  row_count : (x : ℕ) (ys : List ℕ) (v : ℕ) → weight_of weigh (row x ys v) ≡ length ys * (2 * weigh 2 + weigh 3)
  row_count x [] v = omega arith
  row_count x (y ∷ ys) v = omega (arith, row_count x ys (suc v))

  rows_count : (xs ys : List ℕ) (v : ℕ) → weight_of weigh (rows xs ys v) ≡ length xs * length ys * (2 * weigh 2 + weigh 3)
  rows_count [] ys v = omega arith
  rows_count (x ∷ xs) ys v =
      omega (arith, weight_append weigh (row x ys v) (rows xs ys (v + length ys)), row_count x ys v, rows_count xs ys (v + length ys))

  pub multiplier_size : (xs ys given : List ℕ) (v : ℕ) → MultiplierSize weigh v (multiplier xs ys given v) (length xs) (length ys) (length given)
  multiplier_size xs ys given v =
      let cols = pad_columns (length given) (rows_grid xs ys 0 v []) in
      let w = rows_vars xs ys v in
      let sum = rw (pad_columns_shapes (length given) (rows_grid xs ys 0 v []), rows_grid_counts xs ys 0 v [])
      at (adder_size weigh cols [] given w (pad_columns_length (length given) (rows_grid xs ys 0 v []))) in
      record {
        clauses_are = omega (arith, weight_append weigh (rows xs ys v) (adder cols [] given w).clauses, rows_count xs ys v, sum.clauses_are);
        bits_are = sum.bits_are;
        vars_are = omega (arith, sum.vars_are, rows_vars_are xs ys v);
      }

  product_size : (xs ys ms : List ℕ) (v : ℕ)
      → RuleSize weigh v (product xs ys ms v)
      (product_count weigh (length xs) (length ys) (length ms))
      (multiplier_vars (length xs) (length ys) (length ms))
  product_size xs ys ms v =
      let bits = (multiplier xs ys ms v).bits in
      let mul = multiplier_size xs ys ms v in
      let past : length (drop (length ms) bits) ≡ length (multiplier_reached (length xs) (length ys) (length ms)) - length ms =
      length-drop (length ms) bits ∙ ap (λ n. n - length ms) mul.bits_are in
      record {
        clauses_are = weight_append weigh (multiplier xs ys ms v).clauses (none_of (drop (length ms) bits))
            ∙ ap₂ (λ x y. x + y) mul.clauses_are (none_of_count weigh (drop (length ms) bits) ∙ ap (λ n. n * weigh 1) past);
        vars_are = mul.vars_are;
      }

  module _ (x y m : LogEncoding) (v : ℕ) where
    abbrev k : ℤ
    k = mul_constant x y m

    abbrev ss : List WeightedShape
    ss = offset_shapes (setting_shape x) (setting_shape y) (setting_shape m)

    with_offsets_size : RuleSize weigh v (product_with_offsets x y m v)
        (offsets_count weigh (setting_shape x) (setting_shape y) (setting_shape m))
        (offsets_vars (setting_shape x) (setting_shape y) (setting_shape m))
    with_offsets_size =
        let mul = multiplier x.lits y.lits [] v in
        let terms = offset_terms x y m mul.bits in
        let out = linear_eq terms (up k) (down k) mul.vars in
        let size = multiplier_size x.lits y.lits [] v in
        let e = subst (λ ss. EqSize weigh mul.vars out (gather_counts ss []) (sum_plus ss (up k) (down k)) (sum_target ss (up k) (down k)))
        (offset_shapes_are x y m mul.bits size.bits_are) (linear_eq_size weigh terms (up k) (down k) mul.vars) in
        record {
          clauses_are = omega (
            arith,
            weight_append weigh out.sent (mul.clauses ++ out.returned),
            weight_append weigh mul.clauses out.returned,
            e.sent_are,
            e.returned_are,
            size.clauses_are,
          );
          vars_are = omega (arith, e.vars_are, size.vars_are);
        }

    rule_size : RuleSize weigh v (encode_mul x y m v)
        (mul_count weigh (setting_shape x) (setting_shape y) (setting_shape m))
        (mul_vars (setting_shape x) (setting_shape y) (setting_shape m))
    rule_size = go (no_offsets (setting_shape x) (setting_shape y) (setting_shape m))
      where
        go : (t : Bool) → RuleSize weigh v
            (cond t (product x.lits y.lits m.lits v) (product_with_offsets x y m v))
            (cond t (product_count weigh (length x.lits) (length y.lits) (length m.lits)) (offsets_count weigh (setting_shape x) (setting_shape y) (setting_shape m)))
            (cond t (multiplier_vars (length x.lits) (length y.lits) (length m.lits)) (offsets_vars (setting_shape x) (setting_shape y) (setting_shape m)))
        go true = product_size x.lits y.lits m.lits v
        go false = with_offsets_size

pub encode_mul_size : (x y m : LogEncoding) (v : ℕ)
    → (let out = encode_mul x y m v in HasSize v out.vars out.clauses (mul_size (setting_shape x) (setting_shape y) (setting_shape m)))
encode_mul_size x y m v =
    has_size v (encode_mul x y m v) (λ weigh. mul_count weigh (setting_shape x) (setting_shape y) (setting_shape m)) _ (λ weigh. rule_size weigh x y m v)

pub encode_mul_log_size : (int_map : ℕ → LogEncoding) (x y m v : ℕ)
    → (let out = encode_mul_log int_map x y m v in
    HasSize v out.vars out.clauses (mul_size (setting_shape (int_map x)) (setting_shape (int_map y)) (setting_shape (int_map m))))
encode_mul_log_size int_map x y m v = encode_mul_size (int_map x) (int_map y) (int_map m) v
