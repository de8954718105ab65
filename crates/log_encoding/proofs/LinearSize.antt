-- A sum's clauses and variables are as many as the numbers say (`encode_weighted_size`, `encode_linear_log_size`).
use Prim.Native.Nat.{◌%◌, ◌*◌, ◌+◌, ◌-◌, ◌/◌, max, min, suc, zero, ℕ}
use lib.IntN.{negsuc, pos, ℤ}
use lib.ListN.{length, length-append, length-map}
use mathlib.Core.Bool.{Bool, beq, cond, false, true}
use mathlib.Core.List.{List, [], ◌++◌, ◌∷◌, map}
use mathlib.Core.Path.{◌∙◌, ◌≡◌, ap, ap₂, refl, subst, subst₂}
use native.Mathlib.Omega.{arith}
use Rattle.arithmetic.specs.Integers.{down, up}
use Rattle.sat.specs.Encoded.{EncodedRule}
use Rattle.sat.specs.Lit.{neg}
use Rattle.sat.specs.Size.{HasSize, weight_of}
use Rattle.sat.proofs.Size.{RuleSize, has_size, weight_append}
use Rattle.norm_csp.specs.NormOp.{NormOp, eq, ge, ne}
use Rattle.norm_csp.specs.Rules.{LinearTerm}
use Rattle.log_encoding.specs.LogEncoding.{LogEncoding}
use Rattle.log_encoding.specs.VarSize.{setting_shape}
use Rattle.log_encoding.specs.Gather.{Grid, push_scaled, with_constant}
use Rattle.log_encoding.specs.AdderSize.{column_shape, own_counts, push_scaled_counts}
use Rattle.log_encoding.proofs.AdderSize.{AdderSize, EqSize, adder_size, eq_adder_size, push_scaled_counts_are}
use Rattle.log_encoding.specs.Compare.{ge_from, ne_bits, none_of}
use Rattle.log_encoding.specs.EncodeLinearLog.{encode_linear_log, encode_weighted, offset_constant, weighted, weighted_terms}
use Rattle.log_encoding.specs.Linear.{Weighted, compare, gather, gather_sign, ge_bits, linear_eq, negated_constant, positive_lits, push_scaled_some, sign_adder}
use Rattle.log_encoding.specs.LinearSize.{compare_count, compare_vars, constant_shapes, gather_counts, ge_count, ge_from_count, linear_count, linear_log_size, linear_size, linear_vars, ne_count, negated_bits, push_some_counts, shape_of, sign_counts, sign_reached, sum_plus, sum_target, term_shapes, weighted_shape}

-- Gathering -----------------------------------------------------------------------------------------------------------

pub gather_sign_counts : (s : Bool) (ps : List Weighted) (grid : Grid) → own_counts (gather_sign s ps grid) ≡ sign_counts s (map shape_of ps) (own_counts grid)
gather_sign_counts s [] grid = refl
gather_sign_counts s (p ∷ ps) grid =
    gather_sign_counts s ps (cond (beq s p.negative) (push_scaled 12 p.coef 0 p.lits grid) grid)
    ∙ ap (sign_counts s (map shape_of ps)) (go (beq s p.negative))
  where
    go : (t : Bool) → own_counts (cond t (push_scaled 12 p.coef 0 p.lits grid) grid)
        ≡ cond t (push_scaled_counts 12 p.coef 0 (length p.lits) (own_counts grid)) (own_counts grid)
    go true = push_scaled_counts_are 12 p.coef 0 p.lits grid
    go false = refl

pub with_constant_shapes : (f : ℕ) (grid : Grid) (k : ℕ) → map column_shape (with_constant f grid k) ≡ constant_shapes f (own_counts grid) k
with_constant_shapes f (c ∷ cols) k = ap (λ t. record { own = length c; constant = k % 2 } ∷ t) (with_constant_shapes f cols (k / 2))
with_constant_shapes zero [] k = refl
with_constant_shapes (suc f) [] zero = refl
with_constant_shapes (suc f) [] (suc k) = ap (λ t. record { own = 0; constant = suc k % 2 } ∷ t) (with_constant_shapes f [] (suc k / 2))

pub length_positive : (p : Weighted) → length (positive_lits p) ≡ length p.lits
length_positive p = go p.negative
  where
    go : (t : Bool) → length (cond t (map neg p.lits) p.lits) ≡ length p.lits
    go true = length-map p.lits neg
    go false = refl

push_some_counts_are : (k : ℕ) (ls : List ℕ) (grid : Grid) → own_counts (push_scaled_some k ls grid) ≡ push_some_counts k (length ls) (own_counts grid)
push_some_counts_are k [] grid = refl
push_some_counts_are k (l ∷ ls) grid = push_scaled_counts_are 12 k 0 (l ∷ ls) grid

pub gather_counts_are : (ps : List Weighted) (grid : Grid) → own_counts (gather ps grid) ≡ gather_counts (map shape_of ps) (own_counts grid)
gather_counts_are [] grid = refl
gather_counts_are (p ∷ ps) grid =
    gather_counts_are ps (push_scaled_some p.coef (positive_lits p) grid)
    ∙ ap (gather_counts (map shape_of ps))
    (push_some_counts_are p.coef (positive_lits p) grid ∙ ap (λ n. push_some_counts p.coef n (own_counts grid)) (length_positive p))

pub negated_bits_are : (ps : List Weighted) → negated_constant ps ≡ negated_bits (map shape_of ps)
negated_bits_are [] = refl
negated_bits_are (p ∷ ps) = omega (arith, negated_bits_are ps)

-- Comparing bits ------------------------------------------------------------------------------------------------------

module _ (weigh : ℕ → ℕ) where
  ne_bits_size : (ps ns front : List ℕ) (v : ℕ)
      → RuleSize weigh v (ne_bits ps ns front v)
      (min (length ps) (length ns) * (4 * weigh 3) + weigh (length front + max (length ps) (length ns)))
      (min (length ps) (length ns))
  ne_bits_size [] ns front v =
      let least : min 0 (length ns) ≡ 0 = omega arith in
      let most : max 0 (length ns) ≡ length ns = omega arith in
      record { clauses_are = rw (length-append, least, most) (omega arith); vars_are = omega arith }
  ne_bits_size (p ∷ ps) [] front v =
      let least : min (suc (length ps)) 0 ≡ 0 = omega arith in
      let most : max (suc (length ps)) 0 ≡ suc (length ps) = omega arith in
      record { clauses_are = rw (length-append, least, most) (omega arith); vars_are = omega arith }
  ne_bits_size (p ∷ ps) (n ∷ ns) front v =
      let ih = ne_bits_size ps ns (front ++ (2 * v ∷ [])) (suc v) in
      let least : min (suc (length ps)) (suc (length ns)) ≡ suc (min (length ps) (length ns)) = omega arith in
      let most : length front + max (suc (length ps)) (suc (length ns)) ≡ length (front ++ (2 * v ∷ [])) + max (length ps) (length ns) =
      omega (arith, length-append front (2 * v ∷ [])) in
      record { clauses_are = rw (least, most) (omega (arith, ih.clauses_are)); vars_are = omega (arith, ih.vars_are) }

  pub none_of_count : (ns : List ℕ) → weight_of weigh (none_of ns) ≡ length ns * weigh 1
  none_of_count [] = omega arith
  none_of_count (n ∷ ns) = omega (arith, none_of_count ns)

  ge_from_size : (ps ns : List ℕ) (sub v : ℕ)
      → RuleSize weigh v (ge_from ps ns sub v) (ge_from_count weigh (length ps) (length ns)) (min (length ps) (length ns))
  ge_from_size [] ns sub v =
      let n = length ns in
      let least : min 0 n ≡ 0 = omega arith in
      let under : 0 - n ≡ 0 = omega arith in
      let over : n - 0 ≡ n = omega arith in
      record { clauses_are = rw (least, under, over) (omega (arith, none_of_count ns)); vars_are = omega arith }
  ge_from_size (p ∷ ps) [] sub v =
      let n = suc (length ps) in
      let least : min n 0 ≡ 0 = omega arith in
      let under : 0 - n ≡ 0 = omega arith in
      let over : n - 0 ≡ n = omega arith in
      record { clauses_are = rw (least, under, over) (omega arith); vars_are = omega arith }
  ge_from_size (p ∷ ps) (n ∷ ns) sub v =
      let ih = ge_from_size ps ns (2 * v) (suc v) in
      let least : min (suc (length ps)) (suc (length ns)) ≡ suc (min (length ps) (length ns)) = omega arith in
      let under : suc (length ps) - suc (length ns) ≡ length ps - length ns = omega arith in
      let over : suc (length ns) - suc (length ps) ≡ length ns - length ps = omega arith in
      record { clauses_are = rw (least, under, over) (omega (arith, ih.clauses_are)); vars_are = omega (arith, ih.vars_are) }

  ge_bits_size : (ps ns : List ℕ) (v : ℕ) → RuleSize weigh v (ge_bits ps ns v) (ge_count weigh (length ps) (length ns)) (min (length ps) (length ns))
  ge_bits_size [] ns v = record { clauses_are = none_of_count ns; vars_are = omega arith }
  ge_bits_size (p ∷ ps) [] v = record { clauses_are = omega arith; vars_are = omega arith }
  ge_bits_size (p ∷ ps) (n ∷ ns) v =
      let ih = ge_from_size ps ns (2 * v) (suc v) in
      record { clauses_are = omega (arith, ih.clauses_are); vars_are = omega (arith, ih.vars_are) }

  -- Sums --------------------------------------------------------------------------------------------------------------

  sign_adder_size : (s : Bool) (ps : List Weighted) (k v : ℕ) → AdderSize weigh v 0 (sign_adder s ps k v) (sign_reached s (map shape_of ps) k)
  sign_adder_size s ps k v =
      rw (with_constant_shapes 32 (gather_sign s ps ([] ∷ [])) k, gather_sign_counts s ps ([] ∷ []))
      at (adder_size weigh (with_constant 32 (gather_sign s ps ([] ∷ [])) k) [] [] v (omega arith))

  compare_size : (test : List ℕ → List ℕ → ℕ → EncodedRule) (last : ℕ → ℕ → ℕ)
      → ((p n : List ℕ) (w : ℕ) → RuleSize weigh w (test p n w) (last (length p) (length n)) (min (length p) (length n)))
      → (ps : List Weighted) (a b v : ℕ)
      → RuleSize weigh v
      (compare test (sign_adder false ps a v) (λ w. sign_adder true ps b w))
      (compare_count weigh last (sign_reached false (map shape_of ps) a) (sign_reached true (map shape_of ps) b))
      (compare_vars (sign_reached false (map shape_of ps) a) (sign_reached true (map shape_of ps) b))
  compare_size test last made ps a b v =
      let plus = sign_adder false ps a v in
      let minus = sign_adder true ps b plus.vars in
      let p = sign_adder_size false ps a v in
      let n = sign_adder_size true ps b plus.vars in
      let t = rw (p.bits_are, n.bits_are) at (made plus.bits minus.bits minus.vars) in
      record {
        clauses_are = omega (
          arith,
          weight_append weigh (plus.clauses ++ minus.clauses) (test plus.bits minus.bits minus.vars).clauses,
          weight_append weigh plus.clauses minus.clauses,
          p.clauses_are,
          n.clauses_are,
          t.clauses_are,
        );
        vars_are = omega (arith, p.vars_are, n.vars_are, t.vars_are);
      }

  pub linear_eq_size : (ps : List Weighted) (a b v : ℕ)
      → (let ss = map shape_of ps in EqSize weigh v (linear_eq ps a b v) (gather_counts ss []) (sum_plus ss a b) (sum_target ss a b))
  linear_eq_size ps a b v =
      let size = eq_adder_size weigh (gather ps []) (a - (b + negated_constant ps)) (b + negated_constant ps - a) v in
      subst₂ (λ hs n. EqSize weigh v (linear_eq ps a b v) hs (a - (b + n)) (b + n - a)) (gather_counts_are ps []) (negated_bits_are ps) size

  rule_size : (op : NormOp) (ps : List Weighted) (k : ℤ) (v : ℕ)
      → RuleSize weigh v (encode_weighted op ps k v) (linear_count weigh op (map shape_of ps) (up k) (down k)) (linear_vars op (map shape_of ps) (up k) (down k))
  rule_size eq ps k v =
      let out = linear_eq ps (up k) (down k) v in
      let size = linear_eq_size ps (up k) (down k) v in
      record { clauses_are = weight_append weigh out.sent out.returned ∙ ap₂ (λ x y. x + y) size.sent_are size.returned_are; vars_are = size.vars_are }
  rule_size ne ps k v = compare_size (λ p n w. ne_bits p n [] w) (ne_count weigh) ne_made ps (up k) (down k) v
    where
      ne_made : (p n : List ℕ) (w : ℕ) → RuleSize weigh w (ne_bits p n [] w) (ne_count weigh (length p) (length n)) (min (length p) (length n))
      ne_made p n w =
          let size = ne_bits_size p n [] w in
          let most : 0 + max (length p) (length n) ≡ max (length p) (length n) = omega arith in
          record { clauses_are = rw most at size.clauses_are; vars_are = size.vars_are }
  rule_size ge ps k v = compare_size ge_bits (ge_count weigh) ge_bits_size ps (up k) (down k) v

-- Both counts ---------------------------------------------------------------------------------------------------------

pub encode_weighted_size : (op : NormOp) (ps : List Weighted) (k : ℤ) (v : ℕ)
    → (let out = encode_weighted op ps k v in HasSize v out.vars out.clauses (linear_size op (map shape_of ps) k))
encode_weighted_size op ps k v =
    has_size v (encode_weighted op ps k v) (λ weigh. linear_count weigh op (map shape_of ps) (up k) (down k)) _ (λ weigh. rule_size weigh op ps k v)

pub shape_of_weighted : (k : ℤ) (ls : List ℕ) → shape_of (weighted k ls) ≡ weighted_shape k (length ls)
shape_of_weighted (pos k) ls = refl
shape_of_weighted (negsuc k) ls = refl

pub term_shapes_are : (int_map : ℕ → LogEncoding) (terms : List LinearTerm)
    → map shape_of (weighted_terms int_map terms) ≡ term_shapes (λ i. setting_shape (int_map i)) terms
term_shapes_are int_map [] = refl
term_shapes_are int_map (t ∷ ts) = ap₂ (λ s ss. s ∷ ss) (shape_of_weighted t.coef (int_map t.var).lits) (term_shapes_are int_map ts)

pub encode_linear_log_size : (int_map : ℕ → LogEncoding) (op : NormOp) (constant : ℤ) (terms : List LinearTerm) (v : ℕ)
    → (let out = encode_linear_log int_map op constant terms v in
    HasSize v out.vars out.clauses (linear_log_size (λ i. setting_shape (int_map i)) op constant terms))
encode_linear_log_size int_map op constant terms v =
    let k = offset_constant int_map constant terms in
    subst (λ ss. let out = encode_linear_log int_map op constant terms v in HasSize v out.vars out.clauses (linear_size op ss k))
    (term_shapes_are int_map terms) (encode_weighted_size op (weighted_terms int_map terms) k v)
