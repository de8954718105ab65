-- The sum of the terms of one sign, as the adder adds it.
use mathlib.Core.Path.{◌≡◌, ap, ◌∙◌}
use mathlib.Core.Bool.{Bool, false}
use mathlib.Core.List.{List, [], ◌∷◌, map}
use Prim.Native.Nat.{ℕ, max, ◌≤◌, ◌<◌}
use native.Mathlib.Omega.{arith}
use lib.Dec.{lit<}
use lib.ListN.{length, length-map, length-take, take}
use Rattle.arithmetic.specs.Bits.{bit_length}
use Rattle.sat.specs.Encoded.{EncodedBits}
use Rattle.sat.specs.LitArray.{num}
use Rattle.clause_set.specs.declared.ClauseSet.{ClauseSet}
use Rattle.clause_set.proofs.Writing.{wrote_as, wrote_clauses, wrote_lits}
use Rattle.log_encoding.specs.Adder.{AdderColumn, adder}
use Rattle.log_adder.specs.AdderState.{AdderAdded, AdderFits, adder_output, input_columns}
use Rattle.log_adder.specs.declared.Columns.{Columns}
use Rattle.log_encoding.specs.Gather.{Grid, with_constant}
use Rattle.log_encoding.specs.AdderSize.{ColumnShape, column_shape, input_shapes, reached, too_tall}
use Rattle.log_encoding.specs.Linear.{Weighted, gather_sign, sign_adder}
use Rattle.log_encoding.specs.LinearSize.{constant_shapes, shape_of, sign_counts, sign_reached}
use Rattle.log_encoding.proofs.LinearSize.{gather_sign_counts, with_constant_shapes}
use Rattle.log_linear.specs.Added.{bits_of}
use Rattle.log_linear.specs.declared.Bits.{Bits}
use Rattle.log_weighted.specs.Added.{SumAdded}
use Rattle.log_terms.specs.Gathered.{Gathered}
use Rattle.log_encoding.proofs.AdderMost.{adder_most, constant_bits}
use Rattle.log_weighted.proofs.Columns.{constant_columns_are, constant_shapes_are}

module _ (s : Bool) (ps : List Weighted) {cols : Columns} (g : Gathered (gather_sign s ps ([] ∷ [])) cols)
    (k w : ℕ) (low : k < 33554432) (wide : w ≡ max (length (gather_sign s ps ([] ∷ []))) (bit_length k)) (few : w ≤ 25) where
  abbrev grid : Grid
  grid = gather_sign s ps ([] ∷ [])

  sign_shapes : input_shapes w 0 cols.counts k ≡ constant_shapes 32 (sign_counts s (map shape_of ps) (0 ∷ [])) k
  sign_shapes =
      constant_shapes_are g k w low wide (omega arith) ∙ with_constant_shapes 32 grid k
      ∙ ap (λ (hs : List ℕ). constant_shapes 32 hs k) (gather_sign_counts s ps ([] ∷ []))

  -- the columns reached are the definition's
  pub sign_reaches : reached (input_shapes w 0 cols.counts k) 0 ≡ sign_reached s (map shape_of ps) k
  sign_reaches = ap (λ (cs : List ColumnShape). reached cs 0) sign_shapes

  -- what the adder asks
  pub sign_ready : AdderFits cols [] w
  sign_ready = record { few = omega arith; fewer = omega arith; own = g.arrays.low; results = λ i. lit< tt }

  module _ (fits : too_tall (sign_reached s (map shape_of ps) k) ≡ false) where
    sign_columns : input_columns w 0 cols.lits cols.counts k ≡ with_constant 32 grid k
    sign_columns = constant_columns_are g k w low wide (omega arith) (ap too_tall sign_reaches ∙ fits)

    pub sum_added : {t u : ClauseSet} (r : Bits) → AdderAdded t (adder_output cols [] w k t.vars) u r → SumAdded t (sign_adder s ps k t.vars) u r
    sum_added {t} {u} r h =
        let v = t.vars in
        let sum = sign_adder s ps k v in
        let same : adder_output cols [] w k v ≡ sum = ap (λ (cs : List AdderColumn). adder cs [] [] v) sign_columns in
        let wrote = wrote_as h.wrote (ap (λ (o : EncodedBits). o.vars) same) (ap (λ (o : EncodedBits). o.clauses) same) in
        let bits : bits_of r ≡ sum.bits = h.bits_are ∙ ap (λ (o : EncodedBits). o.bits) same in
        let most = adder_most (with_constant 32 grid k) [] [] v (constant_bits 32 grid k) (omega arith) (tall ∙ fits) in
        let n = length-map (take r.len r.lits) num ∙ length-take r.len r.lits in
        let m = ap length bits in
        record {
          wrote = wrote;
          bits = bits;
          len = h.len;
          vars = omega (arith, most.vars, h.len, m, n, wrote.vars_are);
          lits = omega (arith, most.lits, h.len, m, n, wrote_lits wrote);
          clauses = omega (arith, most.clauses, h.len, m, n, wrote_clauses wrote);
        }
      where
        tall : too_tall (reached (map column_shape (with_constant 32 grid k)) 0) ≡ too_tall (sign_reached s (map shape_of ps) k)
        tall = ap (λ (cs : List ColumnShape). too_tall (reached cs 0)) (with_constant_shapes 32 grid k ∙ ap (λ (hs : List ℕ). constant_shapes 32 hs k) (gather_sign_counts s ps ([] ∷ [])))
