-- The terms of a flat list by their numbers, one after the other.
use mathlib.Core.Path.{◌≡◌, refl}
use mathlib.Core.List.{List}
use Prim.Native.Nat.{ℕ, suc, ◌+◌, ◌*◌, ◌/◌, ◌≤◌, ◌<◌}
use native.Mathlib.Nat.{add-zero, zero-add}
use native.Mathlib.Omega.{arith}
use borrow.Author.Tests.{le-ltb}
use lib.IntN.{negsuc, pos, ℤ}
use lib.ListN.{length, get_or, set, take}
use lib.Seq.{get_or-take, length-take-le}
use lib.Signed.{lt_z}
use Rattle.arithmetic.specs.Integers.{down, up}
use Rattle.norm_csp.specs.Rules.{LinearTerm, terms_of}
use Rattle.log_encoding.specs.LinearSize.{WeightedShape, term_shapes, weighted_shape}
use Rattle.log_encoding.specs.VarSize.{SettingShape}
use Rattle.log_sum.proofs.Filling.{Filling, filling_end, filling_start, filling_turn}
use Rattle.log_counts.specs.Counted.{ShapeFits, ShapesFit, no_shape, shapes_of, term_shape}
use Rattle.log_counts.specs.declared.TermShape.{TermShape}

-- a coefficient with its sign
pub weighted_is : (z : ℤ) (n : ℕ) → record { negative = lt_z z (pos 0); coef = up z + down z; bits = n } ≡ weighted_shape z n
weighted_is (pos k) n = let z : 0 ≤ k = omega arith in rw (le-ltb k 0 z, add-zero k)
weighted_is (negsuc k) n = rw (zero-add (suc k))

-- what a term is by its setting's bits
abbrev term_of : (ℕ → SettingShape) → LinearTerm → WeightedShape
term_of settings t = weighted_shape t.coef (settings t.var).bits

-- i terms are in the array; with those left they are all
abbrev pub Shaping : (ℕ → SettingShape) → List ℤ → List TermShape → ℕ → Type 0
Shaping settings zs ts i = Filling TermShape WeightedShape no_shape term_shape ShapeFits (term_of settings) (term_shapes settings) zs ts i

pub shaping_start : (settings : ℕ → SettingShape) (zs : List ℤ) (ts : List TermShape) → length ts ≡ 7 → Shaping settings zs ts 0
shaping_start settings zs ts h = filling_start _ _ no_shape term_shape ShapeFits (term_of settings) (term_shapes settings) zs ts h

module _ (settings : ℕ → SettingShape) {zs : List ℤ} {ts : List TermShape} {i : ℕ} (w : Shaping settings zs ts i) (few : length zs ≤ 12) where
  pub shaping_turn : (t : TermShape) → i < length zs / 2
      → term_shape t ≡ weighted_shape (get_or zs (2 * i + 1) (pos 0)) (settings (up (get_or zs (2 * i) (pos 0)))).bits → ShapeFits t → Shaping settings zs (set ts i t) (i + 1)
  shaping_turn t h e f = filling_turn _ _ no_shape term_shape ShapeFits (term_of settings) (term_shapes settings) w few (λ x us. refl) t h e f

  pub shaping_end : length zs / 2 ≤ i → let us = take (length zs / 2) ts in (shapes_of us ≡ term_shapes settings (terms_of zs)) × ShapesFit us
  shaping_end h =
      let r = filling_end _ _ no_shape term_shape ShapeFits (term_of settings) (term_shapes settings) w few refl h in
      let long = length-take-le (length zs / 2) ts (omega (arith, w.long)) in (
        r.0,
        record {
          few = omega (arith, long);
          fits = λ k l. let m : k < length zs / 2 = omega (arith, long, l) in rw (get_or-take (length zs / 2) ts k no_shape m) (r.1 k m);
        },
      )
