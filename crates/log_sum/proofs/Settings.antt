-- The terms of a flat list by their settings' records, one after the other.
use mathlib.Core.Path.{◌≡◌, refl, ap, ◌∙◌}
use mathlib.Core.List.{List, [], ◌∷◌, map, map-append}
use Prim.Native.Nat.{ℕ, suc, ◌+◌, ◌*◌, ◌/◌, ◌≤◌, ◌<◌}
use native.Mathlib.Nat.{add-zero, zero-add}
use native.Mathlib.Numerals.{add-one}
use native.Mathlib.Omega.{arith}
use borrow.Author.Tests.{le-ltb}
use lib.IntN.{negsuc, pos, ℤ}
use lib.ListN.{length, get_or, set, take}
use lib.Seq.{get_or-take, length-take-le, take-suc, take-suc-set}
use lib.Signed.{lt_z}
use mir.Syntax.{w32}
use mir.Val.{SFits, of_z, to_z}
use mir.ValLaws.{to_z-of_z}
use Rattle.arithmetic.specs.Integers.{down, up}
use Rattle.sat.specs.declared.Lit.{Lit}
use Rattle.sat.specs.LitArray.{first_lits, lit, num}
use Rattle.norm_csp.specs.NormOp.{NormOp}
use Rattle.norm_csp.specs.Rules.{LinearTerm, terms_of}
use Rattle.log_encoding.specs.LogEncoding.{LogEncoding}
use Rattle.log_var.specs.declared.LogEncoding.{LogEncoding as Encoding}
use Rattle.log_encoding.specs.EncodeLinearLog.{encode_linear_log, encode_weighted, offset_constant, weighted, weighted_terms}
use Rattle.log_encoding.specs.Linear.{Weighted}
use Rattle.log_encoding.specs.LinearSize.{linear_log_reached, linear_reached, shape_of}
use Rattle.log_encoding.proofs.LinearSize.{term_shapes_are}
use Rattle.log_var.specs.Settings.{shape_map_of}
use Rattle.log_var.specs.Record.{int_map_of}
use Rattle.log_terms.specs.Terms.{TermFits, TermsFit, no_term, shapes_all, weighted_of}
use Rattle.log_terms.specs.declared.Weighted.{Weighted as WeightedLits}
use Rattle.log_sum.proofs.Filling.{Filling, filling_end, filling_start, filling_turn}

-- A coefficient -------------------------------------------------------------------------------------------------------

pub weighted_is : (z : ℤ) (ls : List ℕ) → record { negative = lt_z z (pos 0); coef = up z + down z; lits = ls } ≡ weighted z ls
weighted_is (pos k) ls = let z : 0 ≤ k = omega arith in rw (le-ltb k 0 z, add-zero k)
weighted_is (negsuc k) ls = rw (zero-add (suc k))

-- one literal more
pub lits_more : (out lits : List Lit) (i : ℕ) → i < length out → i < length lits → first_lits out i ≡ first_lits lits i
    → first_lits (set out i (get_or lits i (lit 0))) (i + 1) ≡ first_lits lits (i + 1)
lits_more out lits i h k e =
    let l = get_or lits i (lit 0) in
    rw (add-one i, take-suc-set out i l h, take-suc lits i (lit 0) k, map-append num (take i out) (l ∷ []), map-append num (take i lits) (l ∷ []), e)

-- Terms of an array ---------------------------------------------------------------------------------------------------

-- what a term is by its setting's literals
abbrev term_of : (ℕ → LogEncoding) → LinearTerm → Weighted
term_of im t = weighted t.coef (im t.var).lits

-- i terms are in the array; with those left they are all
abbrev pub Weighing : (ℕ → LogEncoding) → List ℤ → List WeightedLits → ℕ → Type 0
Weighing im zs ts i = Filling WeightedLits Weighted no_term weighted_of (TermFits 8) (term_of im) (weighted_terms im) zs ts i

pub weighing_start : (im : ℕ → LogEncoding) (zs : List ℤ) (ts : List WeightedLits) → length ts ≡ 7 → Weighing im zs ts 0
weighing_start im zs ts h = filling_start _ _ no_term weighted_of (TermFits 8) (term_of im) (weighted_terms im) zs ts h

module _ (im : ℕ → LogEncoding) {zs : List ℤ} {ts : List WeightedLits} {i : ℕ} (w : Weighing im zs ts i) (few : length zs ≤ 12) where
  pub weighing_turn : (t : WeightedLits) → i < length zs / 2
      → weighted_of t ≡ weighted (get_or zs (2 * i + 1) (pos 0)) (im (up (get_or zs (2 * i) (pos 0)))).lits → TermFits 8 t → Weighing im zs (set ts i t) (i + 1)
  weighing_turn t h e f = filling_turn _ _ no_term weighted_of (TermFits 8) (term_of im) (weighted_terms im) w few (λ x us. refl) t h e f

  pub weighing_end : length zs / 2 ≤ i → let us = take (length zs / 2) ts in (map weighted_of us ≡ weighted_terms im (terms_of zs)) × TermsFit 8 us
  weighing_end h =
      let r = filling_end _ _ no_term weighted_of (TermFits 8) (term_of im) (weighted_terms im) w few refl h in
      let long = length-take-le (length zs / 2) ts (omega (arith, w.long)) in (
        r.0,
        record {
          few = omega (arith, long);
          steps_fit = omega arith;
          fits = λ k l. let m : k < length zs / 2 = omega (arith, long, l) in rw (get_or-take (length zs / 2) ts k no_term m) (r.1 k m);
        },
      )

-- Sums over records ---------------------------------------------------------------------------------------------------

module _ (es : List Encoding) (op : NormOp) (constant : ℤ) (zs : List ℤ) (ts : List WeightedLits) (k : ℤ)
    (same : map weighted_of ts ≡ weighted_terms (int_map_of es) (terms_of zs)) (sum : k ≡ offset_constant (int_map_of es) constant (terms_of zs)) where
  -- the columns reached are those of the terms
  pub reached_is : linear_reached op (shapes_all ts) (up k) (down k) ≡ linear_log_reached (shape_map_of es) op constant (terms_of zs)
  reached_is =
      let s = ap (map shape_of) same ∙ term_shapes_are (int_map_of es) (terms_of zs) in
      λ i. linear_reached op (s i) (up (sum i)) (down (sum i))

  -- and so are the clauses
  pub encoded_is : (v : ℕ) → encode_weighted op (map weighted_of ts) k v ≡ encode_linear_log (int_map_of es) op constant (terms_of zs) v
  encoded_is v = λ i. encode_weighted op (same i) (sum i) v

-- the constant with the offsets, as the machine reads both
pub offset_read : (es : List Encoding) (zs : List ℤ) {k r : ℤ} → SFits w32 k → SFits w32 r → r ≡ offset_constant (int_map_of es) (to_z w32 (of_z w32 k)) (terms_of zs)
    → to_z w32 (of_z w32 r) ≡ offset_constant (int_map_of es) k (terms_of zs)
offset_read es zs {k} {r} f g e = to_z-of_z w32 r g ∙ e ∙ ap (λ (z : ℤ). offset_constant (int_map_of es) z (terms_of zs)) (to_z-of_z w32 k f)
