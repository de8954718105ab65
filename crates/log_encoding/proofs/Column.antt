-- A column's clauses hold exactly where the next carry is ordered and the column adds up (`column_sat`).
use Prim.Native.Nat.{◌*◌, ◌+◌, ◌-◌, ◌<◌, ◌≤◌, ℕ}
use lib.ListN.{length, length-map}
use mathlib.Core.Bool.{So}
use mathlib.Core.List.{List, [], ◌∷◌, map}
use mathlib.Core.Logic.Iff
use mathlib.Core.Logic.{◌↔◌}
use mathlib.Core.Path.{◌≡◌}
use native.Mathlib.Omega.{arith}
use Rattle.sat.specs.Clause.{Assignment, bit, sat}
use Rattle.sat.specs.Count.{Monotone, count, lead}
use Rattle.sat.specs.Encodes.{ClausesBelow, LitsBelow}
use Rattle.sat.specs.Lit.{neg}
use Rattle.sat.proofs.Clauses.{sat_both}
use Rattle.sat.proofs.Counts.{count_le, count_neg, lead_le, lead_le_count, monotone_one}
use Rattle.sat.proofs.Extend.{clauses_below_append}
use Rattle.sat.proofs.Lits.{bit_neg, neg_below, negs_below}
use Rattle.log_encoding.specs.Terms.{flip, term}
use Rattle.log_encoding.proofs.Below.{Terms, enumerate_below, singles_below}
use Rattle.log_encoding.proofs.Enumerate.{singles_within}
use Rattle.log_encoding.proofs.Flip.{count_flip, flip_below, length_flip, monotone_flip}
use Rattle.log_encoding.specs.Column.{column, column_ge, column_le, ge_terms, le_terms}

module _ (α : Assignment) (own carry next : List ℕ) (r c : ℕ) (ordered : Monotone α carry) (fits : c ≤ 2 * length next + 1) where
  up : So (sat α (column_ge own carry c next r))
      ↔ (2 * (length next - lead α (flip next)) + bit α r ≤ c + count α own + count α carry)
  up =
      Iff.trans
      (singles_within
      α
      own
      (term 1 carry)
      (term 2 (flip next) ∷ term 1 (neg r ∷ []) ∷ [])
      (omega arith, monotone_one α (neg r))
      (c + length own + length carry))
      (omega (
        arith,
        bit_neg α r,
        count_le α own,
        count_le α carry,
        length_flip next,
      ))

  down : So (sat α (column_le own carry c next r))
      ↔ (c + count α own + count α carry ≤ 2 * lead α next + bit α r)
  down =
      Iff.trans
      (singles_within
      α
      (map neg own)
      (term 1 (flip carry))
      (term 2 next ∷ term 1 (r ∷ []) ∷ [])
      (omega arith, monotone_one α r)
      (2 * length next + 1 - c))
      (omega (
        arith,
        bit_neg α r,
        count_neg α own,
        length-map own neg,
        count_flip α carry,
        monotone_flip α carry ordered,
        length_flip carry,
        lead_le α next,
      ))

  pub column_sat : So (sat α (column own carry c next r))
      ↔ (Monotone α next × (c + count α own + count α carry ≡ 2 * count α next + bit α r))
  unfolding column
  column_sat =
      Iff.trans
      (sat_both α (column_ge own carry c next r) (column_le own carry c next r)) (
        λ h.
            let a : 2 * (length next - lead α (flip next)) + bit α r ≤ c + count α own + count α carry = up.0 h.0 in
            let b : c + count α own + count α carry ≤ 2 * lead α next + bit α r = down.0 h.1 in
            omega (arith, lead_le_count α next, count_flip α next, lead_le_count α (flip next)),
        λ h.
            let g : Monotone α (flip next) = monotone_flip α next h.0 in
            (up.1 (omega (arith, count_flip α next)), down.1 (omega arith)),
      )

module _ (v : ℕ) where
  pub column_below : (own carry next : List ℕ) (r c : ℕ) → LitsBelow v own → LitsBelow v carry → LitsBelow v next → r < 2 * v
      → ClausesBelow v (column own carry c next r)
  unfolding column
  column_below own carry next r c o k n b =
      let up : Terms v (ge_terms own carry next r) = singles_below v own _ o (k, (flip_below v next n, ((neg_below v r b, tt), tt))) in
      let down : Terms v (le_terms own carry next r) =
      singles_below v (map neg own) _ (negs_below v own o) (flip_below v carry k, (n, ((b, tt), tt))) in
      clauses_below_append
      v
      (column_ge own carry c next r)
      (column_le own carry c next r)
      (enumerate_below v (ge_terms own carry next r) (c + length own + length carry) [] up tt)
      (enumerate_below v (le_terms own carry next r) (2 * length next + 1 - c) [] down tt)
