-- The loop over the columns: its invariant, a turn, and each way out.
use Prim.Native.Nat.{◌+◌, ◌-◌, ◌<◌, ◌≤◌, suc, ℕ}
use borrow.Author.Rules.{rules}
use lib.ListN.{get_or, get_or-append, length}
use lib.Seq.{take_all}
use mathlib.Core.Bool.{false}
use mathlib.Core.List.{List, [], ◌++◌, ◌∷◌}
use mathlib.Core.Path.{◌∙◌, ◌≡◌, ap, sym}
use native.Mathlib.Omega.{arith}
use Rattle.log_linear.specs.declared.RuleCounts.{RuleCounts}
use Rattle.log_encoding.specs.AdderSize.{eq_column_count, eq_reached, too_tall}
use Rattle.log_adder2.proofs.EqHeights.{column_fits, counts_from, counts_from_take, fits_step, tall_from}
use Rattle.eq_size.specs.declared.CountedColumns.{CountedColumns}
use Rattle.eq_size.specs.Counted.{ColumnCounted, Grown, InBounds, both, odd_bit, start}
use Rattle.eq_size.specs.Sized.{EqSized}
use Rattle.eq_size.proofs.Steps.{clauses_start}
use Rattle.eq_size.proofs.Bounds.{bounds_turn, wider}
use Rattle.eq_size.proofs.Left.{Left, left_dead, left_last, left_turn}

-- the columns before the last
pub others_at : (counts others : List ℕ) (own : ℕ) → counts ≡ others ++ (own ∷ []) → (i : ℕ) → i < length others → get_or counts i 0 ≡ get_or others i 0
others_at counts others own e i h = rw e (get_or-append others (own ∷ []) 0 i h)

module _ (counts : List ℕ) (x₀ y₀ : ℕ) where
  abbrev width : ℕ
  width = length counts

  abbrev last : ℕ
  last = width - 1

  -- the counts of the columns from the i-th on
  abbrev rest : ℕ → List ℕ
  rest i = counts_from counts (suc (last - i)) i

  -- before column i
  pub record ColumnsLeft (s : CountedColumns) (i : ℕ) : Type 0 where
    pub within : i ≤ last
    pub bounds : InBounds i s
    pub low : tall_from counts (suc (last - i)) i s.x s.y s.carry ≡ false
    pub left : Left counts x₀ y₀ (rest i) s

  pub columns_start : 1 ≤ width → x₀ ≤ 1073741824 → y₀ ≤ 1073741824
      → too_tall (eq_reached counts x₀ y₀ 0) ≡ false → ColumnsLeft (start x₀ y₀) 0
  columns_start some p q low =
      let w : width ≡ suc (last - 0) = omega arith in
      let all : rest 0 ≡ counts = sym (sym (take_all width counts (omega arith)) ∙ counts_from_take counts width (omega arith) ∙ ap (λ (n : ℕ). counts_from counts n 0) w) in
      record {
        within = omega arith;
        bounds = search rules;
        low = ap (λ (hs : List ℕ). too_tall (eq_reached hs x₀ y₀ 0)) all ∙ low;
        left = rw all record { vars = omega arith; clauses = clauses_start (λ d. 1) counts x₀ y₀; lits = clauses_start (λ d. d) counts x₀ y₀ };
      }

  module _ {s : CountedColumns} {i : ℕ} (l : ColumnsLeft s i) where
    pub column_room : get_or counts i 0 + s.carry ≤ 12
    column_room = column_fits counts (suc (last - i)) i s.x s.y s.carry (omega arith) l.low

    -- the i-th column, and those after it
    split : i < last → Left counts x₀ y₀ (get_or counts i 0 ∷ rest (i + 1)) s
    split h = let n : last - i ≡ suc (last - (i + 1)) = omega arith in rw n at l.left

    pub columns_turn : (r : CountedColumns) → i < last → odd_bit s ≤ get_or counts i 0 + s.carry → ColumnCounted (get_or counts i 0) s r → ColumnsLeft r (i + 1)
    columns_turn r h o a =
        let n : suc (last - i) - 1 ≡ suc (last - (i + 1)) = omega arith in
        record {
          within = omega arith;
          bounds = bounds_turn column_room a l.bounds;
          low = (λ j. tall_from counts (sym n j) (i + 1) (a.x j) (a.y j) (a.carry j))
              ∙ fits_step counts (suc (last - i)) i s.x s.y s.carry (omega arith) o l.low;
          left = left_turn counts x₀ y₀ _ _ _ s (split h) r o a;
        }

    pub columns_dead : (r : RuleCounts) → width ≤ 26 → i < last → get_or counts i 0 + s.carry < odd_bit s
        → (r.vars ≡ s.vars) × Grown (λ weigh. weigh 0) s.sent r.used → EqSized counts x₀ y₀ r
    columns_dead r few h o g =
        left_dead counts x₀ y₀ _ _ _ s (split h) r (wider (omega arith) l.bounds) o g.0 g.1

    pub last_room : last ≤ i → get_or counts last 0 + s.carry ≤ 12
    last_room h = let e : last ≡ i = omega (arith, l.within) in rw e column_room

    pub columns_end : (r : RuleCounts) → width ≤ 26 → last ≤ i
        → (r.vars ≡ s.vars) × Grown (λ weigh. eq_column_count weigh (get_or counts last 0) s.carry s.x 0 s.y) (both s) r.used
        → EqSized counts x₀ y₀ r
    columns_end r few h g =
        let e : i ≡ last = omega (arith, l.within) in
        let n : last - i ≡ 0 = omega arith in
        let one : rest i ≡ get_or counts last 0 ∷ [] = λ j. counts_from counts (suc (n j)) (e j) in
        left_last counts x₀ y₀ (get_or counts last 0) s r (rw one at l.left) (wider (omega (arith, l.within)) l.bounds) g.0 g.1
