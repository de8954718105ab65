-- Laws of the lines of a text.
use Prim.Native.Nat.{◌+◌, ◌-◌, ◌<◌, ◌≤◌, ℕ}
use borrow.Author.Tests.{ltb-false, ltb-true}
use lib.Dec.{eqb, ltb}
use lib.ListN.{drop, length, length-drop, take}
use lib.Seq.{drop-drop, take_all}
use mathlib.Core.Bool.{Bool, cond, false, not, true, true≢false}
use mathlib.Core.List.{List, [], ◌∷◌}
use mathlib.Core.Path.{◌∙◌, ◌≡◌, ap, refl, sym}
use native.Mathlib.Omega.{arith}
use Rattle.std.specs.Prelude.{Option, Some, None, is_some}
use Rattle.std.specs.List.{onto_first, position, position_or_len, slice_split}
use Rattle.std.proofs.lemmas.List.Splits.{slice_split_first}
use Rattle.solver_reading.specs.declared.Phase.TheVariants.{Broken}
use Rattle.lines.specs.Reading.{ahead, first_piece, later_pieces, split}
use Rattle.solver_answer.proofs.Splits.{split_pieces}
use Rattle.solver_reading.specs.Reading.{Run, after_line, after_lines, in_phase}

-- the pieces of a text are those that the library gives
pub split_is : (sep : ℕ) (l : List ℕ) → split sep l ≡ slice_split (λ b. eqb b sep) l
unfolding split
split_is sep [] = refl
split_is sep (b ∷ bs) = rw (split_is sep bs) (by (eqb b sep) (slice_split (λ c. eqb c sep) bs))
  where
    by : (t : Bool) (ps : List (List ℕ)) → cond t ([] ∷ ps) (ahead b ps) ≡ cond t ([] ∷ ps) (onto_first b ps)
    by true ps = refl
    by false [] = refl
    by false (p ∷ ps) = refl

lines_two : (n : ℕ) (r : Run) (k p : List ℕ) (ps : List (List ℕ)) → after_lines n r (k ∷ p ∷ ps) ≡ after_lines n (after_line n r k) (p ∷ ps)
unfolding after_lines
lines_two n r [] p ps = refl
lines_two n r (b ∷ k) p ps = refl

pub lines_line : (n : ℕ) (r : Run) (l t : List ℕ) → after_lines n r (l ∷ split 10 t) ≡ after_lines n (after_line n r l) (split 10 t)
lines_line n r l t = ap (λ (ps : List (List ℕ)). after_lines n r (l ∷ ps)) (split_pieces 10 t) ∙ by l ∙ ap (after_lines n (after_line n r l)) (sym (split_pieces 10 t))
  where
    by : (k : List ℕ) → after_lines n r (k ∷ first_piece (split 10 t) ∷ later_pieces (split 10 t)) ≡ after_lines n (after_line n r k) (first_piece (split 10 t) ∷ later_pieces (split 10 t))
    by k = lines_two n r k (first_piece (split 10 t)) (later_pieces (split 10 t))

-- The next line ---------------------------------------------------------------------------------------------------------

abbrev feed : ℕ → Bool
feed b = eqb b 10

abbrev pub Place : List ℕ → Option ℕ → Type 0
Place s r = r ≡ position (λ b. eqb b 10) s

-- where the next line feed is, or none
place_some : (s : List ℕ) (e : ℕ) → position feed s ≡ Some e → (e ≡ position_or_len feed s) × (e < length s)
place_some s e h = by (ltb (position_or_len feed s) (length s)) refl h
  where
    by : (b : Bool) → ltb (position_or_len feed s) (length s) ≡ b → cond b (Some (position_or_len feed s)) None ≡ Some e → (e ≡ position_or_len feed s) × (e < length s)
    by true q h =
        let y : e ≡ position_or_len feed s = cc in
        let t = ltb-true (position_or_len feed s) (length s) q in
        (y, omega (arith, y, t))
    by false q h = absurd (true≢false (sym (ap is_some h)))

place_none : (s : List ℕ) → position feed s ≡ None → length s ≤ position_or_len feed s
place_none s h = by (ltb (position_or_len feed s) (length s)) refl h
  where
    by : (b : Bool) → ltb (position_or_len feed s) (length s) ≡ b → cond b (Some (position_or_len feed s)) None ≡ None → length s ≤ position_or_len feed s
    by true q h = absurd (true≢false (ap is_some h))
    by false q h = ltb-false (position_or_len feed s) (length s) q

split_first : (s : List ℕ) (e : ℕ) → position feed s ≡ Some e → split 10 s ≡ take e s ∷ split 10 (drop (e + 1) s)
split_first s e h =
    let p = place_some s e h in
    let l : position_or_len feed s < length s = omega (arith, p.0, p.1) in
    split_is 10 s ∙ slice_split_first feed s 0 l ∙ rw (p.0, split_is 10 (drop (position_or_len feed s + 1) s))

split_last : (s : List ℕ) → length s ≤ position_or_len feed s → split 10 s ≡ s ∷ []
unfolding split
split_last [] h = refl
split_last (b ∷ bs) h = by (eqb b 10) refl h (split_last bs)
  where
    by : (t : Bool) → eqb b 10 ≡ t → length (b ∷ bs) ≤ cond (not t) (1 + position_or_len feed bs) 0 → (length bs ≤ position_or_len feed bs → split 10 bs ≡ bs ∷ [])
        → cond t ([] ∷ split 10 bs) (ahead b (split 10 bs)) ≡ (b ∷ bs) ∷ []
    by true q h f = absurd (omega arith)
    by false q h f = rw (f (omega arith))

-- what is left behind a line feed
pub behind_feed : (s b : List ℕ) (e : ℕ) → b ≡ drop e s → take (length b - 1) (drop 1 b) ≡ drop (e + 1) s
behind_feed s b e h =
    let l : length (drop 1 b) ≤ length b - 1 = rw length-drop (omega arith) in
    take_all (length b - 1) (drop 1 b) l ∙ rw (h, drop-drop)

module _ (n : ℕ) (r : Run) (s : List ℕ) {g : Run} (left : after_lines n r (split 10 s) ≡ g) where
  pub lines_turn : {e n' : ℕ} {o : Option ℕ} {q : Run} {l t : List ℕ} → Place s o → o ≡ Some e → n' ≡ n → l ≡ take e s → t ≡ drop (e + 1) s → q ≡ after_line n r l
      → after_lines n' q (split 10 t) ≡ g
  lines_turn {e} p h z k d w =
      rw (z, d, w, k) (sym (lines_line n r (take e s) (drop (e + 1) s)) ∙ ap (after_lines n r) (sym (split_first s e (sym p ∙ h))) ∙ left)

  pub lines_end : length s ≡ 0 → r ≡ g
  unfolding after_lines split
  lines_end h = by s h left
    where
      by : (u : List ℕ) → length u ≡ 0 → after_lines n r (split 10 u) ≡ g → r ≡ g
      by [] z a = a
      by (b ∷ bs) z a = absurd (omega (arith, z))

  pub lines_broken : {o : Option ℕ} → Place s o → o ≡ None → (length s ≡ 0 → ⊥) → in_phase r Broken ≡ g
  unfolding after_lines
  lines_broken p o h = by s (split_last s (place_none s (sym p ∙ o))) h left
    where
      by : (u : List ℕ) → split 10 u ≡ u ∷ [] → (length u ≡ 0 → ⊥) → after_lines n r (split 10 u) ≡ g → in_phase r Broken ≡ g
      by [] e z a = absurd (z refl)
      by (b ∷ bs) e z a = ap (after_lines n r) (sym e) ∙ a
