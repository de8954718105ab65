-- Laws of a line's word.
use Prim.Native.Nat.{◌+◌, ℕ}
use borrow.Author.Tests.{eqb-true}
use denote.Ref.{Bor}
use lib.Dec.{eqb}
use lib.ListN.{drop, length, take}
use lib.Pointwise.{pointwise}
use mathlib.Core.Bool.{Bool, cond, false, true, true≢false}
use mathlib.Core.List.{List, [], ◌++◌, ◌∷◌}
use mathlib.Core.Path.{◌∙◌, ◌≡◌, refl, subst, sym}
use Rattle.std.proofs.lemmas.Bool.Decides.{Decides-eqb}
use Rattle.std.proofs.lemmas.Slice.Eq.{compares_Decides, slice_eq-Decides, starts_is, strip_prefix_is}
use Rattle.std.specs.Bool.{Decides}
use Rattle.std.specs.Prelude.{MatchOption, Option, Some, None}
use Rattle.lines.specs.Reading.{ahead, split}
use Rattle.lines.proofs.Steps.{and_false}
use Rattle.solver_answer.specs.Lines.{same, satisfiable_line, unsatisfiable_line}
use Rattle.solver_answer.proofs.Splits.{split_pieces}
use Rattle.solver_lines.specs.Lines.{by_first, other, pieces, remark, values_word, verdict, worded}

-- the two lists are the same
pub same_decides : (a b : List ℕ) → Decides (same a b) (a ≡ b)
unfolding same
same_decides a b = compares_Decides same (record { empty = refl; shorter = λ y ys. refl; longer = λ x xs. refl; heads = λ x y xs ys. refl }) a b

pub same_no : (a b : List ℕ) → (a ≡ b → ⊥) → same a b ≡ false
same_no a b h = by (same a b) refl
  where
    by : (t : Bool) → same a b ≡ t → t ≡ false
    by true e = absurd (h ((same_decides a b).0 e))
    by false e = refl

-- what the library's tests say of two slices
pub bytes_are : {l m : List ℕ} {r : Bool} → r ≡ pointwise eqb l m → r ≡ true → l ≡ m
bytes_are {l} {m} e h = (slice_eq-Decides Decides-eqb l m _ e).0 h

pub bytes_differ : {l m k : List ℕ} {r : Bool} → r ≡ pointwise eqb l m → r ≡ false → m ≡ k → l ≡ k → ⊥
bytes_differ {l} {m} e h k q = true≢false (sym ((slice_eq-Decides Decides-eqb l m _ e).1 (q ∙ sym k)) ∙ h)

module _ (l p : List ℕ) where
  pub starts : {r : Bool} → r ≡ pointwise eqb p (take (length p) l) → r ≡ true → l ≡ p ++ drop (length p) l
  starts e h = (starts_is Decides-eqb l p _ e).0 h

  pub starts_not : {r : Bool} → r ≡ pointwise eqb p (take (length p) l) → r ≡ false → (t : List ℕ) → l ≡ p ++ t → ⊥
  starts_not e h t q = true≢false (sym ((starts_is Decides-eqb l p _ e).1 t q) ∙ h)

  abbrev pub Strips : Option (Bor (List ℕ)) → Type 0
  Strips r =
      MatchOption r (pointwise eqb (take (length p) l) p ≡ false)
      (λ x. (pointwise eqb (take (length p) l) p ≡ true) × (x.now ≡ drop (length p) l) × (length x.now + length p ≡ length l))

  pub stripped : {r : Option (Bor (List ℕ))} {x : Bor (List ℕ)} → Strips r → r ≡ Some x → l ≡ p ++ x.now
  stripped {r} {x} s e = let S : Option (Bor (List ℕ)) → Type 0 = λ o. Strips o in strip_prefix_is Decides-eqb l p (Some x) (subst S e s)

  pub not_stripped : {r : Option (Bor (List ℕ))} → Strips r → r ≡ None → (t : List ℕ) → l ≡ p ++ t → ⊥
  not_stripped {r} s e = let S : Option (Bor (List ℕ)) → Type 0 = λ o. Strips o in strip_prefix_is Decides-eqb l p None (subst S e s)

-- the lines by their bytes
pub line_satisfiable : (l : List ℕ) → l ≡ satisfiable_line → verdict true ≡ worded l
unfolding worded same
line_satisfiable l e = rw e

pub line_unsatisfiable : (l : List ℕ) → l ≡ unsatisfiable_line → verdict false ≡ worded l
unfolding worded same
line_unsatisfiable l e = rw e

some_pieces : (t : List ℕ) → pieces (split 32 t) ≡ values_word (split 32 t)
unfolding values_word
some_pieces t = let P : List (List ℕ) → Type 0 = λ ps. pieces ps ≡ values_word ps in subst P (sym (split_pieces 32 t)) refl

pub line_values : (l t : List ℕ) → l ≡ 118 ∷ 32 ∷ t → pieces (split 32 t) ≡ worded l
unfolding worded same by_first split
line_values l t e = rw e (some_pieces t)

pub line_comment : (l : List ℕ) → l ≡ 99 ∷ [] → remark ≡ worded l
unfolding worded same by_first split
line_comment l e = rw e

pub line_remark : (l t : List ℕ) → l ≡ 99 ∷ 32 ∷ t → remark ≡ worded l
unfolding worded same by_first split
line_remark l t e = rw e

-- a line that is none of these
other_word : (l : List ℕ) → ((t : List ℕ) → l ≡ 118 ∷ 32 ∷ t → ⊥) → (l ≡ 99 ∷ [] → ⊥) → ((t : List ℕ) → l ≡ 99 ∷ 32 ∷ t → ⊥) → other ≡ by_first (split 32 l)
unfolding same by_first split values_word
other_word [] v c r = refl
other_word (x ∷ []) v c r = by (eqb x 32) (eqb x 99) refl (eqb x 118) refl
  where
    by : (s c' : Bool) → eqb x 99 ≡ c' → (v' : Bool) → eqb x 118 ≡ v' → other ≡ by_first (cond s ([] ∷ [] ∷ []) ((x ∷ []) ∷ []))
    by true c' e v' f = refl
    by false true e v' f = absurd (c (rw (eqb-true x 99 e)))
    by false false e true f = rw (e, f)
    by false false e false f = rw (e, f)
other_word (x ∷ y ∷ t) v c r = by (eqb x 32) (eqb y 32) refl (eqb x 99) refl (eqb x 118) refl
  where
    long : (ps : List (List ℕ)) → other ≡ by_first (ahead x (ahead y ps))
    long [] = rw (and_false (eqb x 99), and_false (eqb x 118))
    long (p ∷ ps) = rw (and_false (eqb x 99), and_false (eqb x 118))

    by : (s z : Bool) → eqb y 32 ≡ z → (c' : Bool) → eqb x 99 ≡ c' → (v' : Bool) → eqb x 118 ≡ v'
        → other ≡ by_first (cond s ([] ∷ cond z ([] ∷ split 32 t) (ahead y (split 32 t))) (ahead x (cond z ([] ∷ split 32 t) (ahead y (split 32 t)))))
    by true z g c' e v' f = refl
    by false true g true e v' f = absurd (r t (rw (eqb-true x 99 e, eqb-true y 32 g)))
    by false true g false e true f = absurd (v t (rw (eqb-true x 118 f, eqb-true y 32 g)))
    by false true g false e false f = rw (e, f)
    by false false g c' e v' f = long (split 32 t)

pub line_other : (l : List ℕ) → (l ≡ satisfiable_line → ⊥) → (l ≡ unsatisfiable_line → ⊥)
    → ((t : List ℕ) → l ≡ 118 ∷ 32 ∷ t → ⊥) → (l ≡ 99 ∷ [] → ⊥) → ((t : List ℕ) → l ≡ 99 ∷ 32 ∷ t → ⊥) → other ≡ worded l
unfolding worded
line_other l a b v c r = rw (same_no l satisfiable_line a, same_no l unsatisfiable_line b) (other_word l v c r)
