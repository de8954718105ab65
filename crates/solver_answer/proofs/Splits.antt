-- Laws of splitting.
use Prim.Native.Nat.{◌<◌, ℕ}
use borrow.Author.Tests.{eq-eqb, ne_eqb}
use lib.Dec.{eqb}
use mathlib.Core.Bool.{Bool, cond, false, true}
use mathlib.Core.List.{List, [], ◌++◌, ◌∷◌}
use mathlib.Core.Path.{◌≡◌, refl}
use native.Mathlib.Omega.{arith}
use Rattle.lines.specs.Integers.{all_digits, is_digit}
use Rattle.lines.proofs.Steps.{and_left, and_right, digit_from}
use Rattle.lines.specs.Reading.{ahead, first_piece, later_pieces, split}
use Rattle.solver_answer.specs.Lines.{kind, kinds}

-- no byte equals `sep`
abbrev pub Free : ℕ → List ℕ → Type 0
Free sep [] = Unit
Free sep (b ∷ bs) = (eqb b sep ≡ false) × Free sep bs

pub free_append : (sep : ℕ) (a b : List ℕ) → Free sep a → Free sep b → Free sep (a ++ b)
free_append sep [] b f g = g
free_append sep (x ∷ a) b f g = (f.0, free_append sep a b f.1 g)

-- digits have no byte below 48
pub digits_free : (sep : ℕ) (l : List ℕ) → sep < 48 → all_digits l ≡ true → Free sep l
unfolding all_digits
digits_free sep [] h d = tt
digits_free sep (b ∷ bs) h d =
    let g = digit_from b (and_left (is_digit b) _ d) in
    (ne_eqb b sep (λ q. omega (arith, q, g)), digits_free sep bs h (and_right (is_digit b) _ d))

pub split_some : (sep : ℕ) (a t : List ℕ) → Free sep a → split sep (a ++ (sep ∷ t)) ≡ a ∷ split sep t
unfolding split
split_some sep [] t f = rw (eq-eqb sep sep refl)
split_some sep (b ∷ a) t f = rw (f.0, split_some sep a t f.1)

pub split_none : (sep : ℕ) (a : List ℕ) → Free sep a → split sep a ≡ a ∷ []
unfolding split
split_none sep [] f = refl
split_none sep (b ∷ a) f = rw (f.0, split_none sep a f.1)

-- a split has a piece
pub split_pieces : (sep : ℕ) (u : List ℕ) → split sep u ≡ first_piece (split sep u) ∷ later_pieces (split sep u)
unfolding split
split_pieces sep [] = refl
split_pieces sep (b ∷ bs) = by (eqb b sep) (split sep bs)
  where
    by : (t : Bool) (ps : List (List ℕ)) → cond t ([] ∷ ps) (ahead b ps) ≡ first_piece (cond t ([] ∷ ps) (ahead b ps)) ∷ later_pieces (cond t ([] ∷ ps) (ahead b ps))
    by true ps = refl
    by false [] = refl
    by false (p ∷ ps) = refl

pub kinds_line : (l t : List ℕ) → kinds (l ∷ split 10 t) ≡ kind l ∷ kinds (split 10 t)
unfolding split kinds
kinds_line l [] = by l
  where
    by : (k : List ℕ) → kinds (k ∷ [] ∷ []) ≡ kind k ∷ []
    by [] = refl
    by (b ∷ bs) = refl
kinds_line l (b ∷ bs) = by l (eqb b 10) (split 10 bs)
  where
    by : (k : List ℕ) (c : Bool) (ps : List (List ℕ)) → kinds (k ∷ cond c ([] ∷ ps) (ahead b ps)) ≡ kind k ∷ kinds (cond c ([] ∷ ps) (ahead b ps))
    by [] true ps = refl
    by (x ∷ k) true ps = refl
    by [] false [] = refl
    by (x ∷ k) false [] = refl
    by [] false (p ∷ ps) = refl
    by (x ∷ k) false (p ∷ ps) = refl
