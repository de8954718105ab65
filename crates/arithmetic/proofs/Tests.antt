-- Laws of Boolean tests, and equal tests from equivalent orders.
use Prim.Native.Nat.{◌≤◌, suc, zero, ℕ}
use borrow.Author.Tests.{eq-eqb, eqb-false, eqb-true, le-leb, leb-false, leb-true, lt-leb, ne_eqb}
use lib.Dec.{eqb, leb}
use mathlib.Core.Bool.{Bool, So, ◌&&◌, ◌||◌, false, false≢true, true}
use mathlib.Core.Logic.{◌↔◌, ◌⊎◌, inl, inr, ⊎_elim}
use mathlib.Core.Path.{◌∙◌, ◌≡◌, ap, refl, sym}
use native.Mathlib.Omega.{arith}

pub leb_same : (a b c d : ℕ) → a ≤ b ↔ c ≤ d → leb a b ≡ leb c d
leb_same a b c d e = go (leb a b) refl
  where
    go : (t : Bool) → leb a b ≡ t → leb a b ≡ leb c d
    go true q = q ∙ sym (le-leb c d (e.0 (leb-true a b q)))
    go false q =
        let no-cd : ¬ (c ≤ d) = λ h. omega (arith, leb-false a b q, e.1 h) in
        q ∙ sym (lt-leb c d (omega arith))

pub eqb_same : (a b c d : ℕ) → (a ≡ b) ↔ (c ≡ d) → eqb a b ≡ eqb c d
eqb_same a b c d e = go (eqb a b) refl
  where
    go : (t : Bool) → eqb a b ≡ t → eqb a b ≡ eqb c d
    go true q = q ∙ sym (eq-eqb c d (e.0 (eqb-true a b q)))
    go false q = q ∙ sym (ne_eqb c d (λ h. eqb-false a b q (e.1 h)))

pub leb_and : (a b s : ℕ) → b ≤ a → (leb a s && leb b s) ≡ leb a s
leb_and a b s h = go (leb a s) refl
  where
    go : (t : Bool) → leb a s ≡ t → (t && leb b s) ≡ t
    go true q = le-leb b s (omega (arith, leb-true a s q))
    go false q = refl

pub or_assoc : (a b c : Bool) → ((a || b) || c) ≡ (a || (b || c))
or_assoc true b c = refl
or_assoc false b c = refl

pub or_false : (a : Bool) → (a || false) ≡ a
or_false true = refl
or_false false = refl

pub or_true : (a : Bool) → (a || true) ≡ true
or_true true = refl
or_true false = refl

pub and_true : (a : Bool) → (a && true) ≡ a
and_true true = refl
and_true false = refl

pub and_assoc : (a b c : Bool) → ((a && b) && c) ≡ (a && (b && c))
and_assoc true b c = refl
and_assoc false b c = refl

pub So_same : {a b : Bool} → a ≡ b → So a ↔ So b
So_same e = (λ h. sym e ∙ h, λ h. e ∙ h)

pub never : {A : Type 0} → So false → A
never e = absurd (false≢true e)

-- equal or not
pub same_or : (a b : ℕ) → (a ≡ b) ⊎ (a ≡ b → ⊥)
same_or zero zero = inl refl
same_or zero (suc b) = inr (λ e. omega arith)
same_or (suc a) zero = inr (λ e. omega arith)
same_or (suc a) (suc b) = ⊎_elim (λ p. inl (ap suc p)) (λ f. inr (λ e. f (omega arith))) (same_or a b)
