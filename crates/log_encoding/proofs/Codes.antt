-- The codes of a list's values.
use lib.Dec.{eqb}
use lib.IntN.{ℤ}
use lib.Signed.{◌≤ℤ◌}
use mathlib.Core.Bool.{So}
use mathlib.Core.List.{List, [], ◌∷◌, map}
use mathlib.Core.Logic.{◌↔◌, by_cases, inl, inr, ⊎_elim}
use mathlib.Core.Path.{◌∙◌, ◌≡◌, ap, refl, sym}
use native.Mathlib.Decide.{ℕ_discrete}
use native.Mathlib.Omega.{arith}
use Prim.Native.Nat.{ℕ}
use borrow.Author.Tests.{eq-eqb, eqb-true}
use Rattle.arithmetic.specs.Offset.{code, value}
use Rattle.arithmetic.proofs.Integers.{<ℤ_le, less_read, ≤ℤ_trans}
use Rattle.arithmetic.proofs.Offset.{code_read, value_code}
use Rattle.norm_csp.specs.Domain.{OneOf, RisingFrom, last_from}
use Rattle.log_encoding.proofs.Domain.{RisingCodes, among, among_here, among_later, among_rest, last_code}

pub codes_rise : (o k : ℤ) (ms : List ℤ) → RisingFrom k ms → o ≤ℤ k → RisingCodes (code o k) (map (code o) ms)
codes_rise o k [] r h = tt
codes_rise o k (m ∷ ms) r h =
    let om = ≤ℤ_trans o k m h (<ℤ_le k m r.0) in
    (omega (arith, code_read o k h, code_read o m om, less_read k m r.0), codes_rise o m ms r.1 om)

pub codes_top : (o k : ℤ) (ms : List ℤ) → last_code (code o k) (map (code o) ms) ≡ code o (last_from k ms)
codes_top o k [] = refl
codes_top o k (m ∷ ms) = codes_top o m ms

-- a value of the list, by its code
pub codes_are : (o k : ℤ) (ms : List ℤ) → RisingFrom k ms → o ≤ℤ k → (z : ℤ)
    → OneOf z (k ∷ ms) ↔ ((c : ℕ) × So (among c (code o k) (map (code o) ms)) × (value o c ≡ z))
codes_are o k [] r h z = (
  ⊎_elim (λ e. (code o k, eq-eqb (code o k) (code o k) refl, value_code o k h ∙ sym e)) (λ none. absurd none),
  λ p. inl (sym p.2 ∙ ap (value o) (eqb-true p.0 (code o k) p.1) ∙ value_code o k h),
)
codes_are o k (m ∷ ms) r h z =
    let ih = codes_are o m ms r.1 (≤ℤ_trans o k m h (<ℤ_le k m r.0)) z in (
      ⊎_elim
          (λ e. (code o k, among_here (code o k) (code o k) (among (code o k) (code o m) (map (code o) ms)) refl, value_code o k h ∙ sym e))
          (λ l. let (c, a, e) = ih.0 l in (c, among_later (eqb c (code o k)) (among c (code o m) (map (code o) ms)) a, e)),
      λ p.
          by_cases (ℕ_discrete p.0 (code o k))
          (λ e. inl (sym p.2 ∙ ap (value o) e ∙ value_code o k h))
          (λ ne. inr (ih.1 (p.0, among_rest p.0 (code o k) (among p.0 (code o m) (map (code o) ms)) p.1 ne, p.2))),
    )
