-- The ordering clauses of a carry, one after the other; a column's carry.
use mathlib.Core.Path.{◌≡◌, refl, ap, sym, ◌∙◌}
use mathlib.Core.List.{[], ◌∷◌, ◌++◌}
use Prim.Native.Nat.{ℕ, zero, suc, ◌+◌, ◌-◌, ◌*◌, ◌≤◌, ◌<◌}
use native.Mathlib.Nat.{not-suc-le-zero}
use native.Mathlib.Numerals.{add-one, sub-one}
use native.Mathlib.Omega.{arith}
use lib.ListN.{length}
use Rattle.sat.specs.Clause.{Clauses}
use Rattle.sat.specs.Size.{entries}
use Rattle.sat.specs.Lit.{neg}
use Rattle.sat.specs.Fresh.{fresh}
use Rattle.log_encoding.specs.Adder2.{ordering}

ordering_step : (n v : ℕ) → 1 < n → ordering (fresh n v) ≡ (2 * v ∷ neg (2 * (v + 1)) ∷ []) ∷ ordering (fresh (n - 1) (v + 1))
ordering_step zero v h = absurd (not-suc-le-zero h)
ordering_step (suc zero) v h = let z : 1 < 1 = h in absurd (omega arith)
ordering_step (suc (suc n)) v h =
    ap (λ (k : ℕ). (2 * v ∷ neg (2 * k) ∷ []) ∷ ordering (fresh (suc n) k)) (sym (add-one v))
    ∙ ap (λ (m : ℕ). (2 * v ∷ neg (2 * (v + 1)) ∷ []) ∷ ordering (fresh m (v + 1))) (sym (sub-one (suc (suc n))))

-- those from the i-th literal of a carry on
abbrev pub ordering_left : ℕ → ℕ → ℕ → Clauses
ordering_left n v i = ordering (fresh (n + 1 - i) (v + i - 1))

pub ordering_split : (n v i : ℕ) → 1 ≤ i → i < n → {a b : ℕ} → a ≡ 2 * (v + i - 1) → b ≡ neg (2 * (v + i))
    → ordering_left n v i ≡ ((a ∷ b ∷ []) ∷ []) ++ ordering_left n v (i + 1)
ordering_split n v i h k p q =
    let m : n + 1 - i - 1 ≡ n + 1 - (i + 1) = omega arith in
    let w : v + i - 1 + 1 ≡ v + i = omega arith in
    let u : v + i ≡ v + (i + 1) - 1 = omega arith in
    ordering_step (n + 1 - i) (v + i - 1) (omega arith)
    ∙ (λ j. (sym p j ∷ (ap (λ (x : ℕ). neg (2 * x)) w ∙ sym q) j ∷ []) ∷ ordering (fresh (m j) ((w ∙ u) j)))

pub ordering_none : (n v : ℕ) → n ≤ 1 → ordering (fresh n v) ≡ []
ordering_none zero v h = refl
ordering_none (suc zero) v h = refl
ordering_none (suc (suc n)) v h = absurd (omega arith)

pub ordering_size : (n v : ℕ) → (length (ordering (fresh n v)) ≤ n) × (entries (ordering (fresh n v)) ≤ 2 * n)
ordering_size zero v = (omega arith, omega arith)
ordering_size (suc zero) v = (omega arith, omega arith)
ordering_size (suc (suc n)) v = let r = ordering_size (suc n) (suc v) in (omega arith, omega arith)
