-- The literals of new variables.
use Prim.Native.Nat.{◌*◌, ◌+◌, ◌-◌, ◌<◌, ◌≤◌, suc, zero, ℕ}
use borrow.Author.Tests.{le-ltb, lt-ltb}
use lib.Dec.{leb, ltb}
use lib.ListN.{get_or, length}
use mathlib.Core.Logic.{by_cases}
use mathlib.Core.List.{List, [], ◌++◌, ◌∷◌}
use mathlib.Core.Path.{◌∙◌, ◌≡◌, ap, ap₂, refl, sym}
use native.Mathlib.Decide.{dec_lt}
use native.Mathlib.Omega.{arith}
use Rattle.arithmetic.proofs.Tests.{leb_same}
use Rattle.sat.specs.Clause.{Assignment, holds}
use Rattle.sat.specs.Count.{Monotone, count, lead}
use Rattle.sat.specs.Encodes.{Agree, LitsBelow}
use Rattle.sat.specs.Fresh.{fresh}
use Rattle.sat.proofs.Counts.{monotone_at}
use Rattle.sat.proofs.Lits.{holds_plain}

pub length_fresh : (n v : ℕ) → length (fresh n v) ≡ n
length_fresh zero v = refl
length_fresh (suc n) v = ap suc (length_fresh n (suc v))

pub fresh_at : (n v j : ℕ) → j < n → get_or (fresh n v) j 0 ≡ 2 * (v + j)
fresh_at zero v j h = absurd (omega arith)
fresh_at (suc n) v zero h = omega arith
fresh_at (suc n) v (suc j) h = fresh_at n (suc v) j (omega arith) ∙ omega arith

pub fresh_below : (n v w : ℕ) → v + n ≤ w → LitsBelow w (fresh n v)
fresh_below zero v w h = tt
fresh_below (suc n) v w h = (omega arith, fresh_below n (suc v) w (omega arith))

head : (α : Assignment) (v : ℕ) → holds α (2 * v) ≡ α (v + 0)
head α v = holds_plain α v ∙ ap α (omega arith)

next : (α : Assignment) (v i : ℕ) → α (suc v + i) ≡ α (v + suc i)
next α v i = ap α (omega arith)

-- variables of which the first k are true
pub fresh_lead : (α : Assignment) (n v k : ℕ) → k ≤ n → ((i : ℕ) → i < n → α (v + i) ≡ ltb i k)
    → (lead α (fresh n v) ≡ k) × (count α (fresh n v) ≡ k)
fresh_lead α zero v k h f = omega arith
fresh_lead α (suc n) v zero h f =
    rw (head α v ∙ f 0 (omega arith))
    (omega (arith, fresh_lead α n (suc v) 0 (omega arith) (λ i b. next α v i ∙ f (suc i) (omega arith) ∙ all_false i)))
  where
    all_false : (i : ℕ) → ltb (suc i) 0 ≡ ltb i 0
    all_false i = le-ltb (suc i) 0 (omega arith) ∙ sym (le-ltb i 0 (omega arith))
fresh_lead α (suc n) v (suc k) h f =
    rw (head α v ∙ f 0 (omega arith) ∙ lt-ltb 0 (suc k) (omega arith))
    (omega
    (arith, fresh_lead α n (suc v) k (omega arith) (λ i b. next α v i ∙ f (suc i) (omega arith) ∙ leb_same (suc (suc i)) (suc k) (suc i) k (omega arith))))

fresh_holds : (α : Assignment) (n v x : ℕ) → Monotone α (fresh n v) → v ≤ x → x < v + n → α x ≡ leb (suc (x - v)) (count α (fresh n v))
fresh_holds α n v x f low high =
    sym (holds_plain α x)
    ∙ ap (holds α) (sym (fresh_at n v (x - v) (omega arith) ∙ omega arith))
    ∙ monotone_at α (fresh n v) (x - v) f (omega (arith, length_fresh n v))
    ∙ ap (leb (suc (x - v))) f

-- falling literals of new variables are settled by how many hold
pub fresh_agree : (α β : Assignment) (n v : ℕ) → Monotone α (fresh n v) → Monotone β (fresh n v)
    → count α (fresh n v) ≡ count β (fresh n v) → Agree v α β → Agree (v + n) α β
fresh_agree α β n v f g e agree x h =
    by_cases (dec_lt x v) (agree x)
    (λ high. fresh_holds α n v x f (omega arith) h ∙ ap (leb (suc (x - v))) e ∙ sym (fresh_holds β n v x g (omega arith) h))

-- one variable more
pub fresh_last : (n v : ℕ) → fresh (suc n) v ≡ fresh n v ++ (2 * (v + n) ∷ [])
fresh_last zero v = ap (λ (x : ℕ). 2 * x ∷ []) (omega arith)
fresh_last (suc n) v = ap (λ (xs : List ℕ). 2 * v ∷ xs) (fresh_last n (suc v) ∙ ap (λ (x : ℕ). fresh n (suc v) ++ (2 * x ∷ [])) (omega arith))

-- One turn of a loop over new variables ------------------------------------------------------------------------------

pub fresh_start : (n v : ℕ) → fresh n v ≡ fresh (n - 0) (v + 0)
fresh_start n v =
    let m : n ≡ n - 0 = omega arith in
    let w : v ≡ v + 0 = omega arith in
    ap₂ fresh m w

pub fresh_step : (n v i : ℕ) → i < n → fresh (n - i) (v + i) ≡ 2 * (v + i) ∷ fresh (n - (i + 1)) (v + (i + 1))
fresh_step n v i h =
    let e : n - i ≡ suc (n - (i + 1)) = omega arith in
    let f : suc (v + i) ≡ v + (i + 1) = omega arith in
    ap (λ m. fresh m (v + i)) e ∙ ap (λ w. 2 * (v + i) ∷ fresh (n - (i + 1)) w) f

pub fresh_end : (n v i : ℕ) → n ≤ i → fresh (n - i) (v + i) ≡ []
fresh_end n v i h = let e : n - i ≡ 0 = omega arith in ap (λ m. fresh m (v + i)) e
