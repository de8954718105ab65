-- The number that literals spell.
use Prim.Native.Nat.{◌*◌, ◌+◌, ◌/◌, ◌<◌, suc, zero, ℕ}
use lib.ListN.{drop, length}
use mathlib.Core.List.{List, [], ◌++◌, ◌∷◌, map}
use mathlib.Core.Logic.{by_cases}
use mathlib.Core.Path.{◌∙◌, ◌≡◌, ap, refl, sym}
use native.Mathlib.Decide.{dec_lt}
use native.Mathlib.Omega.{arith}
use Rattle.arithmetic.specs.Bits.{shl, testbit}
use Rattle.arithmetic.proofs.Bits.{low_bit}
use Rattle.sat.specs.Clause.{Assignment}
use Rattle.sat.specs.Encodes.{Agree, LitsBelow}
use Rattle.sat.specs.Fresh.{fresh}
use Rattle.sat.specs.Lit.{neg}
use Rattle.sat.specs.Number.{code_of}
use Rattle.sat.proofs.Extend.{bit_agree}
use Rattle.sat.proofs.Lits.{bit_holds, bit_le, bit_neg, holds_plain}

pub code_agree : (v : ℕ) (α β : Assignment) → Agree v α β → (ls : List ℕ) → LitsBelow v ls → code_of α ls ≡ code_of β ls
code_agree v α β g [] b = refl
code_agree v α β g (l ∷ ls) b = omega (arith, bit_agree v α β g l b.0, code_agree v α β g ls b.1)

pub code_append : (α : Assignment) (a b : List ℕ) → code_of α (a ++ b) ≡ code_of α a + shl (length a) (code_of α b)
code_append α [] b = omega arith
code_append α (x ∷ a) b = omega (arith, code_append α a b)

pub lits_drop : (v n : ℕ) (ls : List ℕ) → LitsBelow v ls → LitsBelow v (drop n ls)
lits_drop v zero ls b = b
lits_drop v (suc n) [] b = tt
lits_drop v (suc n) (l ∷ ls) b = lits_drop v n ls b.1

-- Eq -----------------------------------------------------------------------------------------------------------------

pub code_neg : (α : Assignment) (ls : List ℕ) → suc (code_of α (map neg ls) + code_of α ls) ≡ shl (length ls) 1
code_neg α [] = refl
code_neg α (l ∷ ls) = omega (arith, code_neg α ls, bit_neg α l)

-- New variables take every code in just one way ----------------------------------------------------------------------

pub fresh_code : (α : Assignment) (n v k : ℕ) → k < shl n 1 → ((i : ℕ) → i < n → α (v + i) ≡ testbit k i) → code_of α (fresh n v) ≡ k
fresh_code α zero v k h f = omega arith
fresh_code α (suc n) v k h f =
    rw (holds_plain α v ∙ ap α (omega arith) ∙ f 0 (omega arith), fresh_code α n (suc v) (k / 2) (omega arith) (λ i b. ap α (omega arith) ∙ f (suc i) (omega arith)))
    (sym (low_bit k))

pub fresh_same : (α β : Assignment) (n v : ℕ) → code_of α (fresh n v) ≡ code_of β (fresh n v) → Agree v α β → Agree (v + n) α β
fresh_same α β zero v e g x h = g x (omega arith)
fresh_same α β (suc n) v e g x h =
    fresh_same α β n (suc v) (omega (arith, bit_le α (2 * v), bit_le β (2 * v))) here x (omega arith)
  where
    here : Agree (suc v) α β
    here y b =
        by_cases (dec_lt y v) (g y)
        (λ high.
        let at : y ≡ v = omega arith in
        rw at (sym (holds_plain α v) ∙ bit_holds α β (2 * v) (omega (arith, bit_le α (2 * v), bit_le β (2 * v))) ∙ holds_plain β v))
