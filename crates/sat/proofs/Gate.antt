-- A new variable that clauses tie to a test of the old ones; clauses that tie none.
use Prim.Native.Nat.{suc, ℕ}
use mathlib.Core.Bool.{Bool, beq, So, false, true}
use mathlib.Core.List.{List}
use mathlib.Core.Logic.{◌↔◌, by_cases}
use mathlib.Core.Path.{◌∙◌, ◌≡◌, ap, refl, sym}
use native.Mathlib.Decide.{dec_lt}
use native.Mathlib.Omega.{arith}
use Rattle.arithmetic.proofs.Tests.{never}
use Rattle.sat.specs.Clause.{Assignment, sat}
use Rattle.sat.specs.Encodes.{Agree, ClausesBelow, Encodes}
use Rattle.sat.proofs.Extend.{over, over_agree, over_new}

beq_eq : (a b : Bool) → So (beq a b) → a ≡ b
beq_eq true true h = refl
beq_eq true false h = never h
beq_eq false true h = never h
beq_eq false false h = refl

beq_same : (a b : Bool) → a ≡ b → So (beq a b)
beq_same a b e = rw e (go b)
  where
    go : (b : Bool) → So (beq b b)
    go true = refl
    go false = refl

-- the clauses hold where the new variable is F
module _ (v : ℕ) (cs : List (List ℕ)) (F : Assignment → Bool) (is : (α : Assignment) → sat α cs ≡ beq (α v) (F α)) where
  pub gate_value : (α : Assignment) → So (sat α cs) → α v ≡ F α
  gate_value α h = beq_eq (α v) (F α) (sym (is α) ∙ h)

  pub gate : (P : Assignment → Type 0) → ClausesBelow (suc v) cs → ((α β : Assignment) → Agree v α β → F α ≡ F β)
      → Encodes v (suc v) P (λ α. Unit {0}) cs
  gate P low stable =
      record {
        grows = omega arith;
        below = low;
        sound = λ α p h. tt;
        complete = λ α p _.
            let β = over v (λ _. F α) α in
            let g : Agree v α β = over_agree v (λ _. F α) α in
            (β, g, is β ∙ beq_same (β v) (F β) (ap β (omega arith) ∙ over_new v (λ _. F α) α 0 ∙ stable α β g));
        unique = λ α β p g h k.
            λ x b. by_cases (dec_lt x v) (g x)
            (λ high.
            let e : x ≡ v = omega arith in
            rw e (gate_value α h ∙ stable α β g ∙ sym (gate_value β k)));
      }

-- clauses that speak of old variables alone
pub check : (v : ℕ) (P R : Assignment → Type 0) (cs : List (List ℕ)) → ClausesBelow v cs → ((α : Assignment) → So (sat α cs) ↔ R α) → Encodes v v P R cs
check v P R cs low is =
    record {
      grows = omega arith;
      below = low;
      sound = λ α p h. (is α).0 h;
      complete = λ α p r. (α, (λ x b. refl), (is α).1 r);
      unique = λ α β p g h k. g;
    }
