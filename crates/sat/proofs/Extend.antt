-- Assignments that agree on the first variables, and how blocks of clauses compose.
use Prim.Native.Nat.{◌*◌, ◌+◌, ◌-◌, ◌/◌, ◌<◌, ◌≤◌, ℕ}
use borrow.Author.Tests.{le-ltb, lt-ltb}
use lib.Dec.{ltb}
use mathlib.Core.Bool.{Bool, So, ◌&&◌, cond, false, true}
use mathlib.Core.List.{List, [], ◌++◌, ◌∷◌}
use mathlib.Core.Logic.{◌↔◌}
use mathlib.Core.Path.{◌∙◌, ◌≡◌, ap, ap₂, refl, sym}
use native.Mathlib.Omega.{arith}
use Rattle.sat.specs.Clause.{Assignment, bit, clause_sat, holds, sat}
use Rattle.sat.specs.Count.{Monotone, count, lead}
use Rattle.sat.specs.Encodes.{Agree, Any, ClausesBelow, Completed, Encodes, LitsBelow}
use Rattle.sat.proofs.Clauses.{sat_append, sat_both}

pub agree_sym : (v : ℕ) (α β : Assignment) → Agree v α β → Agree v β α
agree_sym v α β a x h = sym (a x h)

pub agree_trans : (v : ℕ) (α β γ : Assignment) → Agree v α β → Agree v β γ → Agree v α γ
agree_trans v α β γ a b x h = a x h ∙ b x h

pub agree_less : (v v' : ℕ) (α β : Assignment) → v ≤ v' → Agree v' α β → Agree v α β
agree_less v v' α β le a x h = a x (omega arith)

module _ (v : ℕ) (α β : Assignment) (agree : Agree v α β) where
  pub holds_agree : (l : ℕ) → l < 2 * v → holds α l ≡ holds β l
  unfolding holds
  holds_agree l h = rw (agree (l / 2) (omega arith))

  pub bit_agree : (l : ℕ) → l < 2 * v → bit α l ≡ bit β l
  bit_agree l h = rw (holds_agree l h)

  pub count_agree : (ls : List ℕ) → LitsBelow v ls → count α ls ≡ count β ls
  count_agree [] b = refl
  count_agree (l ∷ ls) b = ap₂ (λ x y. x + y) (bit_agree l b.0) (count_agree ls b.1)

  pub lead_agree : (ls : List ℕ) → LitsBelow v ls → lead α ls ≡ lead β ls
  lead_agree [] b = refl
  lead_agree (l ∷ ls) b = rw (holds_agree l b.0, lead_agree ls b.1)

  pub monotone_agree : (ls : List ℕ) → LitsBelow v ls → Monotone α ls → Monotone β ls
  monotone_agree ls b f = sym (lead_agree ls b) ∙ f ∙ count_agree ls b

  pub clause_sat_agree : (ls : List ℕ) → LitsBelow v ls → clause_sat α ls ≡ clause_sat β ls
  clause_sat_agree [] b = refl
  clause_sat_agree (l ∷ ls) b = rw (holds_agree l b.0, clause_sat_agree ls b.1)

  pub sat_agree : (cs : List (List ℕ)) → ClausesBelow v cs → sat α cs ≡ sat β cs
  sat_agree [] b = refl
  sat_agree (c ∷ cs) b = rw (clause_sat_agree c b.0, sat_agree cs b.1)

pub lits_below_more : (v v' : ℕ) (ls : List ℕ) → v ≤ v' → LitsBelow v ls → LitsBelow v' ls
lits_below_more v v' [] h b = tt
lits_below_more v v' (l ∷ ls) h b = (omega arith, lits_below_more v v' ls h b.1)

pub clauses_below_more : (v v' : ℕ) (cs : List (List ℕ)) → v ≤ v' → ClausesBelow v cs → ClausesBelow v' cs
clauses_below_more v v' [] h b = tt
clauses_below_more v v' (c ∷ cs) h b = (lits_below_more v v' c h b.0, clauses_below_more v v' cs h b.1)

pub lits_below_append : (v : ℕ) (a b : List ℕ) → LitsBelow v a → LitsBelow v b → LitsBelow v (a ++ b)
lits_below_append v [] b p q = q
lits_below_append v (x ∷ a) b p q = (p.0, lits_below_append v a b p.1 q)

pub clauses_below_append : (v : ℕ) (a b : List (List ℕ)) → ClausesBelow v a → ClausesBelow v b → ClausesBelow v (a ++ b)
clauses_below_append v [] b p q = q
clauses_below_append v (x ∷ a) b p q = (p.0, clauses_below_append v a b p.1 q)

pub clauses_below_split : (v : ℕ) (a b : List (List ℕ)) → ClausesBelow v (a ++ b) → ClausesBelow v a × ClausesBelow v b
clauses_below_split v [] b h = (tt, h)
clauses_below_split v (x ∷ a) b h = let (p, q) = clauses_below_split v a b h.1 in ((h.0, p), q)

-- f from variable v on, α below
pub over : ℕ → (ℕ → Bool) → Assignment → Assignment
over v f α x = cond (ltb x v) (α x) (f (x - v))

pub over_agree : (v : ℕ) (f : ℕ → Bool) (α : Assignment) → Agree v α (over v f α)
unfolding over
over_agree v f α x h = rw (lt-ltb x v h)

pub over_new : (v : ℕ) (f : ℕ → Bool) (α : Assignment) (i : ℕ) → over v f α (v + i) ≡ f i
unfolding over
over_new v f α i = rw (le-ltb (v + i) v (omega arith)) (ap f (omega arith))

-- what a first set ties and a second ties over it, the two tie together
pub compose : {v v' v'' : ℕ} {P R P' R' : Assignment → Type 0} {a b : List (List ℕ)} (S : Assignment → Type 0)
    → Encodes v v' P R a → Encodes v' v'' P' R' b
    → ((α β : Assignment) → Agree v α β → P α → P β)
    → ((α β : Assignment) → Agree v α β → S α → S β)
    → ((α : Assignment) → P α → S α → R α)
    → ((α : Assignment) → P α → So (sat α a) → P' α × (S α ↔ R' α))
    → Encodes v v'' P S (a ++ b)
compose {v} {v'} {v''} {P} {R} {P'} {R'} {a} {b} S A B stable-P stable-S need link =
    record {
      grows = omega (arith, A.grows, B.grows);
      below = clauses_below_append v'' a b (clauses_below_more v' v'' a B.grows A.below) B.below;
      sound = λ α p h. (link α p ((both α).0 h).0).1.1 (B.sound α (link α p ((both α).0 h).0).0 ((both α).0 h).1);
      complete = λ α p s.
          let (β, g, h) = A.complete α p (need α p s) in
          let l = link β (stable-P α β g p) h in
          let (γ, g', h') = B.complete β l.0 (l.1.0 (stable-S α β g s)) in
          (γ, agree_trans v α β γ g (agree_less v v' β γ A.grows g'), (both γ).1 (sym (sat_agree v' β γ g' a A.below) ∙ h, h'));
      unique = λ α β p g h k.
          B.unique α β (link α p ((both α).0 h).0).0 (A.unique α β p g ((both α).0 h).0 ((both β).0 k).0) ((both α).0 h).1 ((both β).0 k).1;
    }
  where
    both : (α : Assignment) → So (sat α (a ++ b)) ↔ (So (sat α a) × So (sat α b))
    both α = sat_both α a b

-- no clause ties nothing
pub nothing : (v : ℕ) (P : Assignment → Type 0) → Encodes v v P (λ α. Unit {0}) []
nothing v P =
    record {
      grows = omega arith;
      below = tt;
      sound = λ α p h. tt;
      complete = λ α p r. (α, (λ x h. refl), refl);
      unique = λ α β p g h k. g;
    }

-- the same, said in another way
pub means : {v v' : ℕ} {P R S : Assignment → Type 0} {a : List (List ℕ)} → ((α : Assignment) → R α ↔ S α) → Encodes v v' P R a → Encodes v v' P S a
means is A =
    record {
      grows = A.grows;
      below = A.below;
      sound = λ α p h. (is α).0 (A.sound α p h);
      complete = λ α p s. A.complete α p ((is α).1 s);
      unique = A.unique;
    }

-- what the first v variables decide holds exactly where the clauses can be completed
pub exactly_when : {v v' : ℕ} {R : Assignment → Type 0} {cs : List (List ℕ)} → ((α β : Assignment) → Agree v α β → R β → R α)
    → Encodes v v' Any R cs → (α : Assignment) → Completed v cs α ↔ R α
exactly_when same E α = (λ (β, g, h). same α β g (E.sound β tt h), λ r. E.complete α tt r)

-- where nothing is asked and nothing said
pub then : {v v' v'' : ℕ} {a b : List (List ℕ)} → Encodes v v' Any Any a → Encodes v' v'' Any Any b → Encodes v v'' Any Any (a ++ b)
then A B = compose Any A B (λ α β g _. tt) (λ α β g _. tt) (λ α _ _. tt) (λ α _ _. (tt, (λ _. tt, λ _. tt)))

-- what always holds need not be asked
pub freely : {v v' : ℕ} {P R : Assignment → Type 0} {a : List (List ℕ)} → ((α : Assignment) → P α) → Encodes v v' P R a → Encodes v v' Any R a
freely p A =
    record {
      grows = A.grows;
      below = A.below;
      sound = λ α _ h. A.sound α (p α) h;
      complete = λ α _ r. A.complete α (p α) r;
      unique = λ α β _ g h k. A.unique α β (p α) g h k;
    }

-- the same clauses in another order, or another list that holds just where it does
pub relist : {v v' : ℕ} {P R : Assignment → Type 0} {a : List (List ℕ)} (b : List (List ℕ)) → ((α : Assignment) → sat α a ≡ sat α b) → ClausesBelow v' b
    → Encodes v v' P R a → Encodes v v' P R b
relist b same low A =
    record {
      grows = A.grows;
      below = low;
      sound = λ α p h. A.sound α p (same α ∙ h);
      complete = λ α p r. let (β, g, h) = A.complete α p r in (β, g, sym (same β) ∙ h);
      unique = λ α β p g h k. A.unique α β p g (same α ∙ h) (same β ∙ k);
    }

-- the middle list to the front
pub front_sat : (a s m : List (List ℕ)) (α : Assignment) → sat α (a ++ (s ++ m)) ≡ sat α (s ++ (a ++ m))
front_sat a s m α = simp sat_append (swap (sat α a) (sat α s) (sat α m))
  where
    swap : (A S M : Bool) → (A && (S && M)) ≡ (S && (A && M))
    swap true true M = refl
    swap true false M = refl
    swap false true M = refl
    swap false false M = refl

pub front_below : (v : ℕ) (a s m : List (List ℕ)) → ClausesBelow v (a ++ (s ++ m)) → ClausesBelow v (s ++ (a ++ m))
front_below v a s m h =
    let (p, q) = clauses_below_split v a (s ++ m) h in
    let (r, t) = clauses_below_split v s m q in
    clauses_below_append v s (a ++ m) r (clauses_below_append v a m p t)
