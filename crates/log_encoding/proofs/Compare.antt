-- The clauses of Ne and Ge over the bits of two sums (`ne_encodes`, `ge_encodes`).
use Prim.Native.Nat.{◌*◌, ◌+◌, ◌<◌, ◌≤◌, suc, ℕ}
use borrow.Author.Tests.{eqb-false, ne_eqb, not-true}
use lib.Dec.{eqb}
use mathlib.Core.Bool.{Bool, beq, So, ◌&&◌, ◌||◌, cond, false, not, true}
use mathlib.Core.List.{List, [], ◌++◌, ◌∷◌}
use mathlib.Core.Logic.{◌↔◌}
use mathlib.Core.Path.{◌∙◌, ◌≡◌, ap, refl, sym}
use native.Mathlib.Omega.{arith}
use Rattle.arithmetic.proofs.Tests.{So_same, and_true, eqb_same, never, or_assoc}
use Rattle.sat.specs.Clause.{Assignment, bit, clause_sat, holds, sat}
use Rattle.sat.specs.Encodes.{Agree, ClausesBelow, Encodes, LitsBelow}
use Rattle.sat.specs.Number.{code_of}
use Rattle.sat.proofs.Clauses.{clause_sat_append, clause_sat_snoc}
use Rattle.sat.proofs.Extend.{bit_agree, clause_sat_agree, compose, holds_agree, lits_below_append, lits_below_more, means}
use Rattle.sat.proofs.Gate.{check, gate, gate_value}
use Rattle.sat.proofs.Lits.{holds_neg, holds_plain, neg_below}
use Rattle.sat.proofs.Number.{code_agree}
use Rattle.log_encoding.specs.Compare.{first_gate, ge_first, ge_from, ne_bits, none_of, sub_gate, xor_gate}

xor_table : (a p n : Bool)
    → ((not a || (p || (n || false))) && ((not a || (not p || (not n || false))) && ((a || (p || (not n || false))) && ((a || (not p || (n || false))) && true))))
    ≡ beq a (not (beq p n))
xor_table true true true = refl
xor_table true true false = refl
xor_table true false true = refl
xor_table true false false = refl
xor_table false true true = refl
xor_table false true false = refl
xor_table false false true = refl
xor_table false false false = refl

xor_is : (v p n : ℕ) (α : Assignment) → sat α (xor_gate (2 * v) p n) ≡ beq (α v) (not (beq (holds α p) (holds α n)))
xor_is v p n α = simp (holds_neg, holds_plain) (xor_table (α v) (holds α p) (holds α n))

-- Ne -----------------------------------------------------------------------------------------------------------------

clause_sat_code : (α : Assignment) (ls : List ℕ) → clause_sat α ls ≡ not (eqb (code_of α ls) 0)
clause_sat_code α [] = refl
clause_sat_code α (l ∷ ls) = go (holds α l) (clause_sat_code α ls)
  where
    go : (t : Bool) → clause_sat α ls ≡ not (eqb (code_of α ls) 0) → (t || clause_sat α ls) ≡ not (eqb (cond t 1 0 + 2 * code_of α ls) 0)
    go true h = sym (ap not (ne_eqb (1 + 2 * code_of α ls) 0 (omega arith)))
    go false h = h ∙ ap not (eqb_same (code_of α ls) 0 (0 + 2 * code_of α ls) 0 (omega arith))

-- the two lowest bits, and the rest
differ : (p n : Bool) (x y : ℕ) → (not (beq p n) || not (eqb x y)) ≡ not (eqb (cond p 1 0 + 2 * x) (cond n 1 0 + 2 * y))
differ true true x y = ap not (eqb_same x y (1 + 2 * x) (1 + 2 * y) (omega arith))
differ true false x y = sym (ap not (ne_eqb (1 + 2 * x) (0 + 2 * y) (omega arith)))
differ false true x y = sym (ap not (ne_eqb (0 + 2 * x) (1 + 2 * y) (omega arith)))
differ false false x y = ap not (eqb_same x y (0 + 2 * x) (0 + 2 * y) (omega arith))

abbrev Differs : List ℕ → List ℕ → List ℕ → Assignment → Bool
Differs front ps ns α = clause_sat α front || not (eqb (code_of α ps) (code_of α ns))

differs_agree : (v : ℕ) (α β : Assignment) → Agree v α β → (front ps ns : List ℕ) → LitsBelow v front → LitsBelow v ps → LitsBelow v ns
    → Differs front ps ns α ≡ Differs front ps ns β
differs_agree v α β g front ps ns f p n = rw (clause_sat_agree v α β g front f, code_agree v α β g ps p, code_agree v α β g ns n)

ne_from : (ps ns front : List ℕ) (v : ℕ) → LitsBelow v ps → LitsBelow v ns → LitsBelow v front
    → Encodes v (ne_bits ps ns front v).vars (λ α. Unit {0}) (λ α. So (Differs front ps ns α)) (ne_bits ps ns front v).clauses
ne_from [] ns front v p n f =
    check v (λ α. Unit {0}) (λ α. So (Differs front [] ns α)) ((front ++ ns) ∷ []) (lits_below_append v front ns f n, tt)
    (λ α.
    So_same
    (and_true (clause_sat α (front ++ ns)) ∙ clause_sat_append α front ns
    ∙ ap (λ t. clause_sat α front || t) (clause_sat_code α ns ∙ ap not (eqb_same (code_of α ns) 0 0 (code_of α ns) (omega arith)))))
ne_from (x ∷ ps) [] front v p n f =
    check v (λ α. Unit {0}) (λ α. So (Differs front (x ∷ ps) [] α)) ((front ++ (x ∷ ps)) ∷ []) (lits_below_append v front (x ∷ ps) f p, tt)
    (λ α. So_same (and_true (clause_sat α (front ++ (x ∷ ps))) ∙ clause_sat_append α front (x ∷ ps) ∙ ap (λ t. clause_sat α front || t) (clause_sat_code α (x ∷ ps))))
ne_from (x ∷ ps) (y ∷ ns) front v p n f =
    compose
    (λ α. So (Differs front (x ∷ ps) (y ∷ ns) α))
    (gate v (xor_gate (2 * v) x y) (λ α. not (beq (holds α x) (holds α y))) (xor_is v x y) (λ α. Unit {0})
    (omega (arith, neg_below (suc v) (2 * v) (omega arith), neg_below (suc v) x (omega arith), neg_below (suc v) y (omega arith)))
    (λ α β g. rw (holds_agree v α β g x p.0, holds_agree v α β g y n.0)))
    (ne_from ps ns (front ++ (2 * v ∷ [])) (suc v) (lits_below_more v (suc v) ps (omega arith) p.1) (lits_below_more v (suc v) ns (omega arith) n.1)
    (lits_below_append (suc v) front (2 * v ∷ []) (lits_below_more v (suc v) front (omega arith) f) (omega arith, tt)))
    (λ α β g _. tt)
    (λ α β g s. sym (differs_agree v α β g front (x ∷ ps) (y ∷ ns) f p n) ∙ s)
    (λ α _ s. tt)
    (λ α _ h. (tt, So_same (sym (link α (gate_value v (xor_gate (2 * v) x y) _ (xor_is v x y) α h)))))
  where
    link : (α : Assignment) → α v ≡ not (beq (holds α x) (holds α y)) → Differs (front ++ (2 * v ∷ [])) ps ns α ≡ Differs front (x ∷ ps) (y ∷ ns) α
    link α e = rw (clause_sat_snoc, holds_plain, e, or_assoc, differ (holds α x) (holds α y))

-- the clauses of Ne hold where the two sums differ
pub ne_encodes : (ps ns : List ℕ) (v : ℕ) → LitsBelow v ps → LitsBelow v ns
    → Encodes v (ne_bits ps ns [] v).vars (λ α. Unit {0}) (λ α. code_of α ps ≡ code_of α ns → ⊥) (ne_bits ps ns [] v).clauses
ne_encodes ps ns v p n = means (λ α. differ_iff (code_of α ps) (code_of α ns)) (ne_from ps ns [] v p n tt)
  where
    differ_iff : (x y : ℕ) → So (not (eqb x y)) ↔ (x ≡ y → ⊥)
    differ_iff x y = (λ h. eqb-false x y (not-true (eqb x y) h), λ h. ap not (ne_eqb x y h))

-- Ge -----------------------------------------------------------------------------------------------------------------

first_table : (a p n : Bool)
    → ((not a || (p || (not n || false))) && ((not p || (a || false)) && ((n || (a || false)) && true))) ≡ beq a (p || not n)
first_table true true true = refl
first_table true true false = refl
first_table true false true = refl
first_table true false false = refl
first_table false true true = refl
first_table false true false = refl
first_table false false true = refl
first_table false false false = refl

first_is : (v p n : ℕ) (α : Assignment) → sat α (first_gate (2 * v) p n) ≡ beq (α v) (holds α p || not (holds α n))
first_is v p n α = simp (holds_neg, holds_plain) (first_table (α v) (holds α p) (holds α n))

abbrev above : Bool → Bool → Bool → Bool
above p n s = (p && not n) || (beq p n && s)

sub_table : (a p n s : Bool)
    → ((not a || (not n || (s || false)))
    && ((not a || (p || (not n || false)))
    && ((not a || (p || (s || false)))
    && ((not p || (n || (a || false)))
    && ((not p || (not n || (not s || (a || false)))) && ((p || (n || (not s || (a || false)))) && true))))))
    ≡ beq a (above p n s)
sub_table true true true true = refl
sub_table true true true false = refl
sub_table true true false true = refl
sub_table true true false false = refl
sub_table true false true true = refl
sub_table true false true false = refl
sub_table true false false true = refl
sub_table true false false false = refl
sub_table false true true true = refl
sub_table false true true false = refl
sub_table false true false true = refl
sub_table false true false false = refl
sub_table false false true true = refl
sub_table false false true false = refl
sub_table false false false true = refl
sub_table false false false false = refl

sub_is : (v p n s : ℕ) (α : Assignment) → sat α (sub_gate (2 * v) p n s) ≡ beq (α v) (above (holds α p) (holds α n) (holds α s))
sub_is v p n s α = simp (holds_neg, holds_plain) (sub_table (α v) (holds α p) (holds α n) (holds α s))

first_step : (p n : Bool) (x y : ℕ) → (cond n 1 0 + 2 * y ≤ cond p 1 0 + 2 * x) ↔ (suc y ≤ x + cond (p || not n) 1 0)
first_step true true x y = omega arith
first_step true false x y = omega arith
first_step false true x y = omega arith
first_step false false x y = omega arith

sub_step : (p n s : Bool) (x y : ℕ) → (suc (cond n 1 0 + 2 * y) ≤ cond p 1 0 + 2 * x + cond s 1 0) ↔ (suc y ≤ x + cond (above p n s) 1 0)
sub_step true true true x y = omega arith
sub_step true true false x y = omega arith
sub_step true false true x y = omega arith
sub_step true false false x y = omega arith
sub_step false true true x y = omega arith
sub_step false true false x y = omega arith
sub_step false false true x y = omega arith
sub_step false false false x y = omega arith

pub none_of_sat : (α : Assignment) (ns : List ℕ) → So (sat α (none_of ns)) ↔ (code_of α ns ≡ 0)
none_of_sat α [] = (λ h. refl, λ h. refl)
none_of_sat α (n ∷ ns) = rw holds_neg (go (holds α n) (sat α (none_of ns)) (none_of_sat α ns))
  where
    go : (t m : Bool) → So m ↔ (code_of α ns ≡ 0) → So ((not t || false) && m) ↔ (cond t 1 0 + 2 * code_of α ns ≡ 0)
    go true m e = (never, λ h. absurd (omega arith))
    go false m e = (λ h. omega (arith, e.0 h), λ h. e.1 (omega arith))

pub none_of_below : (v : ℕ) (ns : List ℕ) → LitsBelow v ns → ClausesBelow v (none_of ns)
none_of_below v [] b = tt
none_of_below v (n ∷ ns) b = ((neg_below v n b.0, tt), none_of_below v ns b.1)

-- of the bits passed, those of p make no less than those of n where sub holds; with the bits to come
abbrev Above : List ℕ → List ℕ → ℕ → Assignment → Type 0
Above ps ns sub α = suc (code_of α ns) ≤ code_of α ps + bit α sub

ge_rest : (ps ns : List ℕ) (sub v : ℕ) → LitsBelow v ps → LitsBelow v ns → sub < 2 * v
    → Encodes v (ge_from ps ns sub v).vars (λ α. Unit {0}) (Above ps ns sub) (ge_from ps ns sub v).clauses
ge_rest [] ns sub v p n b =
    check v (λ α. Unit {0}) (Above [] ns sub) ((sub ∷ []) ∷ none_of ns) ((b, tt), none_of_below v ns n)
    (λ α. go α (holds α sub) (sat α (none_of ns)) (none_of_sat α ns))
  where
    go : (α : Assignment) (t m : Bool) → So m ↔ (code_of α ns ≡ 0) → So ((t || false) && m) ↔ (suc (code_of α ns) ≤ 0 + cond t 1 0)
    go α true m e = (λ h. omega (arith, e.0 h), λ h. e.1 (omega arith))
    go α false m e = (never, λ h. absurd (omega arith))
ge_rest (x ∷ ps) [] sub v p n b =
    check v (λ α. Unit {0}) (Above (x ∷ ps) [] sub) ((sub ∷ x ∷ ps) ∷ []) ((b, p), tt)
    (λ α. rw (and_true, clause_sat_code α (x ∷ ps)) (go (holds α sub) (code_of α (x ∷ ps))))
  where
    go : (t : Bool) (y : ℕ) → So (t || not (eqb y 0)) ↔ (1 ≤ y + cond t 1 0)
    go true y = (λ h. omega arith, λ h. refl)
    go false y = (
      λ h. let no_zero : ¬ (y ≡ 0) = eqb-false y 0 (not-true (eqb y 0) h) in omega arith,
      λ h. ap not (ne_eqb y 0 (omega arith)),
    )
ge_rest (x ∷ ps) (y ∷ ns) sub v p n b =
    compose
    (Above (x ∷ ps) (y ∷ ns) sub)
    (gate v (sub_gate (2 * v) x y sub) (λ α. above (holds α x) (holds α y) (holds α sub)) (sub_is v x y sub) (λ α. Unit {0})
    (omega (
      arith,
      neg_below (suc v) (2 * v) (omega arith),
      neg_below (suc v) x (omega arith),
      neg_below (suc v) y (omega arith),
      neg_below (suc v) sub (omega arith),
    ))
    (λ α β g. rw (holds_agree v α β g x p.0, holds_agree v α β g y n.0, holds_agree v α β g sub b)))
    (ge_rest ps ns (2 * v) (suc v) (lits_below_more v (suc v) ps (omega arith) p.1) (lits_below_more v (suc v) ns (omega arith) n.1) (omega arith))
    (λ α β g _. tt)
    (λ α β g s. omega (arith, code_agree v α β g (x ∷ ps) p, code_agree v α β g (y ∷ ns) n, bit_agree v α β g sub b))
    (λ α _ s. tt)
    (λ α _ h. (
      tt,
      rw (holds_plain, gate_value v (sub_gate (2 * v) x y sub) _ (sub_is v x y sub) α h)
          (sub_step (holds α x) (holds α y) (holds α sub) (code_of α ps) (code_of α ns)),
    ))

-- the clauses of Ge hold where the first sum is at least the second
pub ge_encodes : (x : ℕ) (ps : List ℕ) (y : ℕ) (ns : List ℕ) (v : ℕ) → LitsBelow v (x ∷ ps) → LitsBelow v (y ∷ ns)
    → Encodes v (ge_first x ps y ns v).vars (λ α. Unit {0}) (λ α. code_of α (y ∷ ns) ≤ code_of α (x ∷ ps)) (ge_first x ps y ns v).clauses
ge_encodes x ps y ns v p n =
    compose
    (λ α. code_of α (y ∷ ns) ≤ code_of α (x ∷ ps))
    (gate v (first_gate (2 * v) x y) (λ α. holds α x || not (holds α y)) (first_is v x y) (λ α. Unit {0})
    (omega (arith, neg_below (suc v) (2 * v) (omega arith), neg_below (suc v) x (omega arith), neg_below (suc v) y (omega arith)))
    (λ α β g. rw (holds_agree v α β g x p.0, holds_agree v α β g y n.0)))
    (ge_rest ps ns (2 * v) (suc v) (lits_below_more v (suc v) ps (omega arith) p.1) (lits_below_more v (suc v) ns (omega arith) n.1) (omega arith))
    (λ α β g _. tt)
    (λ α β g s. omega (arith, code_agree v α β g (x ∷ ps) p, code_agree v α β g (y ∷ ns) n))
    (λ α _ s. tt)
    (λ α _ h.
    (tt, rw (holds_plain, gate_value v (first_gate (2 * v) x y) _ (first_is v x y) α h) (first_step (holds α x) (holds α y) (code_of α ps) (code_of α ns))))
