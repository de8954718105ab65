-- A book speaks of its own switches and settings only (`satisfied_agree`); one setting more asks for its value (`one_more`, `one_less`),
-- one rule more that it holds (`rule_more`, `rule_less`).
use Prim.Native.Nat.{◌*◌, ◌+◌, ◌<◌, ◌≤◌, ℕ}
use lib.Dec.{eqb}
use lib.IntN.{◌*ℤ◌, ◌+ℤ◌, pos, ℤ}
use lib.ListN.{get_or-append, length, length-append}
use lib.Seq.{get_or_at}
use mathlib.Core.Bool.{Bool, cond, false, true}
use mathlib.Core.List.{List, [], ◌++◌, ◌∷◌}
use mathlib.Core.Path.{◌∙◌, ◌≡◌, ap, ap₂, refl, subst, sym}
use native.Mathlib.Omega.{arith}
use borrow.Author.Tests.{eqb-false, eqb-true}
use Rattle.sat.specs.Clause.{Assignment}
use Rattle.sat.specs.Encodes.{Agree}
use Rattle.sat.proofs.Extend.{holds_agree}
use Rattle.norm_csp.specs.Domain.{IntVarRepresentation, IsValue, binary, list, range}
use Rattle.norm_csp.specs.NormCsp.{AllHold, Constraint, Holds, NormCsp, Satisfied, add_constraint, add_var, linear, mul, var_at}
use Rattle.norm_csp.specs.Rules.{Compares, LinearTerm, linear_sum}

-- What a book knows ---------------------------------------------------------------------------------------------------

-- a setting's switch literal is one of n switches
abbrev pub KnownVar : ℕ → IntVarRepresentation → Type 0
KnownVar n (range low high) = Unit
KnownVar n (list ks) = Unit
KnownVar n (binary c f t) = c < 2 * n

-- a rule names settings below n
abbrev pub KnownTerms : ℕ → List LinearTerm → Type 0
KnownTerms n [] = Unit
KnownTerms n (t ∷ ts) = (t.var < n) × KnownTerms n ts

abbrev pub KnownConstraint : ℕ → Constraint → Type 0
KnownConstraint n (linear op constant terms) = KnownTerms n terms
KnownConstraint n (mul x y m) = (x < n) × (y < n) × (m < n)

abbrev pub KnownConstraints : ℕ → List Constraint → Type 0
KnownConstraints n [] = Unit
KnownConstraints n (c ∷ cs) = KnownConstraint n c × KnownConstraints n cs

pub record Known (b : NormCsp) : Type 0 where
  pub vars : (x : ℕ) → x < length b.vars → KnownVar b.switches (var_at b x)
  pub constraints : KnownConstraints (length b.vars) b.constraints

terms_more : (n m : ℕ) (ts : List LinearTerm) → n ≤ m → KnownTerms n ts → KnownTerms m ts
terms_more n m [] h k = tt
terms_more n m (t ∷ ts) h k = (omega arith, terms_more n m ts h k.1)

constraint_more : (n m : ℕ) (c : Constraint) → n ≤ m → KnownConstraint n c → KnownConstraint m c
constraint_more n m (linear op constant terms) h k = terms_more n m terms h k
constraint_more n m (mul x y z) h k = (omega arith, omega arith, omega arith)

constraints_more : (n m : ℕ) (cs : List Constraint) → n ≤ m → KnownConstraints n cs → KnownConstraints m cs
constraints_more n m [] h k = tt
constraints_more n m (c ∷ cs) h k = (constraint_more n m c h k.0, constraints_more n m cs h k.1)

-- Switches and numbers that agree -------------------------------------------------------------------------------------

pub value_agree : (n : ℕ) (α β : Assignment) (r : IntVarRepresentation) (z : ℤ) → KnownVar n r → Agree n α β → IsValue α r z → IsValue β r z
value_agree n α β (range low high) z k h a = a
value_agree n α β (list ks) z k h a = a
value_agree n α β (binary c f t) z k h a = a ∙ ap (λ b. cond b t f) (holds_agree n α β h c k)

module _ (n : ℕ) (f g : ℕ → ℤ) (same : (x : ℕ) → x < n → f x ≡ g x) where
  sum_agree : (constant : ℤ) (ts : List LinearTerm) → KnownTerms n ts → linear_sum f constant ts ≡ linear_sum g constant ts
  sum_agree constant [] k = refl
  sum_agree constant (t ∷ ts) k = ap₂ (λ a b. t.coef *ℤ a +ℤ b) (same t.var k.0) (sum_agree constant ts k.1)

  pub holds_same : (c : Constraint) → KnownConstraint n c → Holds f c ≡ Holds g c
  holds_same (linear op constant terms) k = ap (Compares op) (sum_agree constant terms k)
  holds_same (mul x y m) k = λ i. same x k.0 i *ℤ same y k.1 i ≡ same m k.2 i

  pub all_agree : (cs : List Constraint) → KnownConstraints n cs → AllHold f cs → AllHold g cs
  all_agree [] k h = tt
  all_agree (c ∷ cs) k h = (subst (λ (T : Type 0). T) (holds_same c k.0) h.0, all_agree cs k.1 h.1)

pub satisfied_agree : (b : NormCsp) (α β : Assignment) (f g : ℕ → ℤ) → Known b → Agree b.switches α β
    → ((x : ℕ) → x < length b.vars → f x ≡ g x) → Satisfied b α f → Satisfied b β g
satisfied_agree b α β f g k h same s =
    record {
      values = λ x lt. value_agree b.switches α β (var_at b x) (g x) (k.vars x lt) h (subst (IsValue α (var_at b x)) (same x lt) (s.values x lt));
      rules = all_agree (length b.vars) f g same b.constraints k.constraints s.rules;
    }

-- One setting more -----------------------------------------------------------------------------------------------------

module _ (b : NormCsp) (r : IntVarRepresentation) where
  pub vars_more : length (add_var r b).vars ≡ length b.vars + 1
  vars_more = length-append b.vars (r ∷ [])

  old_var : (x : ℕ) → x < length b.vars → var_at (add_var r b) x ≡ var_at b x
  old_var x h = get_or-append b.vars (r ∷ []) (range (pos 0) (pos 0)) x h

  pub new_var : var_at (add_var r b) (length b.vars) ≡ r
  new_var = get_or_at b.vars r [] (range (pos 0) (pos 0)) (length b.vars) refl

  -- what holds of the settings so far and of the new one holds of all
  all_vars : (P : ℕ → IntVarRepresentation → Type 0) → ((x : ℕ) → x < length b.vars → P x (var_at b x)) → P (length b.vars) r
      → (x : ℕ) → x < length (add_var r b).vars → P x (var_at (add_var r b) x)
  all_vars P old new x h = go (eqb x (length b.vars)) refl
    where
      go : (t : Bool) → eqb x (length b.vars) ≡ t → P x (var_at (add_var r b) x)
      go true e =
          let i = eqb-true x (length b.vars) e in
          subst (λ (y : ℕ). P y (var_at (add_var r b) y)) (sym i) (subst (P (length b.vars)) (sym new_var) new)
      go false e =
          let i = eqb-false x (length b.vars) e in
          let lt : x < length b.vars = omega (arith, vars_more) in
          subst (P x) (sym (old_var x lt)) (old x lt)

  pub known_more : Known b → KnownVar b.switches r → Known (add_var r b)
  known_more k n =
      record {
        vars = all_vars (λ x v. KnownVar b.switches v) k.vars n;
        constraints = constraints_more (length b.vars) (length (add_var r b).vars) b.constraints (omega (arith, vars_more)) k.constraints;
      }

  pub one_more : (α : Assignment) (f : ℕ → ℤ) → Satisfied b α f → IsValue α r (f (length b.vars)) → Satisfied (add_var r b) α f
  one_more α f s v = record { values = all_vars (λ x w. IsValue α w (f x)) s.values v; rules = s.rules }

  pub one_less : (α : Assignment) (f : ℕ → ℤ) → Satisfied (add_var r b) α f → Satisfied b α f × IsValue α r (f (length b.vars))
  one_less α f s = (
    record {
      values = λ x h. subst (λ (w : IntVarRepresentation). IsValue α w (f x)) (old_var x h) (s.values x (omega (arith, vars_more)));
      rules = s.rules;
    },
    subst (λ (w : IntVarRepresentation). IsValue α w (f (length b.vars))) new_var (s.values (length b.vars) (omega (arith, vars_more))),
  )

-- One rule more -------------------------------------------------------------------------------------------------------

knows_snoc : (n : ℕ) (cs : List Constraint) (c : Constraint) → KnownConstraints n cs → KnownConstraint n c → KnownConstraints n (cs ++ (c ∷ []))
knows_snoc n [] c h k = (k, tt)
knows_snoc n (d ∷ cs) c h k = (h.0, knows_snoc n cs c h.1 k)

hold_snoc : (f : ℕ → ℤ) (cs : List Constraint) (c : Constraint) → AllHold f cs → Holds f c → AllHold f (cs ++ (c ∷ []))
hold_snoc f [] c h k = (k, tt)
hold_snoc f (d ∷ cs) c h k = (h.0, hold_snoc f cs c h.1 k)

hold_split : (f : ℕ → ℤ) (cs : List Constraint) (c : Constraint) → AllHold f (cs ++ (c ∷ [])) → AllHold f cs × Holds f c
hold_split f [] c h = (tt, h.0)
hold_split f (d ∷ cs) c h = let (p, q) = hold_split f cs c h.1 in ((h.0, p), q)

module _ (b : NormCsp) (c : Constraint) where
  pub rule_known : Known b → KnownConstraint (length b.vars) c → Known (add_constraint c b)
  rule_known k n = record { vars = k.vars; constraints = knows_snoc (length b.vars) b.constraints c k.constraints n }

  pub rule_more : (α : Assignment) (f : ℕ → ℤ) → Satisfied b α f → Holds f c → Satisfied (add_constraint c b) α f
  rule_more α f s h = record { values = s.values; rules = hold_snoc f b.constraints c s.rules h }

  pub rule_less : (α : Assignment) (f : ℕ → ℤ) → Satisfied (add_constraint c b) α f → Satisfied b α f × Holds f c
  rule_less α f s = let (p, q) = hold_split f b.constraints c s.rules in (record { values = s.values; rules = p }, q)
